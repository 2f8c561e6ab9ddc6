use Rattle.shared_rule.specs.Marks.{CalledWaiter}
use Rattle.shared_rule.proofs.one_thread.OneThreadBoard.wake.Given as goal

abbrev pub ghosts-call_waiter : goal.ghosts-call_waiter
ghosts-call_waiter g a = record { mark = λ _. CalledWaiter a.other }
