use Rattle.shared_rule.specs.LwLocks.{lock_number}
use Rattle.shared_rule.specs.Marks.{SetReleaseOk}
use Rattle.shared_rule.proofs.queues.sleep_for.Given as goal

abbrev pub ghosts-set_release_ok : goal.ghosts-set_release_ok
ghosts-set_release_ok g a = record { mark = λ _. SetReleaseOk (lock_number a.lock.now) }
