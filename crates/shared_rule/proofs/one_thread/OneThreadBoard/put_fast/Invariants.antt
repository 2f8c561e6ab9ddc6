use Rattle.shared_rule.specs.Marks.{PutFast}
use Rattle.shared_rule.proofs.one_thread.OneThreadBoard.put_fast.Given as goal

abbrev pub ghosts-put_fast : goal.ghosts-put_fast
ghosts-put_fast g a = record { mark = PutFast a.owner }
