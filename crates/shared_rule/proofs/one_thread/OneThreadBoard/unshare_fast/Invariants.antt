use Rattle.shared_rule.specs.Marks.{UnsharedFast}
use Rattle.shared_rule.proofs.one_thread.OneThreadBoard.unshare_fast.Given as goal

abbrev pub ghosts-unshare_fast : goal.ghosts-unshare_fast
ghosts-unshare_fast g a = record { mark = UnsharedFast a.owner }
