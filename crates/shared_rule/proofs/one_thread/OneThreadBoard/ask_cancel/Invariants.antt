use Rattle.shared_rule.specs.Marks.{Asked}
use Rattle.shared_rule.proofs.one_thread.OneThreadBoard.ask_cancel.Given as goal

abbrev pub ghosts-ask_cancel : goal.ghosts-ask_cancel
ghosts-ask_cancel g a = record { mark = Asked a.other }
