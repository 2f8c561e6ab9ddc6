use Rattle.shared_rule.specs.Marks.{Uncounted}
use Rattle.shared_rule.proofs.one_thread.OneThreadBoard.sub_strong.Given as goal

abbrev pub ghosts-sub_strong : goal.ghosts-sub_strong
ghosts-sub_strong g a = record { mark = λ _. Uncounted a.tag.now a.mode }
