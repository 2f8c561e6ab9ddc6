use Rattle.shared_rule.specs.Marks.{Counted}
use Rattle.shared_rule.proofs.one_thread.OneThreadBoard.add_strong.Given as goal

abbrev pub ghosts-add_strong : goal.ghosts-add_strong
ghosts-add_strong g a = record { mark = λ _. Counted a.tag.now a.mode }
