use Rattle.shared_rule.specs.Marks.{SetWaiting}
use Rattle.shared_rule.proofs.one_thread.OneThreadBoard.set_waiting.Given as goal

abbrev pub ghosts-set_waiting : goal.ghosts-set_waiting
ghosts-set_waiting g a = record { mark = λ _. SetWaiting a.tag.now a.mode a.content.now }
