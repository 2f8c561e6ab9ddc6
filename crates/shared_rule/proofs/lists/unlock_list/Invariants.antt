use Rattle.shared_rule.specs.Marks.{UnlockedList}
use Rattle.shared_rule.proofs.lists.unlock_list.Given as goal

abbrev pub ghosts-unlock_as : goal.ghosts-unlock_as
ghosts-unlock_as g a = record { mark = λ _. UnlockedList }
