use Rattle.shared_rule.specs.Marks.{LeftList}
use Rattle.shared_rule.proofs.lists.leave_list.Given as goal

abbrev pub ghosts-store_as : goal.ghosts-store_as
ghosts-store_as g a = record { mark = λ _. LeftList }
