use Rattle.shared_rule.specs.Marks.{SetSlot}
use Rattle.shared_rule.proofs.seat_board.SeatBoardBoard.set_slot.Given as goal

abbrev pub ghosts-set_slot : goal.ghosts-set_slot
ghosts-set_slot g a = record { mark = λ _. SetSlot a.slot a.tag.now a.mode }
