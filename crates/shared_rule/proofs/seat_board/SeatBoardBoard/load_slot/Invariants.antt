use Rattle.shared_rule.specs.Marks.{LoadedSlot}
use Rattle.shared_rule.proofs.seat_board.SeatBoardBoard.load_slot.Given as goal

abbrev pub ghosts-load_slot : goal.ghosts-load_slot
ghosts-load_slot g a = record { mark = LoadedSlot a.owner a.slot }
