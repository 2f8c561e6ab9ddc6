use Rattle.shared_rule.specs.Marks.{TransferredSlot}
use Rattle.shared_rule.proofs.seat_board.SeatBoardBoard.transfer_slot.Given as goal

abbrev pub ghosts-transfer_slot : goal.ghosts-transfer_slot
ghosts-transfer_slot g a = record { mark = λ _. TransferredSlot a.owner a.slot a.tag.now a.mode }
