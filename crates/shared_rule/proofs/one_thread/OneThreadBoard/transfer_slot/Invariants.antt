use Rattle.shared_rule.specs.Marks.{TransferredSlot}
use Rattle.shared_rule.proofs.one_thread.OneThreadBoard.transfer_slot.Given as goal

abbrev pub ghosts-transfer_slot : goal.ghosts-transfer_slot
ghosts-transfer_slot g a = record { mark = λ _. TransferredSlot a.owner a.slot a.tag.now a.mode }
