use Rattle.shared_rule.specs.Marks.{ClearedSlot}
use Rattle.shared_rule.proofs.one_thread.OneThreadBoard.clear_slot.Given as goal

abbrev pub ghosts-clear_slot : goal.ghosts-clear_slot
ghosts-clear_slot g a = record { mark = λ _. ClearedSlot a.slot a.tag.now a.mode }
