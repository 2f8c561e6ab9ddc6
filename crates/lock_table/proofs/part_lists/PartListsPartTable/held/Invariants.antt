use Rattle.std.proofs.Common.{◌≡◌, take}
use Rattle.modes_core.specs.ModeSet.{set_has}
use Rattle.lock_table.specs.PartView.{holds_in}
use Rattle.lock_table.proofs.part_lists.PartListsPartTable.held.Given as goal

abbrev pub invariant-loop-hold : goal.invariant-loop-hold
invariant-loop-hold l = set_has l.modes ≡ holds_in (take l.hold-index l.hold-items) l.fn.session l.fn.tag
