use Rattle.std.proofs.Common.{take}
use Rattle.lock_table.specs.PartView.{holds_in}
use Rattle.lock_table.specs.Clash.{HolderInTheWay}
use Rattle.lock_table.proofs.part_lists.PartListsPartTable.conflict_of.Given as goal

abbrev pub invariant-loop-hold : goal.invariant-loop-hold
invariant-loop-hold l = HolderInTheWay (holds_in (take l.hold-index l.hold-items)) l.fn.session l.fn.tag l.fn.mode l.lowest
