use Rattle.std.proofs.Common.{◌≡◌, ◌*◌, ◌≤◌}
use Rattle.shared_rule.specs.Marks.{LoadedSlot}
use Rattle.shared_rule.specs.Audits.{SeesSlots}
use Rattle.shared_rule.specs.Plays.{side_of, IsSameSeat}
use Rattle.shared_rule.proofs.audits.count_slots_of.Given as goal

abbrev pub ghosts-look_over_slot : goal.ghosts-look_over_slot
ghosts-look_over_slot g a = record { mark = LoadedSlot a.owner a.slot }

abbrev pub invariant-loop-slot : goal.invariant-loop-slot
invariant-loop-slot g l = record {
  seat : IsSameSeat l.fn.seat l.seat;
  shelves : (side_of l.seat).1 ≡ (side_of l.fn.seat).1;
  sees : SeesSlots g.T.PartTable.content l.owner l.slot (side_of l.fn.seat).0 (side_of l.seat).0 l.sum;
  few : l.sum ≤ 3 * l.slot;
}
