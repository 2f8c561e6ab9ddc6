use Rattle.std.proofs.Common.{◌≡◌, ◌*◌, ◌≤◌}
use Rattle.shared_rule.specs.Audits.{SeesAllSlots}
use Rattle.shared_rule.specs.Plays.{side_of, IsSameSeat}
use Rattle.shared_rule.proofs.audits.count_slots.Given as goal

abbrev pub invariant-loop-number : goal.invariant-loop-number
invariant-loop-number g l = record {
  seat : IsSameSeat l.fn.seat l.seat;
  shelves : (side_of l.seat).1 ≡ (side_of l.fn.seat).1;
  sees : SeesAllSlots g.T.PartTable.content l.sizes.groups l.number (side_of l.fn.seat).0 (side_of l.seat).0 l.sum;
  few : l.sum ≤ 384 * l.number;
}
