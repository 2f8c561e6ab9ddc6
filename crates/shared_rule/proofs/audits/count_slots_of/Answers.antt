use Rattle.std.proofs.Common.{◌+◌, arith, refl, ap, ◌∙◌}
use Rattle.shared_rule.specs.Plays.{side_of, Side}
use Rattle.shared_rule.proofs.Lemmas.Auditing.{sees-none, sees-load}
use Rattle.shared_rule.proofs.Lemmas.FurtherViews.{same-seat, same-seat_then}
use Rattle.shared_rule.proofs.audits.count_slots_of.Goals as goal

pub loop-slot-init : goal.loop-slot-init
loop-slot-init g c = record {
  seat = same-seat c.args.seat.now;
  shelves = refl;
  sees = sees-none g.T.PartTable.content c.args.owner (side_of c.args.seat.now).0 c.requires.session;
  few = omega arith;
}

pub loop-slot-preserved : goal.loop-slot-preserved
loop-slot-preserved g c =
    let content = g.T.PartTable.content in
    let so_far = c.loop-slot.invariant in
    let few = so_far.few in
    let most = c.modes_in-sum.ensures.few in
    record {
      seat = same-seat_then c.args.seat.now c.loop-slot.seat c.look_over_slot.new.seat so_far.seat c.look_over_slot.ensures.same_seat;
      shelves = ap (λ (m : Side g.row.T.Denot). m.1) c.look_over_slot.ensures.side ∙ so_far.shelves;
      sees = sees-load content c.args.owner c.loop-slot.slot (side_of c.args.seat.now).0 (side_of c.loop-slot.seat).0 (side_of c.look_over_slot.new.seat).0
          c.loop-slot.sum _ c.look_over_slot.result c.requires.session so_far.sees
          (ap (λ (m : Side g.row.T.Denot). m.0) c.look_over_slot.ensures.side) c.look_over_slot.ensures.knows
          (ap (λ n. c.loop-slot.sum + n) c.modes_in-sum.ensures.modes);
      few = omega (arith, few, most);
    }
