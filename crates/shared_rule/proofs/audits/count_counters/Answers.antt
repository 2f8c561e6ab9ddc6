use Rattle.std.proofs.Common.{refl, ap, ◌∙◌}
use Rattle.shared_rule.specs.Plays.{side_of, Side}
use Rattle.shared_rule.proofs.Lemmas.Auditing.{counters-none, counters-load}
use Rattle.shared_rule.proofs.Lemmas.FurtherViews.{same-seat, same-seat_then}
use Rattle.shared_rule.proofs.audits.count_counters.Goals as goal

pub loop-index-init : goal.loop-index-init
loop-index-init g c = record {
  seat = same-seat c.args.seat.now;
  shelves = refl;
  seen = counters-none g.T.PartTable.content (side_of c.args.seat.now).0 c.requires.session;
}

pub loop-index-preserved : goal.loop-index-preserved
loop-index-preserved g c =
    let so_far = c.loop-index.invariant in
    record {
      seat = same-seat_then c.args.seat.now c.loop-index.seat c.look_over_strong-sum.new.seat so_far.seat c.look_over_strong-sum.ensures.same_seat;
      shelves = ap (λ (m : Side g.row.T.Denot). m.1) c.look_over_strong-sum.ensures.side ∙ so_far.shelves;
      seen = counters-load g.T.PartTable.content c.loop-index.index c.requires.all.0 (side_of c.args.seat.now).0 (side_of c.loop-index.seat).0 (side_of c.look_over_strong-sum.new.seat).0
          c.loop-index.sum c.look_over_strong-sum.result c.requires.session so_far.seen c.requires.all.1 c.requires.no_slots
          (ap (λ (m : Side g.row.T.Denot). m.0) c.look_over_strong-sum.ensures.side) c.look_over_strong-sum.ensures.knows;
    }
