use Rattle.shared_rule.specs.Plays.{side_of}
use Rattle.std.proofs.Common.{◌≡◌, ◌*◌, arith, refl, ◌∙◌, subst}
use Rattle.std.specs.Prelude.{IfSome}
use Rattle.lock_world.specs.SlotHolds.{group_size}
use Rattle.shared_rule.specs.Audits.{SeesSlots}
use Rattle.shared_rule.proofs.Lemmas.Auditing.{sees-no_session, sees-session}
use Rattle.shared_rule.proofs.Lemmas.FurtherViews.{same-seat, same-seat_then}
use Rattle.shared_rule.proofs.audits.count_slots.Goals as goal

pub loop-number-init : goal.loop-number-init
loop-number-init g c = record {
  seat = same-seat c.args.seat.now;
  shelves = refl;
  sees = sees-no_session g.T.PartTable.content c.args.sizes.now.groups (side_of c.args.seat.now).0 c.requires.session;
  few = omega arith;
}

pub loop-number-preserved : goal.loop-number-preserved
loop-number-preserved g c =
    let content = g.T.PartTable.content in
    let so_far = c.loop-number.invariant in
    let few = so_far.few in
    let most = c.count_slots_of-sum.ensures.few in
    let owner : c.unwrap-owner.result ≡ c.loop-number.number =
    subst (λ found. IfSome found (λ id. id ≡ c.loop-number.number)) c.unwrap-owner.ensures c.new.ensures.value in
    record {
      seat = same-seat_then c.args.seat.now c.loop-number.seat c.count_slots_of-sum.new.seat so_far.seat c.count_slots_of-sum.ensures.same_seat;
      shelves = c.count_slots_of-sum.ensures.shelves ∙ so_far.shelves;
      sees = sees-session content c.args.sizes.now.groups c.loop-number.number (side_of c.args.seat.now).0 (side_of c.loop-number.seat).0 (side_of c.count_slots_of-sum.new.seat).0
          c.loop-number.sum _ c.count_slots_of-sum.result c.requires.session so_far.sees
          (subst (λ k. SeesSlots content k (group_size * c.args.sizes.now.groups) (side_of c.loop-number.seat).0 (side_of c.count_slots_of-sum.new.seat).0 c.count_slots_of-sum.result) owner c.count_slots_of-sum.ensures.sees)
          refl;
      few = omega (arith, few, most);
    }
