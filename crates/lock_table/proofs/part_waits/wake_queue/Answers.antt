use Rattle.std.proofs.Common.{◌<◌, ◌≤◌, length, refl, ap, sym, ◌∙◌, arith, rules}
use Rattle.lock_table.proofs.Lemmas.Waking.{Waking-start, Waking-stay_at, Waking-go_at, Waking-end_at, Waking-end, same_requests-end, one_wait_each-end}
use Rattle.lock_table.proofs.part_waits.wake_queue.Goals as goal

pub loop-place-init : goal.loop-place-init
loop-place-init c =
    record {
      waking = rw c.clear.ensures.items (Waking-start c.args.holds.now.items c.args.waits.now.items c.args.tag.now);
      within = omega arith;
      len = search rules;
      fewer = omega arith;
      named = omega (arith, c.clear.ensures.len);
      capacity = (refl, refl, c.clear.ensures.capacity);
    }

pub loop-place-preserved-then-goes : goal.loop-place-preserved-then-goes
loop-place-preserved-then-goes c =
    let within : c.loop-place.place < length c.loop-place.waits.items = omega (arith, c.len.ensures, c.deref.ensures.len, ap length c.deref.ensures.value) in
    let next =
    Waking-go_at c.args.holds.now.items c.args.waits.now.items c.args.tag.now c.loop-place.holds.items c.loop-place.waits.items c.loop-place.place c.index.result.now c.loop-place.woken.items
    within c.index.ensures (rw (← c.as_slice.ensures.value, ← c.deref.ensures.value) (sym c.goes.ensures ∙ c.if-goes.true)) c.loop-place.invariant.waking in
    record {
      waking = rw (c.push_reserved.ensures.items, c.request.ensures, c.remove.ensures.items, c.push_reserved-then-goes.ensures.items, c.whose.ensures) next;
      within = omega (arith, c.remove.ensures.len, c.loop-place.waits.ok, c.remove.new.self.ok);
      len = omega (arith, c.loop-place.invariant.len, c.remove.ensures.len, c.push_reserved.ensures.len);
      fewer = omega (arith, c.loop-place.invariant.fewer, c.remove.ensures.len);
      named = omega (arith, c.loop-place.invariant.named, c.remove.ensures.len, c.push_reserved-then-goes.ensures.len);
      capacity = (
        c.push_reserved.ensures.capacity ∙ c.loop-place.invariant.capacity.0,
        c.remove.ensures.capacity ∙ c.loop-place.invariant.capacity.1,
        c.push_reserved-then-goes.ensures.capacity ∙ c.loop-place.invariant.capacity.2,
      );
    }

pub loop-place-preserved : goal.loop-place-preserved
loop-place-preserved c =
    let within : c.loop-place.place < length c.loop-place.waits.items = omega (arith, c.len.ensures, c.deref.ensures.len, ap length c.deref.ensures.value) in
    record {
      waking =
          Waking-stay_at c.args.holds.now.items c.args.waits.now.items c.args.tag.now c.loop-place.holds.items c.loop-place.waits.items c.loop-place.place c.index.result.now c.loop-place.woken.items
          within c.index.ensures (rw (← c.as_slice.ensures.value, ← c.deref.ensures.value) (sym c.goes.ensures ∙ c.if-goes.false)) c.loop-place.invariant.waking;
      within = omega arith;
      len = c.loop-place.invariant.len;
      fewer = c.loop-place.invariant.fewer;
      named = c.loop-place.invariant.named;
      capacity = c.loop-place.invariant.capacity;
    }

pub returns-clause-woken : goal.returns-clause-woken
returns-clause-woken c =
    let past : length c.loop-place.waits.items ≤ c.loop-place.place = omega (arith, c.len.ensures, c.loop-place.waits.ok) in
    Waking-end c.args.holds.now.items c.args.waits.now.items c.args.tag.now c.loop-place.holds.items c.loop-place.waits.items c.loop-place.woken.items
    (Waking-end_at _ _ _ _ _ _ _ past c.loop-place.invariant.waking)

pub returns-clause-same_requests : goal.returns-clause-same_requests
returns-clause-same_requests c =
    let past : length c.loop-place.waits.items ≤ c.loop-place.place = omega (arith, c.len.ensures, c.loop-place.waits.ok) in
    same_requests-end _ _ _ _ _ _ (Waking-end_at _ _ _ _ _ _ _ past c.loop-place.invariant.waking)

pub returns-clause-one_wait_each : goal.returns-clause-one_wait_each
returns-clause-one_wait_each c =
    let past : length c.loop-place.waits.items ≤ c.loop-place.place = omega (arith, c.len.ensures, c.loop-place.waits.ok) in
    one_wait_each-end _ _ _ _ _ _ c.requires.one_wait_each (Waking-end_at _ _ _ _ _ _ _ past c.loop-place.invariant.waking)
