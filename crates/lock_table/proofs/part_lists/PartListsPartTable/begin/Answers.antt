use Rattle.std.proofs.Common.{◌≡◌, ap, arith}
use Rattle.lock_table.specs.PartWaits.{times_in}
use Rattle.lock_table.proofs.Lemmas.Options.{ForSome-some}
use Rattle.lock_table.proofs.Lemmas.WaitLists.{times_in-none}
use Rattle.lock_table.proofs.part_lists.PartListsPartTable.begin.Goals as goal

pub invariant_of-self : goal.invariant_of-self
invariant_of-self c =
    record {
      each_once = rw c.reserve.ensures.items c.self.invariant.each_once;
      one_wait_each = c.self.invariant.one_wait_each;
      begun_is_new = rw c.reserve.ensures.items c.self.invariant.begun_is_new;
      room = omega (arith, c.self.invariant.room, c.reserve.ensures.len, c.reserve.ensures.capacity);
      begun_has_room = λ x is. omega (arith, c.self.invariant.begun_has_room x is, c.reserve.ensures.len, c.reserve.ensures.capacity);
      begun_may_wait = c.self.invariant.begun_may_wait;
      woken_room = c.self.invariant.woken_room;
      begun_may_be_woken = c.self.invariant.begun_may_be_woken;
    }

pub invariant_of-self-in_err-reserve-2 : goal.invariant_of-self-in_err-reserve-2
invariant_of-self-in_err-reserve-2 c =
    record {
      each_once = rw (c.reserve.ensures.items, c.reserve-2.ensures.items) c.self.invariant.each_once;
      one_wait_each = rw c.reserve-2.ensures.items c.self.invariant.one_wait_each;
      begun_is_new = rw (c.reserve.ensures.items, c.reserve-2.ensures.items) c.self.invariant.begun_is_new;
      room = omega (arith, c.self.invariant.room, c.reserve.ensures.len, c.reserve.ensures.capacity, c.reserve-2.ensures.len);
      begun_has_room = λ x is. omega (arith, c.self.invariant.begun_has_room x is, c.reserve.ensures.len, c.reserve.ensures.capacity, c.reserve-2.ensures.len);
      begun_may_wait = λ x is. omega (arith, c.self.invariant.begun_may_wait x is, c.reserve-2.ensures.len, c.reserve-2.ensures.capacity);
      woken_room = omega (arith, c.self.invariant.woken_room, c.reserve-2.ensures.len);
      begun_may_be_woken = λ x is. omega (arith, c.self.invariant.begun_may_be_woken x is, c.reserve-2.ensures.len);
    }

pub invariant_of-self-in_err-reserve-3 : goal.invariant_of-self-in_err-reserve-3
invariant_of-self-in_err-reserve-3 c =
    record {
      each_once = rw (c.reserve.ensures.items, c.reserve-2.ensures.items) c.self.invariant.each_once;
      one_wait_each = rw c.reserve-2.ensures.items c.self.invariant.one_wait_each;
      begun_is_new = rw (c.reserve.ensures.items, c.reserve-2.ensures.items) c.self.invariant.begun_is_new;
      room = omega (arith, c.self.invariant.room, c.reserve.ensures.len, c.reserve.ensures.capacity, c.reserve-2.ensures.len);
      begun_has_room = λ x is. omega (arith, c.self.invariant.begun_has_room x is, c.reserve.ensures.len, c.reserve.ensures.capacity, c.reserve-2.ensures.len);
      begun_may_wait = λ x is. omega (arith, c.self.invariant.begun_may_wait x is, c.reserve-2.ensures.len, c.reserve-2.ensures.capacity);
      woken_room = omega (arith, c.self.invariant.woken_room, c.reserve-2.ensures.len, c.clear.ensures.capacity, c.reserve-3.ensures.capacity);
      begun_may_be_woken = λ x is. omega (arith, c.self.invariant.begun_may_be_woken x is, c.reserve-2.ensures.len, c.clear.ensures.capacity, c.reserve-3.ensures.capacity);
    }

pub invariant_of-self-2 : goal.invariant_of-self-2
invariant_of-self-2 c =
    let is_new : times_in c.self.inside.holds.items c.self.inside.waits.items c.args.session c.args.tag.now c.args.mode ≡ 0 =
    times_in-none c.self.inside.holds.items c.self.inside.waits.items c.args.session c.args.tag.now c.args.mode
    (rw (ap (λ part. part.holds) c.self.view_is) c.requires.new) (rw (ap (λ part. part.waits) c.self.view_is) c.requires.not_awaited) in
    record {
      each_once = rw (c.reserve.ensures.items, c.reserve-2.ensures.items) c.self.invariant.each_once;
      one_wait_each = rw c.reserve-2.ensures.items c.self.invariant.one_wait_each;
      begun_is_new =
          ForSome-some (λ x. times_in c.reserve.new.self.items c.reserve-2.new.self.items x.session x.tag x.mode ≡ 0) _
          (rw (c.reserve.ensures.items, c.reserve-2.ensures.items) is_new);
      room = omega (arith, c.self.invariant.room, c.reserve.ensures.len, c.reserve.ensures.capacity, c.reserve-2.ensures.len);
      begun_has_room = λ x is. omega (arith, c.len.ensures, c.in_ok-reserve.ensures.ok, c.reserve.ensures.len, c.reserve-2.ensures.len);
      begun_may_wait = λ x is. omega (arith, c.in_ok-reserve-2.ensures.ok);
      woken_room = omega (arith, c.len-2.ensures, c.in_ok-reserve-3.ensures.ok, c.reserve-3.ensures.len, c.clear.ensures.len);
      begun_may_be_woken = λ x is. omega (arith, c.len-2.ensures, c.in_ok-reserve-3.ensures.ok, c.reserve-3.ensures.len, c.clear.ensures.len);
    }
