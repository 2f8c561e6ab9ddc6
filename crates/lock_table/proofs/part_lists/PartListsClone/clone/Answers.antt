use Rattle.std.proofs.Common.{◌∙◌, arith}
use Rattle.lock_table.specs.PartView.{capacity_of_lists}
use Rattle.lock_table.proofs.part_lists.PartListsClone.clone.Goals as goal

pub invariant_of-result : goal.invariant_of-result
invariant_of-result c =
    let holds = c.in_ok-copy_of.ensures in
    let waits = c.in_ok-copy_of-2.ensures in
    let woken = c.in_ok-copy_of-3.ensures in
    record {
      each_once = rw (holds.items, waits.items) c.self.invariant.each_once;
      one_wait_each = rw waits.items c.self.invariant.one_wait_each;
      begun_is_new = rw (holds.items, waits.items) c.self.invariant.begun_is_new;
      room = omega (arith, c.self.invariant.room, holds.len, holds.capacity, waits.len);
      begun_has_room = λ x is. omega (arith, c.self.invariant.begun_has_room x is, holds.len, holds.capacity, waits.len);
      begun_may_wait = λ x is. omega (arith, c.self.invariant.begun_may_wait x is, waits.len, waits.capacity);
      woken_room = omega (arith, c.self.invariant.woken_room, waits.len, woken.capacity);
      begun_may_be_woken = λ x is. omega (arith, c.self.invariant.begun_may_be_woken x is, waits.len, woken.capacity);
    }

pub returns : goal.returns
returns c =
    let holds = c.in_ok-copy_of.ensures in
    let waits = c.in_ok-copy_of-2.ensures in
    let woken = c.in_ok-copy_of-3.ensures in
    record {
      cases = (λ i. record {
        holds = holds.items i;
        waits = waits.items i;
        woken = woken.items i;
        begun = c.self.inside.begun;
        prepared = c.self.inside.prepared;
        capacity = capacity_of_lists (holds.capacity i) (waits.capacity i) (woken.capacity i);
      }) ∙ c.self.view_is;
    }
