use Rattle.std.proofs.Common.{◌∙◌, arith}
use Rattle.lock_table.proofs.part_lists.PartListsPartTable.wake.Goals as goal

pub invariant_of-self : goal.invariant_of-self
invariant_of-self c =
    record {
      each_once = λ s o m. omega (arith, c.wake_queue.ensures.same_requests s o m, c.self.invariant.each_once s o m);
      one_wait_each = c.wake_queue.ensures.one_wait_each;
      begun_is_new = λ x is. c.wake_queue.ensures.same_requests x.session x.tag x.mode ∙ c.self.invariant.begun_is_new x is;
      room = omega (arith, c.self.invariant.room, c.wake_queue.ensures.len, c.wake_queue.ensures.capacity);
      begun_has_room = λ x is. omega (arith, c.self.invariant.begun_has_room x is, c.wake_queue.ensures.len, c.wake_queue.ensures.capacity);
      begun_may_wait = λ x is. omega (arith, c.self.invariant.begun_may_wait x is, c.wake_queue.ensures.fewer, c.wake_queue.ensures.capacity);
      woken_room = omega (arith, c.self.invariant.woken_room, c.wake_queue.ensures.fewer, c.wake_queue.ensures.capacity);
      begun_may_be_woken = λ x is. omega (arith, c.self.invariant.begun_may_be_woken x is, c.wake_queue.ensures.fewer, c.wake_queue.ensures.capacity);
    }
