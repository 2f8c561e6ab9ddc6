use Rattle.std.proofs.Common.{◌∙◌, Bool, not, arith}
use Rattle.lock_table.specs.Request.{is_request_on}
use Rattle.lock_table.specs.declared.part_waits.PartWait.{PartWait}
use Rattle.lock_table.specs.PartView.{holds_in}
use Rattle.lock_table.specs.PartWaits.{request_of}
use Rattle.lock_table.proofs.Lemmas.HoldLists.{count_by-filter}
use Rattle.lock_table.proofs.Lemmas.WaitLists.{times_in-fewer_waits, awaited-mode, waits-left}
use Rattle.lock_table.proofs.part_lists.PartListsPartTable.leave.Goals as goal

pub invariant_of-self : goal.invariant_of-self
invariant_of-self c =
    let stays : PartWait → Bool = λ wait. not (is_request_on (request_of wait) c.args.session c.args.tag.now) in
    let fewer = times_in-fewer_waits stays c.self.inside.holds.items c.self.inside.waits.items in
    record {
      each_once = rw c.take_wait_out.ensures.items (λ s o m. omega (arith, fewer s o m, c.self.invariant.each_once s o m));
      one_wait_each =
          rw c.take_wait_out.ensures.items
          (λ s o. omega (arith, count_by-filter (λ wait. is_request_on (request_of wait) s o) stays c.self.inside.waits.items, c.self.invariant.one_wait_each s o));
      begun_is_new = λ x is. rw c.take_wait_out.ensures.items (omega (arith, fewer x.session x.tag x.mode, c.self.invariant.begun_is_new x is));
      room = omega (arith, c.self.invariant.room, c.take_wait_out.ensures.len);
      begun_has_room = λ x is. omega (arith, c.self.invariant.begun_has_room x is, c.take_wait_out.ensures.len);
      begun_may_wait = λ x is. omega (arith, c.self.invariant.begun_may_wait x is, c.take_wait_out.ensures.len, c.take_wait_out.ensures.capacity);
      woken_room = omega (arith, c.self.invariant.woken_room, c.take_wait_out.ensures.len);
      begun_may_be_woken = λ x is. omega (arith, c.self.invariant.begun_may_be_woken x is, c.take_wait_out.ensures.len);
    }

pub returns-clause-mode : goal.returns-clause-mode
returns-clause-mode c =
    c.awaited_mode-mode.ensures
    ∙ rw (c.as_slice.ensures.value, ← c.self.view_is) (awaited-mode c.self.inside.waits.items c.args.session c.args.tag.now)

pub returns-clause-content : goal.returns-clause-content
returns-clause-content c =
    rw (c.take_wait_out.ensures.items, ← c.self.view_is)
    (λ i. record { holds = holds_in c.self.inside.holds.items; waits = waits-left c.self.inside.waits.items c.args.session c.args.tag.now i })
