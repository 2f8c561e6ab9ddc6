use Rattle.std.proofs.Common.{◌≡◌, ◌<◌, ◌≤◌, length, true, arith, sym, refl, ◌∙◌}
use Rattle.std.proofs.lemmas.Bool.{both_ways}
use Rattle.std.specs.Vec.{vec_len}
use Rattle.lw_word.specs.declared.wait_lists.LwWaiter.{LwWaiter}
use Rattle.lw_word.specs.WaitList.{wants_to_share}
use Rattle.lw_word.specs.declared.wait_lists.TheConstants.{MOST_TAKEN_OFF}
use Rattle.lw_word.proofs.Lemmas.SharersInPlace.{takes-start, takes-one, leaves-one, takes-all}
use Rattle.lw_word.proofs.wait_lists.take_sharers_off.Goals as goal
use Rattle.lw_word.proofs.wait_lists.take_sharers_off.Goals.{then-is_shared+then-len-lt-MOST_TAKEN_OFF, else-is_shared, else-is_shared-via-then-is_shared+else-len-lt-MOST_TAKEN_OFF, else-is_shared-via-else-is_shared}

pub loop-index-init : goal.loop-index-init
loop-index-init c = record {
  so_far = rw c.new-taken.ensures (takes-start MOST_TAKEN_OFF c.args.waiters.now.items);
  behind = omega arith;
  len = refl;
  capacity = refl;
}

pub loop-index-preserved : goal.loop-index-preserved
loop-index-preserved c =
    let waiters = c.loop-index.waiters in
    let taken = c.loop-index.taken.items in
    let waiter : LwWaiter = c.index-waiter.result.now in
    let so_far = c.loop-index.invariant.so_far in
    let len : vec_len waiters ≡ length waiters.items = waiters.ok.0 in
    let within : c.loop-index.index < length waiters.items = omega (arith, len, c.loop-index.invariant.len, c.len-index-end.ensures, c.loop-index-test.true) in
    elim c.if-is_shared.branch [
      | then-is_shared+then-len-lt-MOST_TAKEN_OFF w ↦
          rw (w.waiters-is, w.taken-is, w.kept-is, w.push.ensures.items) (record {
            so_far = takes-one MOST_TAKEN_OFF c.args.waiters.now.items waiters.items taken c.loop-index.kept c.loop-index.index so_far waiter within c.index-waiter.ensures
                (sym c.is_shared.ensures ∙ w.if-is_shared.true) (omega (arith, w.len.ensures.value, w.if-len-lt-MOST_TAKEN_OFF.true));
            behind = omega (arith, c.loop-index.invariant.behind);
            len = c.loop-index.invariant.len;
            capacity = c.loop-index.invariant.capacity;
          })
      | else-is_shared w ↦
          let full : (wants_to_share waiter ≡ true) → MOST_TAKEN_OFF ≤ length taken = λ shares. elim w.else-is_shared.branch [
            | else-is_shared-via-then-is_shared+else-len-lt-MOST_TAKEN_OFF v ↦ omega (arith, v.len.ensures.value, v.if-len-lt-MOST_TAKEN_OFF.false)
            | else-is_shared-via-else-is_shared v ↦ absurd (both_ways c.is_shared.result v.if-is_shared.false (c.is_shared.ensures ∙ shares))
          ] in
          rw (w.waiters-is, w.taken-is, w.kept-is) (record {
            so_far = leaves-one MOST_TAKEN_OFF c.args.waiters.now.items waiters.items taken c.loop-index.kept c.loop-index.index so_far waiter within c.index-waiter.ensures full;
            behind = omega (arith, c.loop-index.invariant.behind);
            len = c.loop-index.invariant.len;
            capacity = c.loop-index.invariant.capacity;
          })
    ]

pub returns-clause-taken : goal.returns-clause-taken
returns-clause-taken c =
    let waiters = c.loop-index.waiters in
    let len : vec_len waiters ≡ length waiters.items = waiters.ok.0 in
    sym (takes-all MOST_TAKEN_OFF c.args.waiters.now.items waiters.items c.loop-index.taken.items c.loop-index.kept c.loop-index.index c.loop-index.invariant.so_far
    (omega (arith, len, c.loop-index.invariant.len, c.len-index-end.ensures, c.loop-index-test.false))).0

pub returns-clause-left : goal.returns-clause-left
returns-clause-left c =
    let waiters = c.loop-index.waiters in
    let len : vec_len waiters ≡ length waiters.items = waiters.ok.0 in
    c.truncate.ensures.items
    ∙ sym (takes-all MOST_TAKEN_OFF c.args.waiters.now.items waiters.items c.loop-index.taken.items c.loop-index.kept c.loop-index.index c.loop-index.invariant.so_far
    (omega (arith, len, c.loop-index.invariant.len, c.len-index-end.ensures, c.loop-index-test.false))).1
