use Rattle.std.proofs.Common.{◌≡◌, ◌+◌, ◌-◌, ◌≤◌, take, drop, length, vec_len, vec_capacity}
use Rattle.lock_table.proofs.Lemmas.Waking.{Waking}
use Rattle.lock_table.proofs.part_waits.wake_queue.Given as goal

abbrev pub invariant-loop-place : goal.invariant-loop-place
invariant-loop-place l =
    record {
      waking : Waking l.fn.holds.items l.fn.waits.items l.tag l.holds.items (take l.place l.waits.items) (drop l.place l.waits.items) l.woken.items;
      within : l.place ≤ length l.waits.items;
      len : vec_len l.holds + vec_len l.waits ≡ vec_len l.fn.holds + vec_len l.fn.waits;
      fewer : vec_len l.waits ≤ vec_len l.fn.waits;
      named : vec_len l.woken + vec_len l.waits ≤ vec_len l.fn.waits;
      capacity : (vec_capacity l.holds ≡ vec_capacity l.fn.holds) × (vec_capacity l.waits ≡ vec_capacity l.fn.waits)
          × (vec_capacity l.woken ≡ vec_capacity l.fn.woken);
    }

abbrev pub decreases-loop-place : goal.decreases-loop-place
decreases-loop-place l = vec_len l.waits - l.place
