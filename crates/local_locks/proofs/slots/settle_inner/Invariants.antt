use Rattle.std.proofs.Common.{◌≡◌, ◌-◌, length, vec_capacity}
use Rattle.local_locks.proofs.Lemmas.Rows.{Goes_on}
use Rattle.local_locks.proofs.slots.settle_inner.Given as goal

abbrev pub invariant-loop-place : goal.invariant-loop-place
invariant-loop-place l = record {
  goes_on : Goes_on (l.depth - 1) l.initial.slots.items l.slots.items l.initial.outer.items l.outer.items l.place;
  number : length l.slots.items ≡ length l.initial.slots.items;
  lists : length l.outer.items ≡ length l.initial.outer.items;
  capacity : vec_capacity l.slots ≡ vec_capacity l.initial.slots;
}
