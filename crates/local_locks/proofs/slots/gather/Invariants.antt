use Rattle.std.proofs.Common.{◌≡◌, ℕ, ◌<◌, ◌≤◌, length, vec_capacity, None}
use Rattle.std.specs.Prelude.{IsSomeAnd}
use Rattle.local_locks.specs.Slots.{opened, slot_at, present}
use Rattle.local_locks.specs.Levels.{row_at, had, AreMoved}
use Rattle.local_locks.proofs.slots.gather.Given as goal

abbrev pub invariant-loop-place : goal.invariant-loop-place
invariant-loop-place l = record {
  entries : present (opened l.slots.items) ≡ present (opened l.initial.slots.items);
  number : length l.slots.items ≡ length l.initial.slots.items;
  slot_room : vec_capacity l.slots ≡ vec_capacity l.initial.slots;
  below : l.kept ≤ l.place;
  lists : length l.outer.items ≡ length l.initial.outer.items;
  moved : AreMoved (opened l.initial.slots.items) l.initial.outer.items (opened l.slots.items) l.outer.items;
  told : (level : ℕ) → had level (opened l.slots.items) (row_at l.outer.items) ≡ had level (opened l.initial.slots.items) (row_at l.initial.outer.items);
  full : (k : ℕ) → k < l.kept → IsSomeAnd (slot_at (opened l.slots.items) k) (λ _. Unit {0});
  gap : (k : ℕ) → l.kept ≤ k → k < l.place → slot_at (opened l.slots.items) k ≡ None;
}
