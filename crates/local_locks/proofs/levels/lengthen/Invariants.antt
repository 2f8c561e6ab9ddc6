use Rattle.std.proofs.Common.{◌≡◌, ℕ, ◌≤◌, length}
use Rattle.local_locks.specs.Levels.{row_at}
use Rattle.local_locks.proofs.levels.lengthen.Given as goal

abbrev pub invariant-loop : goal.invariant-loop
invariant-loop l = record {
  number : length l.outer.items ≡ l.counter;
  longer : length l.initial.outer.items ≤ length l.outer.items;
  same : (k : ℕ) → row_at l.outer.items k ≡ row_at l.initial.outer.items k;
}
