use Rattle.std.proofs.Common.{◌≡◌, ◌⊎◌, ℕ, ◌≤◌, ◌<◌, length, take}
use Rattle.local_locks.specs.Levels.{row_at}
use Rattle.local_locks.proofs.levels.cut_all.Given as goal

abbrev pub invariant-loop-place : goal.invariant-loop-place
invariant-loop-place l = record {
  number : length l.outer.items ≡ length l.initial.outer.items;
  reach : (l.place ≤ l.from) ⊎ (l.place ≤ l.to);
  began : l.from ≤ l.place;
  cut : (k : ℕ) → l.from ≤ k → k < l.place → row_at l.outer.items k ≡ take l.depth (row_at l.initial.outer.items k);
  before : (k : ℕ) → k < l.from → row_at l.outer.items k ≡ row_at l.initial.outer.items k;
  rest : (k : ℕ) → l.place ≤ k → row_at l.outer.items k ≡ row_at l.initial.outer.items k;
}
