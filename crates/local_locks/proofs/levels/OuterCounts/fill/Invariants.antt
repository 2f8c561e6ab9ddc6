use Rattle.std.proofs.Common.{◌≡◌, ℕ, ◌≤◌, length, take}
use Rattle.local_locks.specs.Levels.{had_in}
use Rattle.local_locks.proofs.levels.OuterCounts.fill.Given as goal

abbrev pub invariant-loop-level : goal.invariant-loop-level
invariant-loop-level l = record {
  number : length l.self-inside.counts ≡ 15;
  len : l.self-inside.len ≡ l.initial.self-inside.len;
  within : l.level ≤ l.depth;
  same : (k : ℕ) → had_in (take l.level l.self-inside.counts) k l.now ≡ had_in (take l.initial.self-inside.len l.initial.self-inside.counts) k l.now;
}
