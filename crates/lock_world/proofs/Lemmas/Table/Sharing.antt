use Rattle.std.proofs.Common.{ℕ, Bool, Option}
use Rattle.lock_world.specs.World.{World}
use Rattle.lock_world.specs.Safe.{TableIsSafe, WordsShowHolders}
use Rattle.lock_world.proofs.Lemmas.Table.Beside.{beside-table, same-table}

-- A World of which the words of partitions, and who shares them, alone have changed.
abbrev pub with_partition_words : World → (ℕ → ℕ) → (ℕ → ℕ → Bool) → World
with_partition_words w word shares = record {
  words = record (w.words) { partition = word };
  contents = w.contents;
  sessions = record (w.sessions) { shares_partition = shares };
  numbers = w.numbers;
}

pub with_partition_words-table : (w : World) (word : ℕ → ℕ) (shares : ℕ → ℕ → Bool) → TableIsSafe w → WordsShowHolders w.numbers.limit word w.sessions.holds_partition shares
    → TableIsSafe (with_partition_words w word shares)
with_partition_words-table w word shares safe words = beside-table w (with_partition_words w word shares) safe words safe.promise.spent safe.carriers.numbers

-- A World with other words of sessions' fast-path locks, other counters read as 0 and other slots as
-- remembered: no fact of partitions, waits and numbers speaks of them.
abbrev pub with_fast_words :
    World → (ℕ → ℕ) → (ℕ → ℕ → Bool) → (ℕ → ℕ → Bool) → (ℕ → Option ℕ) → (ℕ → ℕ → ℕ) → World
with_fast_words w word holds shares zero remembered = record {
  words = record (w.words) { fast = word };
  contents = w.contents;
  sessions = record (w.sessions) { holds_fast = holds; shares_fast = shares; zero = zero; remembered = remembered };
  numbers = w.numbers;
}

pub with_fast_words-table :
    (w : World) (word : ℕ → ℕ) (holds shares : ℕ → ℕ → Bool) (zero : ℕ → Option ℕ) (remembered : ℕ → ℕ → ℕ)
    → TableIsSafe w → TableIsSafe (with_fast_words w word holds shares zero remembered)
with_fast_words-table w word holds shares zero remembered = same-table w (with_fast_words w word holds shares zero remembered)
