use Rattle.std.specs.Prelude.{◌≡◌, ℕ, ◌+◌, ◌<◌, List, length, slice_index_or}
use Rattle.local_locks.specs.declared.records.Entry.{Entry}
use Rattle.shared_rule.specs.Boards.{Seated}
use Rattle.lock_manager.specs.Pools.{PoolView}
use Rattle.lock_manager.specs.Sessions.{SessionView}

-- What is seen of sessions at a desk, and of a pool.

module _ {B : Type 0} where
  -- What a desk shows of a session is what the session has: its seat, its local entries, and its database.
  pub record ShowsSessions (seat : B → Seated) (its_seat : SessionView B → Seated) (its_entries : SessionView B → List Entry)
      (its_database : SessionView B → ℕ) : Type 0 where
    pub seats : (session : SessionView B) → its_seat session ≡ seat session.board
    pub entries : (session : SessionView B) → its_entries session ≡ session.owned.entries
    pub databases : (session : SessionView B) → its_database session ≡ session.database

  -- a pool with these sessions that nobody has, and with these lives
  abbrev pub pool_of : List (SessionView B) → List ℕ → PoolView B
  pool_of free lives = record { free = free; lives = lives }

-- The numbers of a list follow on one another from this one on.
abbrev pub AreNumberedFrom : {S : Type 0} → (S → ℕ) → ℕ → List S → Type 0
AreNumberedFrom {S} number first list = (k : ℕ) (other : S) → k < length list → number (slice_index_or list k other) ≡ first + k
