use Rattle.std.specs.Prelude.{ℕ, List}
use Rattle.local_locks.specs.Owned.{Owned}
use Rattle.shared_rule.specs.declared.history.History.{History}
use Rattle.fast_path.specs.declared.use_counts.UseCounts.{UseCounts}
use Rattle.lock_manager.specs.Keeper.{PartView}
use Rattle.lock_manager.specs.Managers.{ManagerView, OpenerView}
use Rattle.lock_manager.specs.Sessions.{SessionView}

-- What a desk shows, in the words that an opener and a session have for it.

-- the opener of a desk: of which manager it is, how many it has given out, how many are open, and the
-- histories of those that have closed
abbrev pub opener_at : ManagerView → ℕ → ℕ → List (History PartView) → OpenerView
opener_at manager issued live closed = record {
  table = manager.table;
  limit = manager.limit;
  groups = manager.groups;
  issued = issued;
  live = live;
  closed = closed;
}

-- a session, which stands for its own board: its database, its use counts, and what it owns
abbrev pub session_at : {S : Type 0} → (S → ℕ) → (S → UseCounts) → (S → Owned) → S → SessionView S
session_at database uses owned session = record {
  board = session;
  database = database session;
  uses = uses session;
  owned = owned session;
}

-- a session of a board, as a desk whose sessions have such boards shows it
abbrev pub shown : {B : Type 0} → SessionView B → SessionView (SessionView B)
shown {B} session =
    session_at (λ (its : SessionView B). its.database) (λ (its : SessionView B). its.uses) (λ (its : SessionView B). its.owned) session
