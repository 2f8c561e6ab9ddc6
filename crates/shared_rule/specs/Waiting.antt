use Rattle.std.specs.Prelude.{◌≡◌, ℕ, ◌<◌, []}
use Rattle.atomic_table.specs.declared.shared.Seat.{Seat}
use Rattle.atomic_table.specs.Seated.{TableId}
use Rattle.lock_table.specs.Content.{Content}
use Rattle.lw_word.specs.declared.words.LwMode.{LwMode}
use Rattle.lock_world.specs.Account.{Account}
use Rattle.shared_rule.specs.declared.history.PlacedView.{PlacedView}
use Rattle.shared_rule.specs.declared.rule.TableSizes.{TableSizes}
use Rattle.shared_rule.specs.declared.kept.Kept.{Kept}
use Rattle.shared_rule.specs.declared.lw_locks.LwLock.{LwLock}
use Rattle.shared_rule.specs.declared.lw_locks.LwLock.TheVariants.{OfPart, OfSlots}
use Rattle.shared_rule.specs.Acquires.{GotNothing, SeesInTheWay, MayGetSlots}
use Rattle.shared_rule.specs.Led.{LedTo}
use Rattle.shared_rule.specs.LwLocks.{lock_number, LockExists, no_lists, queued_for}
use Rattle.shared_rule.specs.Plays.{account_at, number_at, todo_at, owed_at, FitsTable, HasSession, side_of}
use Rattle.shared_rule.specs.Todos.{IsLatestBy, TriesAtMost, todo_in_list}

-- What has come since a session was first on its way to a lightweight lock: the members of the lock's trait
-- (`Guarded` of lw_lock).

-- Who comes for which lock of which table, of which sizes, and in which mode.
pub record Sought : Type 0 where
  pub sizes : TableSizes
  pub table : TableId
  pub number : ℕ
  pub lock : LwLock
  pub mode : LwMode

-- the session that comes for a lock, by its parts
abbrev pub sought_of : TableSizes → TableId → ℕ → LwLock → LwMode → Sought
sought_of sizes table number lock mode = record { sizes = sizes; table = table; number = number; lock = lock; mode = mode }

-- The session may get the lock in the mode: it doesn't share it yet.
abbrev pub MayGet : LwLock → LwMode → Account → Type 0
MayGet (OfPart part) mode a = Unit {0}
MayGet (OfSlots owner) mode a = MayGetSlots mode a owner

module _ {T : Type 0} (content : T → Content) (sought : Sought) where
  -- The session may attempt the lock, and wait for it: it is in no list, has earlier locks alone, and at most
  -- this one to attempt.
  pub record MayWait (seat : Seat (Kept T) (PlacedView T)) : Type 0 where
    pub fits : FitsTable seat sought.sizes sought.table
    pub exists : LockExists sought.sizes.sessions sought.lock
    pub one_of_them : sought.number < sought.sizes.sessions
    pub session : HasSession (side_of seat).0
    pub own : sought.number ≡ number_at seat
    pub may : MayGet sought.lock sought.mode (account_at content seat)
    pub idle : (account_at content seat).lists ≡ no_lists
    pub todo : TriesAtMost (lock_number sought.lock) (todo_at seat)
    pub latest : IsLatestBy (account_at content seat) sought.lock
    pub wakes_nobody : owed_at seat ≡ []

  -- The session has got nothing, and is in no list. By its history it has lost so many attempts since it last
  -- got a lock, or joined a list.
  pub record IsOnWay (lost : ℕ) (first now : Seat (Kept T) (PlacedView T)) : Type 0 where
    pub began : MayWait first
    pub still : MayWait now
    pub nothing : GotNothing content first now (todo_at now)
    pub so_often : (todo_at now).lost ≡ lost

  -- The session has joined the list of the lock, and not attempted the lock since.
  pub record IsQueued (first now : Seat (Kept T) (PlacedView T)) : Type 0 where
    pub began : MayWait first
    pub queues :
        LedTo content first now
        (record (account_at content first) { lists = queued_for (lock_number sought.lock) })
        (todo_in_list (lock_number sought.lock))
    pub shelves : (side_of now).1 ≡ (side_of first).1

  -- The session has joined the list of the lock, and saw somebody in the way of its mode then.
  pub record HasSeenHeld (first now : Seat (Kept T) (PlacedView T)) : Type 0 where
    pub at : Seat (Kept T) (PlacedView T)
    pub waits : IsQueued first at
    pub saw : SeesInTheWay content sought.lock sought.mode at now

  -- The session has joined the list of the lock, and won the lock then.
  pub record HasWonQueued (wins : Seat (Kept T) (PlacedView T) → Seat (Kept T) (PlacedView T) → Type 0)
      (first now : Seat (Kept T) (PlacedView T)) : Type 0 where
    pub at : Seat (Kept T) (PlacedView T)
    pub waits : IsQueued first at
    pub won : wins at now
