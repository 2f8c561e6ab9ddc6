use Rattle.std.specs.Prelude.{◌≡◌, ◌≢◌, ◌⊎◌, ℕ, ◌+◌, ◌<◌, ◌≤◌, true, false, ◌==◌, List, [], count_by, Option}
use Rattle.modes_core.specs.declared.modes.Mode.{Mode}
use Rattle.modes_core.specs.declared.tags.Tag.{Tag}
use Rattle.lock_table.specs.Content.{Wait}
use Rattle.lock_table.specs.Queue.{awaits_mode, waits_there}
use Rattle.slab.specs.Slab.{Slab, slab_len, HasRoomFor}
use Rattle.place_index.specs.Notes.{Notes}
use Rattle.lock_records.specs.Tally.{counts_in}
use Rattle.lock_records.specs.Counting.{granted_of, awaited_of}
use Rattle.lock_records.specs.Holders.{holds_in, IsHolderAt, AreHolders, IsHolderChain}
use Rattle.lock_records.specs.Locks.{IsLockAt, HasLock}
use Rattle.lock_records.specs.Queues.{QueuesView, HasRoomForQueue, queue_on, waiting_in}
use Rattle.lock_records.specs.declared.holders.HolderRecord.{HolderRecord}
use Rattle.lock_records.specs.declared.locks.LockRecord.{LockRecord}
use Rattle.lock_records.specs.declared.wait_queues.QueueRecord.{QueueRecord}
use Rattle.modes_core.specs.Sessions.{most_sessions}

-- What the records of a partition have of one object.

-- The lock record has all holder records of the object in its chain, and counts its holds.
pub record IsHeldLock (holders : List (Option HolderRecord)) (tag : Tag) (lock : LockRecord) : Type 0 where
  pub chain : IsHolderChain holders tag lock.holders.first lock.holders.count
  pub granted : (mode : Mode) → counts_in lock.granted mode ≡ granted_of (holds_in holders) tag mode

-- The lock record has all holder records of the object in its chain, and counts its holds and the waits of
-- its queue.
pub record IsLock (holders : List (Option HolderRecord)) (queue : List Wait) (tag : Tag) (lock : LockRecord) : Type 0 where
  pub held : IsHeldLock holders tag lock
  pub awaited : (mode : Mode) → counts_in lock.awaited mode ≡ awaited_of queue mode

-- Somebody holds or awaits the object.
abbrev pub IsUsed : List (Option HolderRecord) → List Wait → Tag → Type 0
IsUsed holders queue tag = ((session : ℕ) × (mode : Mode) × (holds_in holders session tag mode ≡ true)) ⊎ (queue ≢ [])

-- What waits for an object: a session once at most, and for no mode that it holds.
pub record IsQueue (holders : List (Option HolderRecord)) (queue : List Wait) (tag : Tag) : Type 0 where
  pub one_each : (session : ℕ) → count_by (λ wait. wait.session == session) queue ≤ 1
  pub below : (session : ℕ) → waits_there queue session ≡ true → session < most_sessions
  pub apart : (session : ℕ) (mode : Mode) → awaits_mode queue session mode ≡ true → holds_in holders session tag mode ≡ false

-- The records of one object: its lock record is right and not empty, and there is one where there is a holder
-- record or a wait.
pub record IsObject (locks : List (Option LockRecord)) (holders : List (Option HolderRecord)) (queue : List Wait) (tag : Tag) : Type 0 where
  pub lock : (place : ℕ) (i : IsLockAt locks tag place) → IsLock holders queue tag i.lock
  pub used : (place : ℕ) → IsLockAt locks tag place → IsUsed holders queue tag
  pub are : AreHolders holders tag
  pub waiting : IsQueue holders queue tag
  pub held_locked : (session place : ℕ) → IsHolderAt holders session tag place → HasLock locks tag
  pub awaited_locked : queue ≢ [] → HasLock locks tag

-- The records of all objects of a partition.
abbrev pub AreObjects : List (Option LockRecord) → List (Option HolderRecord) → List (Option QueueRecord) → Type 0
AreObjects locks holders queues = (tag : Tag) → IsObject locks holders (queue_on queues tag) tag

-- The object's lock record at the place counts the waits of its queue.
pub record CountsWaitsAt (locks : List (Option LockRecord)) (queue : List Wait) (tag : Tag) (place : ℕ) : Type 0 where
  pub at : IsLockAt locks tag place
  pub awaited : (mode : Mode) → counts_in at.lock.awaited mode ≡ awaited_of queue mode

-- There is room for a request, as a hold or as a wait, and for a lock record.
pub record HasRoom (locks : Slab LockRecord) (holders : Slab HolderRecord) (queues : QueuesView) (index : Notes) : Type 0 where
  pub lock : HasRoomFor locks 1
  pub noted : locks.vacant_key < index.places
  pub holder : slab_len holders + waiting_in queues.slots < holders.capacity
  pub queue : HasRoomForQueue queues
