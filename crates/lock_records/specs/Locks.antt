use Rattle.std.specs.Prelude.{◌≡◌, ◌≢◌, ◌⊎◌, ℕ, ◌*◌, ◌%◌, ◌^◌, ◌<◌, Bool, false, ◌==◌, List, Option, Some, None, slice_index_or, if◌then◌else◌}
use Rattle.modes_core.specs.declared.modes.Mode.{Mode}
use Rattle.modes_core.specs.declared.tags.Tag.{Tag}
use Rattle.modes_core.specs.Tag.{tag_eq, hash_of}
use Rattle.place_index.specs.Notes.{Notes, times}
use Rattle.lock_records.specs.Tally.{counts_in}
use Rattle.lock_records.specs.declared.locks.LockRecord.{LockRecord}

-- The lock records of a partition, by their places, and the index that finds them.

-- the record at a place
abbrev pub lock_at : List (Option LockRecord) → ℕ → Option LockRecord
lock_at slots place = slice_index_or slots place None

-- whether a place has a record of the object
abbrev pub is_on : Tag → Option LockRecord → Bool
is_on tag None = false
is_on tag (Some lock) = tag_eq tag lock.tag

-- what the index has an object under: its hash, multiplied by an odd number, so that the highest bits differ
unfoldable pub key_of : Tag → ℕ
key_of tag = hash_of tag * 2654435761 % 2 ^ 32

-- The record at the place is the object's.
pub record IsLockAt (slots : List (Option LockRecord)) (tag : Tag) (place : ℕ) : Type 0 where
  pub lock : LockRecord
  pub there : lock_at slots place ≡ Some lock
  pub on : lock.tag ≡ tag

-- The record is the object's, wherever it stands.
pub record IsLockOf (slots : List (Option LockRecord)) (tag : Tag) (lock : LockRecord) : Type 0 where
  pub place : ℕ
  pub there : lock_at slots place ≡ Some lock
  pub on : lock.tag ≡ tag

-- Some record is the object's.
abbrev pub HasLock : List (Option LockRecord) → Tag → Type 0
HasLock slots tag = (place : ℕ) × IsLockAt slots tag place

-- No record is the object's.
abbrev pub HasNoLock : List (Option LockRecord) → Tag → Type 0
HasNoLock slots tag = (place : ℕ) → IsLockAt slots tag place → ⊥

-- how often a place is noted under a key
abbrev pub note_times : Option LockRecord → ℕ → ℕ
note_times None key = 0
note_times (Some lock) key = if key == key_of lock.tag then 1 else 0

-- Each lock record is noted in the index under its object's key, and nothing else is; an object has one
-- record at most.
pub record AreNoted (slots : List (Option LockRecord)) (index : Notes) : Type 0 where
  pub noted : (place key : ℕ) → times index key place ≡ note_times (lock_at slots place) key
  pub once : (tag : Tag) (k j : ℕ) → IsLockAt slots tag k → IsLockAt slots tag j → k ≡ j
  pub within : (tag : Tag) (place : ℕ) → IsLockAt slots tag place → place < index.places

-- The lock records of other objects are the same ones.
pub record HasSameLocks (old new : List (Option LockRecord)) (tag : Tag) : Type 0 where
  pub kept : (k : ℕ) (lock : LockRecord) → lock_at old k ≡ Some lock → lock.tag ≢ tag → lock_at new k ≡ Some lock
  pub no_more : (k : ℕ) (lock : LockRecord) → lock_at new k ≡ Some lock → lock.tag ≢ tag → lock_at old k ≡ Some lock

-- The record is a new one of the object: nobody holds or awaits it.
pub record IsNewLock (lock : LockRecord) (tag : Tag) : Type 0 where
  pub on : lock.tag ≡ tag
  pub none : lock.holders.count ≡ 0
  pub granted : (mode : Mode) → counts_in lock.granted mode ≡ 0
  pub awaited : (mode : Mode) → counts_in lock.awaited mode ≡ 0

-- The object has a record at the place: its own, or a new one where it had none. All others are the same.
pub record HasMadeLock (old new : List (Option LockRecord)) (tag : Tag) (place : ℕ) : Type 0 where
  pub at : IsLockAt new tag place
  pub was : (lock_at old place ≡ Some at.lock) ⊎ (IsNewLock at.lock tag × HasNoLock old tag)
  pub same : HasSameLocks old new tag

-- The record at a place is another one of the same object.
pub record IsRelocked (old new : List (Option LockRecord)) (tag : Tag) (place : ℕ) : Type 0 where
  pub was : IsLockAt old tag place
  pub is : IsLockAt new tag place
  pub others : (k : ℕ) → k ≢ place → lock_at new k ≡ lock_at old k

-- The record counts no holder record and no wait, or it counts one.
abbrev pub IsIdle : LockRecord → Type 0
IsIdle lock = (lock.holders.count ≡ 0) × ((mode : Mode) → counts_in lock.awaited mode ≡ 0)

-- The record counts a holder record or a wait.
abbrev pub IsCounting : LockRecord → Type 0
IsCounting lock = (0 < lock.holders.count) ⊎ ((mode : Mode) × (0 < counts_in lock.awaited mode))

-- The record at the place is gone where it counts nobody, and else all are as they were.
pub record IsDropped (old new : List (Option LockRecord)) (tag : Tag) (place : ℕ) : Type 0 where
  pub same : HasSameLocks old new tag
  pub either : ((new ≡ old) × ((i : IsLockAt old tag place) → IsCounting i.lock))
      ⊎ (HasNoLock new tag × ((i : IsLockAt old tag place) → IsIdle i.lock))
