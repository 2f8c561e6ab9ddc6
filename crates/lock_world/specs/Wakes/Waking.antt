use Rattle.std.specs.Prelude.{◌≡◌, ◌≢◌, ℕ, ◌+◌, ◌/◌, ◌%◌, ◌<◌, ◌==◌, Bool, true, false, [], Option, Some, None, ◌⊎◌, if◌then◌else◌}
use Rattle.lw_word.specs.LightweightWord.{IsReleaseOk, HasWaiters}
use Rattle.lw_word.specs.WaitList.{stands_in}
use Rattle.lock_world.specs.WaitLists.{Sleepers}

-- Why nobody who sleeps for a lightweight lock is forgotten: where a lock's wait list has a waiter, somebody
-- has the lock, or has something to do for it. Locks go by their numbers, as in wait lists.

-- What there is of the waiting for lightweight locks, and what each session still has to do for those who
-- wait.
pub record Waking : Type 0 where
  -- the word of each lock
  pub word : ℕ → ℕ
  -- the locks that each session holds exclusively, and those that it shares
  pub holds : ℕ → ℕ → Bool
  pub shares : ℕ → ℕ → Bool
  -- wait lists, sleep words, where each session stands, and whom each has taken off a list and not told
  pub sleepers : Sleepers
  -- the lock whose list each session has in hand
  pub has_list : ℕ → Option ℕ
  -- the lock that each session put so that it must wake, and whose list it has not looked at since
  pub due : ℕ → Option ℕ
  -- the lock that each session queued for, or came back from the list of, and has not attempted since
  pub tries : ℕ → Option ℕ
  -- the lock whose release-ok flag each session has to set once it is off the list: from its joining on
  pub owes_release_ok : ℕ → Option ℕ
  -- whether each session has set has-waiters in the word of the list that it has in hand
  pub flagged : ℕ → Bool

-- the session holds the lock, or shares it
abbrev pub HasLock : Waking → ℕ → ℕ → Type 0
HasLock w session lock = (w.holds session lock ≡ true) ⊎ (w.shares session lock ≡ true)

-- somebody has the lock
abbrev pub IsHeld : Waking → ℕ → Type 0
IsHeld w lock = (session : ℕ) × HasLock w session lock

-- The session is off the lock's list, and has not set release-ok since.
pub record HasOkToSet (w : Waking) (lock session : ℕ) : Type 0 where
  pub owes : w.owes_release_ok session ≡ Some lock
  pub off_list : stands_in session (w.sleepers.list lock) ≡ false

-- The session has the lock, or something to do for those who wait for it.
pub data Owes (w : Waking) (lock session : ℕ) : Type 0 where
  has_it : HasLock w session lock → Owes w lock session
  must_look : w.due session ≡ Some lock → Owes w lock session
  has_its_list : w.has_list session ≡ Some lock → Owes w lock session
  must_try : w.tries session ≡ Some lock → Owes w lock session
  must_set_ok : HasOkToSet w lock session → Owes w lock session

-- some session has the lock, or something to do for those who wait for it
abbrev pub IsOwed : Waking → ℕ → Type 0
IsOwed w lock = (session : ℕ) × Owes w lock session

-- No sleeper is forgotten.
pub record NobodyIsForgotten (w : Waking) : Type 0 where
  -- a list with a waiter is shown by has-waiters, and owed: the law
  pub shown : (lock : ℕ) → w.sleepers.list lock ≢ [] → HasWaiters (w.word lock)
  pub owed : (lock : ℕ) → w.sleepers.list lock ≢ [] → IsOwed w lock
  -- where release-ok is clear, so that no release wakes anybody, a session off the list has it to set
  pub release_ok : (lock : ℕ) → (IsReleaseOk (w.word lock) → ⊥) → (session : ℕ) × HasOkToSet w lock session
  -- has-waiters stays while the list is in the hand that set it
  pub flag_stays : (session lock : ℕ) → w.has_list session ≡ Some lock → w.flagged session ≡ true → HasWaiters (w.word lock)
  -- a session that stands in a list has release-ok to set once it is off it
  pub in_list : (lock session : ℕ) → stands_in session (w.sleepers.list lock) ≡ true → w.owes_release_ok session ≡ Some lock
  -- whom a session with a list in hand has taken off, it has taken off that list
  pub of_hand : (session other lock : ℕ) → w.has_list session ≡ Some lock → w.sleepers.off session other ≡ true → HasOkToSet w lock other
  -- a sleep word shows 1 only of a session that stands in a list, 2 only of one that is to be told, and else
  -- 0
  pub waits : (session : ℕ) → w.sleepers.sleep session ≡ 1 → (lock : ℕ) × (stands_in session (w.sleepers.list lock) ≡ true)
  pub told : (session : ℕ) → w.sleepers.sleep session ≡ 2 → (other : ℕ) × (w.sleepers.off other session ≡ true)
  pub few : (session : ℕ) → w.sleepers.sleep session < 3

-- the session has nobody to tell
abbrev pub TellsNobody : (ℕ → ℕ → Bool) → ℕ → Type 0
TellsNobody off session = (other : ℕ) → off session other ≡ false

-- none, or this lock
abbrev pub NoneOr : Option ℕ → ℕ → Type 0
NoneOr its lock = (its ≡ None) ⊎ (its ≡ Some lock)

-- Why a session may unlock a list: nobody waits there, it has taken somebody off, it has the lock, or it
-- attempts the lock next.
pub data IsLeftWell (w : Waking) (lock session : ℕ) : Type 0 where
  nobody_waits : w.sleepers.list lock ≡ [] → IsLeftWell w lock session
  took_off : (other : ℕ) → w.sleepers.off session other ≡ true → IsLeftWell w lock session
  still_has : HasLock w session lock → IsLeftWell w lock session
  tries_next : w.tries session ≡ Some lock → IsLeftWell w lock session

-- Who sleeps.

-- By its account the session may sleep for the lock: it stands in the list and has nothing to do for anybody,
-- and its sleep word does not show that it was told. Where it has won the lock, it knows that it is off the
-- list, and waits to be told.
pub record IsAsleep (w : Waking) (session lock : ℕ) : Type 0 where
  pub stands : w.sleepers.stands session ≡ Some lock
  pub not_told : w.sleepers.sleep session ≢ 0
  pub no_list : w.has_list session ≡ None
  pub no_look : w.due session ≡ None
  pub no_try : w.tries session ≡ None
  pub tells_nobody : TellsNobody w.sleepers.off session
  pub not_won : HasLock w session lock → w.owes_release_ok session ≡ None

-- A sleeper stands in its list, and that list is owed; or it was taken off, and somebody has it to tell.
abbrev pub IsOwedOrTold : Waking → ℕ → ℕ → Type 0
IsOwedOrTold w session lock =
    ((stands_in session (w.sleepers.list lock) ≡ true) × IsOwed w lock) ⊎ ((other : ℕ) × (w.sleepers.off other session ≡ true))

-- The order of locks.

-- the place of a lock in the order: all locks of fast-path slots first, and then the partitions, the lowest
-- first
abbrev pub rank : ℕ → ℕ
rank lock = if lock % 2 == 0 then 1 + lock / 2 else 0

-- Nobody stands in a lock's list while it has a later lock, or another one of the same place; the lock itself
-- it may have won.
pub record OrderIsKept (w : Waking) : Type 0 where
  pub rising : (session lock held : ℕ) → w.sleepers.stands session ≡ Some lock → HasLock w session held → (rank held < rank lock) ⊎ (held ≡ lock)
  pub bound : (session lock : ℕ) → w.sleepers.stands session ≡ Some lock → rank lock < 17

-- The session has a lightweight lock or something to do for one, or somebody to tell.
pub data IsInvolved (w : Waking) (session : ℕ) : Type 0 where
  owes_one : (lock : ℕ) → Owes w lock session → IsInvolved w session
  tells_one : (other : ℕ) → w.sleepers.off session other ≡ true → IsInvolved w session
