use Rattle.std.specs.Prelude.{◌≡◌, ℕ, ◌+◌, ◌-◌, ◌*◌, ◌/◌, ◌%◌, ◌^◌, ◌<◌, Bool, true, false, not, ◌==◌, ◌&&◌}
use Rattle.lw_word.specs.declared.words.LwMode.{LwMode}
use Rattle.lw_word.specs.declared.words.LwMode.TheVariants.{Exclusive, Shared}
use Rattle.lw_word.specs.LightweightWord.{bit, shared_count}

-- whether this is the mode in which many hold the lock at a time
abbrev pub is_shared : LwMode → Bool
is_shared Exclusive = false
is_shared Shared = true

-- What a lightweight lock's word says (the `state` of an `LWLock` in lwlock.h).
pub record LockState : Type 0 where
  -- how many sessions hold the lock shared
  pub shared : ℕ
  -- one session holds it exclusively
  pub exclusive : Bool
  -- one session has its wait list to itself (LW_FLAG_LOCKED)
  pub list_locked : Bool
  -- a release may wake waiters (LW_FLAG_RELEASE_OK)
  pub release_ok : Bool
  -- its wait list may have waiters (LW_FLAG_HAS_WAITERS)
  pub has_waiters : Bool

-- the state of a lock as it opens
abbrev pub opening_state : LockState
opening_state = record { shared = 0; exclusive = false; list_locked = false; release_ok = true; has_waiters = false }

-- the word as a number
abbrev pub word_of : LockState → ℕ
word_of state =
    state.shared
    + bit state.exclusive * 2 ^ 24
    + bit state.list_locked * 2 ^ 28
    + bit state.release_ok * 2 ^ 29
    + bit state.has_waiters * 2 ^ 30

-- what the number says
abbrev pub state_of : ℕ → LockState
state_of word = record {
  shared = shared_count word;
  exclusive = word / 2 ^ 24 % 2 == 1;
  list_locked = word / 2 ^ 28 % 2 == 1;
  release_ok = word / 2 ^ 29 % 2 == 1;
  has_waiters = word / 2 ^ 30 % 2 == 1;
}

-- what one holder in this mode adds to the number (LW_VAL_EXCLUSIVE, LW_VAL_SHARED)
abbrev pub amount_of : LwMode → ℕ
amount_of Exclusive = 2 ^ 24
amount_of Shared = 1

-- The lock may be taken in this mode (LWLockAttemptLock in lwlock.c): exclusively where nobody holds it,
-- shared where nobody holds it exclusively.
abbrev pub IsFreeFor : LwMode → LockState → Type 0
IsFreeFor Exclusive state = (state.exclusive ≡ false) × (state.shared ≡ 0)
IsFreeFor Shared state = state.exclusive ≡ false

-- there is room for one more sharer in the count
abbrev pub HasRoomFor : LwMode → LockState → Type 0
HasRoomFor Exclusive state = Unit {0}
HasRoomFor Shared state = state.shared < 2 ^ 24 - 1

-- somebody holds the lock in this mode
abbrev pub IsHeldIn : LwMode → LockState → Type 0
IsHeldIn Exclusive state = state.exclusive ≡ true
IsHeldIn Shared state = 0 < state.shared

-- what a word says once one more has taken the lock in the mode
abbrev pub taken_in : LwMode → LockState → LockState
taken_in Exclusive state = record state { exclusive = true }
taken_in Shared state = record state { shared = state.shared + 1 }

-- What a word says once one who held the lock in the mode has released it.
abbrev pub put_in : LwMode → LockState → LockState
put_in Exclusive state = record state { exclusive = false }
put_in Shared state = record state { shared = state.shared - 1 }

-- whether the session that made it so by a release has to wake waiters (LWLockReleaseInternal): nobody holds
-- it, and both flags are set
abbrev pub must_wake : LockState → Bool
must_wake state = not state.exclusive && state.shared == 0 && state.has_waiters && state.release_ok
