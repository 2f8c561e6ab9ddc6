use Rattle.std.specs.Prelude.{ℕ, zero, suc, ◌<◌, ◌≤◌, Bool, not, ◌==◌, List, [], ◌∷◌, filter, take, count_by, if◌then◌else◌}
use Rattle.std.specs.List.{list_any}
use Rattle.lw_word.specs.declared.wait_lists.LwWaiter.{LwWaiter}
use Rattle.lw_word.specs.LockState.{is_shared}
use Rattle.lw_word.specs.declared.wait_lists.TheConstants.{MOST_TAKEN_OFF}

-- The sessions that wait for a lightweight lock, first come first (`waiters` of an `LWLock` in lwlock.h).

-- a wait list: who waits, and how many sessions there can be, whose numbers are those below
pub record Waiting : Type 0 where
  pub waiters : List LwWaiter
  pub room : ℕ

-- whether the waiter is this session
abbrev pub is_of : ℕ → LwWaiter → Bool
is_of session waiter = session == waiter.session

-- whether the session is in the list
abbrev pub stands_in : ℕ → List LwWaiter → Bool
stands_in session waiters = list_any (is_of session) waiters

-- how often the session is in the list
abbrev pub times_in : ℕ → List LwWaiter → ℕ
times_in session waiters = count_by (is_of session) waiters

-- each session is in the list once at most, and has a number below `room`
pub record EachStandsOnce (room : ℕ) (waiters : List LwWaiter) : Type 0 where
  pub once : (session : ℕ) → times_in session waiters ≤ 1
  pub below : (session : ℕ) → 0 < times_in session waiters → session < room

-- the list without the session
abbrev pub without : ℕ → List LwWaiter → List LwWaiter
without session waiters = filter (λ waiter. not (is_of session waiter)) waiters

-- What a wakeup does with the list (LWLockWakeup in lwlock.c).

-- whether the waiter wants to share the lock
abbrev pub wants_to_share : LwWaiter → Bool
wants_to_share waiter = is_shared waiter.mode

-- the list without this number of those who want to share the lock, the first ones
abbrev pub without_sharers : ℕ → List LwWaiter → List LwWaiter
without_sharers zero waiters = waiters
without_sharers (suc many) [] = []
without_sharers (suc many) (first ∷ others) =
    if wants_to_share first then without_sharers many others else first ∷ without_sharers (suc many) others

-- whom a wakeup takes off: those who want to share, where the first one does, as many as go at a time; else
-- the first one alone
abbrev pub taken_off : List LwWaiter → List LwWaiter
taken_off [] = []
taken_off (first ∷ others) =
    if wants_to_share first then take MOST_TAKEN_OFF (filter wants_to_share (first ∷ others)) else first ∷ []

-- whom a wakeup leaves: all others
abbrev pub left_waiting : List LwWaiter → List LwWaiter
left_waiting [] = []
left_waiting (first ∷ others) =
    if wants_to_share first then without_sharers MOST_TAKEN_OFF (first ∷ others) else others
