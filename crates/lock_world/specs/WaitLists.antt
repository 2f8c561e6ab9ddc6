use Rattle.std.specs.Prelude.{◌≡◌, ℕ, ◌+◌, ◌*◌, ◌/◌, ◌%◌, ◌≤◌, ◌==◌, Bool, true, false, List, [], ◌∷◌, ◌++◌, Option, Some, None, if◌then◌else◌}
use Rattle.lw_word.specs.declared.wait_lists.LwWaiter.{LwWaiter}
use Rattle.lw_word.specs.LightweightWord.{IsListLocked}
use Rattle.lw_word.specs.WaitList.{stands_in, times_in, without}
use Rattle.lock_table.specs.Put.{set_at}

-- The wait lists of lightweight locks, and who sleeps (`waiters` of an LWLock, `lwWaiting` of a PGPROC).
-- Locks go by a number of their own here: what a step does to its list is the same whatever the lock guards.

-- the number of a partition's lock, and of the lock of a session's fast-path slots
abbrev pub partition_lock : ℕ → ℕ
partition_lock partition = 2 * partition

-- the number of the lock of a session's slots
abbrev pub fast_lock : ℕ → ℕ
fast_lock owner = 2 * owner + 1

-- what the word of a lock shows, by its number
abbrev pub lock_word : (ℕ → ℕ) → (ℕ → ℕ) → ℕ → ℕ
lock_word partition fast lock = if lock % 2 == 0 then partition (lock / 2) else fast (lock / 2)

-- The word of a lock shows who has its wait list in hand: its bit is set exactly where one session has it,
-- and no more.
pub record ShowsList (word lock : ℕ) (has_list : ℕ → Option ℕ) : Type 0 where
  pub had_is_shown : (session : ℕ) → has_list session ≡ Some lock → IsListLocked word
  pub shown_is_had : IsListLocked word → (session : ℕ) × (has_list session ≡ Some lock)
  pub by_one : (session other : ℕ) → has_list session ≡ Some lock → has_list other ≡ Some lock → session ≡ other

-- What the lists, the sleep words and the sessions' own accounts say together.
pub record Sleepers : Type 0 where
  -- who waits for each lock, first come first
  pub list : ℕ → List LwWaiter
  -- what each session's sleep word shows: 0 not waiting, 1 waiting, 2 woken and to be told
  pub sleep : ℕ → ℕ
  -- the lock in whose list each session stands by its own account
  pub stands : ℕ → Option ℕ
  -- whom each session has taken off a list and not told yet
  pub off : ℕ → ℕ → Bool

-- A session stands only in the list that its account names, once, and with a sleep word that shows waiting;
-- where its account names none, the word shows 0. Whom somebody has taken off and not told shows that, and
-- nobody else has it to tell.
pub record SleepersAreInOrder (s : Sleepers) : Type 0 where
  pub named : (lock session : ℕ) → stands_in session (s.list lock) ≡ true → s.stands session ≡ Some lock
  pub waiting : (lock session : ℕ) → stands_in session (s.list lock) ≡ true → s.sleep session ≡ 1
  pub once : (lock session : ℕ) → times_in session (s.list lock) ≤ 1
  pub idle : (session : ℕ) → s.stands session ≡ None → s.sleep session ≡ 0
  pub taken_off : (session other : ℕ) → s.off session other ≡ true → s.sleep other ≡ 2
  pub by_one : (session another other : ℕ) → s.off session other ≡ true → s.off another other ≡ true → session ≡ another

-- What is safe of wait lists: words show who has a list in hand, who sleeps is in order, and a number that is
-- not live has no list in hand and stands in none.
pub record ListsAreSafe (partition fast : ℕ → ℕ) (s : Sleepers) (has_list : ℕ → Option ℕ) (live : ℕ → Bool) : Type 0 where
  pub shown : (lock : ℕ) → ShowsList (lock_word partition fast lock) lock has_list
  pub sleepers : SleepersAreInOrder s
  pub no_list : (session : ℕ) → live session ≡ false → has_list session ≡ None
  pub no_stand : (session : ℕ) → live session ≡ false → s.stands session ≡ None

-- Joining a list after all others, with a sleep word of 0 (LWLockQueueSelf in lwlock.c).
abbrev pub after_joining : Sleepers → ℕ → LwWaiter → Sleepers
after_joining s lock waiter = record s {
  list = set_at s.list lock (s.list lock ++ waiter ∷ []);
  sleep = set_at s.sleep waiter.session 1;
  stands = set_at s.stands waiter.session (Some lock);
}

-- Leaving the list that the session stands in (LWLockDequeueSelf).
abbrev pub after_leaving_list : Sleepers → ℕ → ℕ → Sleepers
after_leaving_list s lock session = record s {
  list = set_at s.list lock (without session (s.list lock));
  sleep = set_at s.sleep session 0;
  stands = set_at s.stands session None;
}

-- Taking another session off the list, to be told later (LWLockWakeup, its first loop).
abbrev pub after_taking_off : Sleepers → ℕ → ℕ → ℕ → Sleepers
after_taking_off s lock session other = record s {
  list = set_at s.list lock (without other (s.list lock));
  sleep = set_at s.sleep other 2;
  off = set_at s.off session (set_at (s.off session) other true);
}

-- Telling one of those taken off that it may go on (LWLockWakeup, its second loop).
abbrev pub after_telling : Sleepers → ℕ → ℕ → Sleepers
after_telling s session other = record s {
  sleep = set_at s.sleep other 0;
  off = set_at s.off session (set_at (s.off session) other false);
}

-- Seeing that one's sleep word shows 0: the session stands in no list then.
abbrev pub after_seeing_none : Sleepers → ℕ → Sleepers
after_seeing_none s session = record s { stands = set_at s.stands session None }
