use Rattle.std.specs.Prelude.{◌≡◌, ◌≢◌, ℕ, ◌/◌, ◌%◌, ◌^◌, ◌==◌, Bool, true, Option, Some, None, if◌then◌else◌}
use Rattle.lw_word.specs.declared.words.LwMode.{LwMode}
use Rattle.lw_word.specs.LightweightWord.{list_locked_word, list_unlocked_word}
use Rattle.lw_word.specs.WaitList.{stands_in}
use Rattle.lock_table.specs.Put.{set_at}
use Rattle.lock_world.specs.World.{World, Numbers, MakesSteps}
use Rattle.lock_world.specs.WaitLists.{Sleepers, partition_lock, fast_lock, after_joining, after_leaving_list, after_taking_off, after_telling, after_seeing_none}

-- Wait lists of lightweight locks: a session locks a list by a bit of the lock's word, changes it, and
-- unlocks it; and it sleeps, and is woken, by its sleep word (LWLockWaitListLock, LWLockQueueSelf,
-- LWLockDequeueSelf and LWLockWakeup in lwlock.c).

-- the lists, the sleep words and who stands where, as a World has them
abbrev pub sleepers : World → Sleepers
sleepers w = record { list = w.words.list; sleep = w.words.sleep; stands = w.sessions.stands; off = w.sessions.off }

-- A World with other words of lightweight locks, lists, and what sessions know of them.
abbrev pub with_lists : World → (ℕ → ℕ) → (ℕ → ℕ) → Sleepers → (ℕ → Option ℕ) → World
with_lists w partition fast s has_list = record {
  words = record (w.words) { partition = partition; fast = fast; list = s.list; sleep = s.sleep };
  contents = w.contents;
  sessions = record (w.sessions) { has_list = has_list; stands = s.stands; off = s.off };
  numbers = w.numbers;
}

-- Locking a list whose lock has this word: nobody has it, and the session has none in hand
-- (LWLockWaitListLock).
pub record MayLockList (numbers : Numbers) (word : ℕ) (has_list : ℕ → Option ℕ) (session : ℕ) : Type 0 where
  pub steps : MakesSteps numbers session
  pub unlocked : word / 2 ^ 28 % 2 ≡ 0
  pub no_list : has_list session ≡ None

-- the World once the wait list of a partition's lock is in the session's hand
abbrev pub after_locking_partition_list : World → ℕ → ℕ → World
after_locking_partition_list w session partition =
    with_lists w (set_at w.words.partition partition (list_locked_word (w.words.partition partition))) w.words.fast (sleepers w)
    (set_at w.sessions.has_list session (Some (partition_lock partition)))

-- the World once the wait list of the lock of a session's slots is in the session's hand
abbrev pub after_locking_fast_list : World → ℕ → ℕ → World
after_locking_fast_list w session owner =
    with_lists w w.words.partition (set_at w.words.fast owner (list_locked_word (w.words.fast owner))) (sleepers w)
    (set_at w.sessions.has_list session (Some (fast_lock owner)))

-- The session has the list of this lock in hand.
pub record HasList (w : World) (session lock : ℕ) : Type 0 where
  pub steps : MakesSteps w.numbers session
  pub in_hand : w.sessions.has_list session ≡ Some lock

-- Unlocking the list in hand; of the flags those go that are not to stay (LWLockWaitListUnlock).
abbrev pub after_unlocking_partition_list : World → ℕ → ℕ → Bool → Bool → World
after_unlocking_partition_list w session partition has_waiters release_ok =
    with_lists w (set_at w.words.partition partition (list_unlocked_word (w.words.partition partition) has_waiters release_ok)) w.words.fast
    (sleepers w) (set_at w.sessions.has_list session None)

-- the World once the wait list of the lock of a session's slots is unlocked, with the flags that are to stay
abbrev pub after_unlocking_fast_list : World → ℕ → ℕ → Bool → Bool → World
after_unlocking_fast_list w session owner has_waiters release_ok =
    with_lists w w.words.partition (set_at w.words.fast owner (list_unlocked_word (w.words.fast owner) has_waiters release_ok))
    (sleepers w) (set_at w.sessions.has_list session None)

-- Changing the list in hand, or telling a session that was taken off a list, leaves words and hands as they
-- are.
abbrev pub with_sleepers : World → Sleepers → World
with_sleepers w s = with_lists w w.words.partition w.words.fast s w.sessions.has_list

-- Joining the list in hand, after all others (LWLockQueueSelf).
pub record MayJoinList (w : World) (session lock : ℕ) : Type 0 where
  pub has : HasList w session lock
  pub idle : w.words.sleep session ≡ 0

-- the World once the session stands last in the list in its hand
abbrev pub after_joining_list : World → ℕ → ℕ → LwMode → World
after_joining_list w session lock mode = with_sleepers w (after_joining (sleepers w) lock (record { session = session; mode = mode }))

-- Leaving the list in hand (LWLockDequeueSelf).
pub record MayLeaveList (w : World) (session lock : ℕ) : Type 0 where
  pub has : HasList w session lock
  pub stands : stands_in session (w.words.list lock) ≡ true
  pub waits : w.words.sleep session ≡ 1

-- the World once the session is out of the list in its hand
abbrev pub after_leaving_the_list : World → ℕ → ℕ → World
after_leaving_the_list w session lock = with_sleepers w (after_leaving_list (sleepers w) lock session)

-- Taking another session off the list in hand, which is to be told later (the first loop of LWLockWakeup).
pub record MayTakeOff (w : World) (session other lock : ℕ) : Type 0 where
  pub another : other ≢ session
  pub has : HasList w session lock
  pub stands : stands_in other (w.words.list lock) ≡ true
  pub waits : w.words.sleep other ≡ 1

-- the World once another session is off the list in hand, to be told
abbrev pub after_taking_off_the_list : World → ℕ → ℕ → ℕ → World
after_taking_off_the_list w session other lock = with_sleepers w (after_taking_off (sleepers w) lock session other)

-- Telling a session that was taken off by this one (the second loop of LWLockWakeup).
pub record MayTell (w : World) (session other : ℕ) : Type 0 where
  pub steps : MakesSteps w.numbers session
  pub taken_off : w.sessions.off session other ≡ true
  pub untold : w.words.sleep other ≡ 2

-- the World once a session that was taken off is told
abbrev pub after_telling_one : World → ℕ → ℕ → World
after_telling_one w session other = with_sleepers w (after_telling (sleepers w) session other)

-- Loading one's own sleep word: where it shows 0, the session stands in no list (the sleep of LWLockAcquire).
pub record MayLoadSleep (w : World) (session shown : ℕ) : Type 0 where
  pub steps : MakesSteps w.numbers session
  pub is_word : shown ≡ w.words.sleep session

-- the World once the session has loaded its sleep word
abbrev pub after_loading_sleep : World → ℕ → ℕ → World
after_loading_sleep w session shown = with_sleepers w (if shown == 0 then after_seeing_none (sleepers w) session else sleepers w)

-- Setting release-ok in a lock's word, which showed this before: a session that was woken does so, as it goes
-- on.
pub record MaySetReleaseOk (numbers : Numbers) (word session shown : ℕ) : Type 0 where
  pub steps : MakesSteps numbers session
  pub is_word : shown ≡ word

-- Setting has-waiters, with the lock's list in hand.
pub record MaySetHasWaiters (w : World) (word session lock shown : ℕ) : Type 0 where
  pub has : HasList w session lock
  pub is_word : shown ≡ word

-- A flag set in a word of a partition, or of a session's fast-path lock.
abbrev pub after_flagging_partition : World → ℕ → ℕ → World
after_flagging_partition w partition flagged =
    with_lists w (set_at w.words.partition partition flagged) w.words.fast (sleepers w) w.sessions.has_list

-- the World once has-waiters is set in the word of the lock of a session's slots
abbrev pub after_flagging_fast : World → ℕ → ℕ → World
after_flagging_fast w owner flagged =
    with_lists w w.words.partition (set_at w.words.fast owner flagged) (sleepers w) w.sessions.has_list
