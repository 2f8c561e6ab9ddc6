use Rattle.std.specs.Prelude.{◌≡◌, ℕ, ◌<◌, ◌/◌, ◌%◌, ◌==◌, ◌&&◌, not, Bool, true, false, [], Option, Some, None, is_some, ◌⊎◌, if◌then◌else◌}
use Rattle.lw_word.specs.LightweightWord.{put_word, unshared_word}
use Rattle.lw_word.specs.LockState.{state_of, must_wake}
use Rattle.lw_word.specs.WaitList.{stands_in}
use Rattle.lock_table.specs.Put.{set_at}
use Rattle.lock_world.specs.declared.events.Step.{Step}
use Rattle.lock_world.specs.declared.events.Step.TheVariants.{TakeExclusive, PutExclusive, TakeShared, PutShared, JoinSeat, PutPassing, LockList, UnlockList, JoinList, LeaveList, SetReleaseOk, SetHasWaiters}
use Rattle.lock_world.specs.declared.events.Word.{Word}
use Rattle.lock_world.specs.declared.events.Word.TheVariants.{Partition, Fast, Database, Slot, Wait, Strong, Sleep}
use Rattle.lock_world.specs.World.{World, word_in}
use Rattle.lock_world.specs.WaitLists.{partition_lock, fast_lock, lock_word}
use Rattle.lock_world.specs.Happens.Lists.{sleepers}
use Rattle.lock_world.specs.Wakes.Waking.{Waking, TellsNobody, NoneOr, IsLeftWell, rank}
use Rattle.lock_world.specs.Wakes.Calling.{Calls}

-- What each session still has to do for those who wait for lightweight locks: it stands beside the World, and
-- each step makes of it what is told here. And what each step has to keep to, so that nobody who sleeps is
-- forgotten.

-- Four things by session, as `Waking` tells them.
pub record Duties : Type 0 where
  pub due : ℕ → Option ℕ
  pub tries : ℕ → Option ℕ
  pub owes_release_ok : ℕ → Option ℕ
  pub flagged : ℕ → Bool

-- nobody has anything to do
abbrev pub no_duties : Duties
no_duties = record { due = λ _. None; tries = λ _. None; owes_release_ok = λ _. None; flagged = λ _. false }

-- what one session has of a lock, by the lock's number
abbrev pub lock_bit : (ℕ → Bool) → (ℕ → Bool) → ℕ → Bool
lock_bit partition fast lock = if lock % 2 == 0 then partition (lock / 2) else fast (lock / 2)

-- what each session has of a lock, by the session's and the lock's number
abbrev pub lock_row : (ℕ → ℕ → Bool) → (ℕ → ℕ → Bool) → ℕ → ℕ → Bool
lock_row partition fast session lock = lock_bit (partition session) (fast session) lock

-- the waiting for lightweight locks in a World, with these duties beside it
abbrev pub waking : World → Duties → Waking
waking w x = record {
  word = lock_word w.words.partition w.words.fast;
  holds = lock_row w.sessions.holds_partition w.sessions.holds_fast;
  shares = lock_row w.sessions.shares_partition w.sessions.shares_fast;
  sleepers = sleepers w;
  has_list = w.sessions.has_list;
  due = x.due;
  tries = x.tries;
  owes_release_ok = x.owes_release_ok;
  flagged = x.flagged;
}

-- the session holds the lock, or shares it
abbrev pub HasIn : World → ℕ → ℕ → Type 0
HasIn w session lock =
    (lock_row w.sessions.holds_partition w.sessions.holds_fast session lock ≡ true)
    ⊎ (lock_row w.sessions.shares_partition w.sessions.shares_fast session lock ≡ true)

-- the lightweight lock that a word is, by its number; a word of another kind is none, and steps on locks are
-- on none of those
abbrev pub lock_of : Word → ℕ
lock_of (Partition partition) = partition_lock partition
lock_of (Fast owner) = fast_lock owner
lock_of (Database owner) = 0
lock_of (Slot owner place) = 0
lock_of (Wait owner) = 0
lock_of (Strong index) = 0
lock_of (Sleep owner) = 0

-- What a step makes of the duties of its session.

-- whether it is this lock
abbrev pub is_lock : Option ℕ → ℕ → Bool
is_lock None lock = false
is_lock (Some its) lock = its == lock

-- The lock is taken, or seen held: no attempt is to come.
abbrev pub after_attempt : Duties → ℕ → Duties
after_attempt x session = record x { tries = set_at x.tries session None }

-- the look that is due at the list of a lock whose word is this: one where it must wake
abbrev pub look_due : ℕ → ℕ → Option ℕ
look_due lock word = if must_wake (state_of word) then Some lock else None

-- A lock was put, whose word is this now: where it must wake, a look at its list is due.
abbrev pub after_putting : Duties → ℕ → ℕ → ℕ → Duties
after_putting x session lock word = record x { due = set_at x.due session (look_due lock word) }

-- The list was seen locked: no look is due.
abbrev pub after_looking : Duties → ℕ → Duties
after_looking x session = record x { due = set_at x.due session None }

-- The list was locked: no look is due, and has-waiters was not yet set by this hand.
abbrev pub after_locking : Duties → ℕ → Duties
after_locking x session = record x { due = set_at x.due session None; flagged = set_at x.flagged session false }

-- The list in hand is joined.
abbrev pub after_queueing : World → Duties → ℕ → Duties
after_queueing w x session = record x {
  tries = set_at x.tries session (w.sessions.has_list session);
  owes_release_ok = set_at x.owes_release_ok session (w.sessions.has_list session);
}

-- Release-ok is set by a session that owes it. Once the session was told, it attempts the lock next.
abbrev pub ok_set_by_told : Duties → ℕ → ℕ → Duties
ok_set_by_told x session lock = record x {
  owes_release_ok = set_at x.owes_release_ok session None;
  tries = set_at x.tries session (Some lock);
}

-- Release-ok is set by a session that has won the lock, and so has its list in hand and finds itself off it:
-- it attempts nothing.
abbrev pub ok_set_by_winner : Duties → ℕ → Duties
ok_set_by_winner x session = record x { owes_release_ok = set_at x.owes_release_ok session None }

-- Release-ok is set by a session that was not told: while it is in the list it owes release-ok as before.
abbrev pub ok_set_before_told : World → Duties → ℕ → ℕ → Duties
ok_set_before_told w x session lock =
    if is_lock (w.sessions.has_list session) lock && not (stands_in session (w.words.list lock)) then ok_set_by_winner x session else x

-- Release-ok is set by a session that owes it, told or not.
abbrev pub ok_set_as_owed : World → Duties → ℕ → ℕ → Duties
ok_set_as_owed w x session lock =
    if not (is_some (w.sessions.stands session)) then ok_set_by_told x session lock else ok_set_before_told w x session lock

-- Release-ok is set by any session, which may owe none for this lock.
abbrev pub after_setting_ok : World → Duties → ℕ → ℕ → Duties
after_setting_ok w x session lock = if is_lock (x.owes_release_ok session) lock then ok_set_as_owed w x session lock else x

-- what a step makes of the duties of its session
abbrev pub duties_after : World → Duties → ℕ → Step → Duties
duties_after w x session (TakeExclusive word) = after_attempt x session
duties_after w x session (TakeShared word) = after_attempt x session
duties_after w x session (PutExclusive word done) = after_putting x session (lock_of word) (put_word (word_in w.words word))
duties_after w x session (PutShared word) = after_putting x session (lock_of word) (unshared_word (word_in w.words word))
duties_after w x session (PutPassing owner tag mode) = after_putting x session (fast_lock owner) (put_word (w.words.fast owner))
duties_after w x session (LockList word) = after_locking x session
duties_after w x session (SetHasWaiters word shown) = record x { flagged = set_at x.flagged session true }
duties_after w x session (JoinList mode) = after_queueing w x session
duties_after w x session LeaveList = record x { owes_release_ok = set_at x.owes_release_ok session None }
duties_after w x session (SetReleaseOk word shown) = after_setting_ok w x session (lock_of word)
duties_after w x session step = x

-- What a step asks of its session, beside its being lawful. All of it is said by the session's own account.

-- Taking or sharing a lock: no other lock is to be attempted.
abbrev pub AsksTaking : Duties → ℕ → ℕ → Type 0
AsksTaking x session lock = NoneOr (x.tries session) lock

-- Locking a list: no look at another one is due, and nobody is to be told.
pub record AsksLocking (w : World) (x : Duties) (session lock : ℕ) : Type 0 where
  pub no_other : NoneOr (x.due session) lock
  pub tells_nobody : TellsNobody w.sessions.off session

-- Unlocking it: has-waiters goes only from an empty list, release-ok only where somebody was taken off; and
-- the list is left well.
pub record AsksUnlocking (w : World) (x : Duties) (session lock : ℕ) (has_waiters release_ok : Bool) : Type 0 where
  pub waiters_stay : (has_waiters ≡ true) ⊎ (w.words.list lock ≡ [])
  pub release_stays : (release_ok ≡ true) ⊎ ((other : ℕ) × (w.sessions.off session other ≡ true))
  pub left_well : IsLeftWell (waking w x) lock session

-- Joining the list in hand: has-waiters is set, no release-ok is owed, and no other lock is to be attempted.
pub record AsksJoining (w : World) (x : Duties) (session : ℕ) : Type 0 where
  pub flagged : x.flagged session ≡ true
  pub owes_no_ok : x.owes_release_ok session ≡ None
  pub no_other : (lock : ℕ) → w.sessions.has_list session ≡ Some lock → NoneOr (x.tries session) lock

-- Setting release-ok where the session owes it: if it was told, no other lock is to be attempted; with the
-- list in hand, nobody is to be told.
pub record AsksSettingOk (w : World) (x : Duties) (session lock : ℕ) : Type 0 where
  pub no_other :
      x.owes_release_ok session ≡ Some lock → w.sessions.stands session ≡ None → NoneOr (x.tries session) lock
  pub tells_nobody :
      x.owes_release_ok session ≡ Some lock → w.sessions.has_list session ≡ Some lock → TellsNobody w.sessions.off session

-- The session has no lightweight lock, nothing to do for anybody who waits, and nobody to call.
pub record HasNothingToDo (w : World) (x : Duties) (waits sleeps : Calls) (session : ℕ) : Type 0 where
  pub no_lock : (lock : ℕ) → HasIn w session lock → ⊥
  pub no_look : x.due session ≡ None
  pub no_try : x.tries session ≡ None
  pub no_ok : x.owes_release_ok session ≡ None
  pub no_list : w.sessions.has_list session ≡ None
  pub tells_nobody : TellsNobody w.sessions.off session
  pub calls_no_waiter : (other : ℕ) → waits.owed session other ≡ false
  pub calls_no_sleeper : (other : ℕ) → sleeps.owed session other ≡ false

-- The session may park on its sleep word: it stands in the list of a lock, and has nothing to do for anybody,
-- and nobody to call. Where it has won that lock, it knows that it is off the list.
pub record MaySleep (w : World) (x : Duties) (waits sleeps : Calls) (session : ℕ) : Type 0 where
  pub lock : ℕ
  pub stands : w.sessions.stands session ≡ Some lock
  pub not_won : HasIn w session lock → x.owes_release_ok session ≡ None
  pub no_look : x.due session ≡ None
  pub no_try : x.tries session ≡ None
  pub no_list : w.sessions.has_list session ≡ None
  pub tells_nobody : TellsNobody w.sessions.off session
  pub calls_no_waiter : (other : ℕ) → waits.owed session other ≡ false
  pub calls_no_sleeper : (other : ℕ) → sleeps.owed session other ≡ false

-- What each step asks. A put asks that no look is due; closing, and being kept apart, that there is nothing
-- to do.
abbrev pub Asks : World → Duties → Calls → Calls → ℕ → Step → Type 0
Asks w x waits sleeps session (TakeExclusive word) = AsksTaking x session (lock_of word)
Asks w x waits sleeps session (TakeShared word) = AsksTaking x session (lock_of word)
Asks w x waits sleeps session (PutExclusive word done) = x.due session ≡ None
Asks w x waits sleeps session (PutShared word) = x.due session ≡ None
Asks w x waits sleeps session (PutPassing owner tag mode) = x.due session ≡ None
Asks w x waits sleeps session (LockList word) = AsksLocking w x session (lock_of word)
Asks w x waits sleeps session (UnlockList word has_waiters release_ok) = AsksUnlocking w x session (lock_of word) has_waiters release_ok
Asks w x waits sleeps session (JoinList mode) = AsksJoining w x session
Asks w x waits sleeps session (SetReleaseOk word shown) = AsksSettingOk w x session (lock_of word)
Asks w x waits sleeps session (JoinSeat joiner) = HasNothingToDo w x waits sleeps session
Asks w x waits sleeps session step = Unit {0}

-- The order of locks: what a step asks for it.

-- A session that stands in a list takes an earlier lock, or the one of that list.
abbrev pub IsEarlier : World → ℕ → ℕ → Type 0
IsEarlier w session lock = (awaited : ℕ) → w.sessions.stands session ≡ Some awaited → (rank lock < rank awaited) ⊎ (lock ≡ awaited)

-- A session joins a list with earlier locks alone.
pub record IsLatest (w : World) (session lock : ℕ) : Type 0 where
  pub bound : rank lock < 17
  pub earlier : (held : ℕ) → HasIn w session held → rank held < rank lock

-- what the order asks of each step: to take an earlier lock, and to join the list of the latest alone
abbrev pub AsksInOrder : World → ℕ → Step → Type 0
AsksInOrder w session (TakeExclusive word) = IsEarlier w session (lock_of word)
AsksInOrder w session (TakeShared word) = IsEarlier w session (lock_of word)
AsksInOrder w session (JoinList mode) = (lock : ℕ) → w.sessions.has_list session ≡ Some lock → IsLatest w session lock
AsksInOrder w session step = Unit {0}
