use Rattle.std.specs.Prelude.{◌≡◌, ℕ, ◌/◌, ◌%◌, ◌^◌, Bool, true, false, Option, Some, None}
use Rattle.lw_word.specs.declared.wait_lists.LwWaiter.{LwWaiter}
use Rattle.lock_table.specs.Put.{set_at}
use Rattle.lock_world.specs.WaitLists.{after_joining, after_leaving_list, after_taking_off, after_telling, after_seeing_none}
use Rattle.lock_world.specs.Wakes.Waking.{Waking}

-- What each kind of step makes of the waiting for lightweight locks, and of what its session has to do for
-- those who wait.

-- the two flags that waking reads stay
pub record WakeFlagsStay (old new : ℕ) : Type 0 where
  pub release_ok : new / 2 ^ 29 % 2 ≡ old / 2 ^ 29 % 2
  pub has_waiters : new / 2 ^ 30 % 2 ≡ old / 2 ^ 30 % 2

-- Taking or sharing a lock, whose word is this from then on: what the session had to try is done.
abbrev pub lock_taken : Waking → ℕ → ℕ → ℕ → (ℕ → ℕ → Bool) → (ℕ → ℕ → Bool) → Waking
lock_taken w session lock word holds shares = record w {
  word = set_at w.word lock word;
  holds = holds;
  shares = shares;
  tries = set_at w.tries session None;
}

-- Putting it, or giving back what was shared: a look at its list is due, or none.
abbrev pub lock_put : Waking → ℕ → ℕ → ℕ → Option ℕ → (ℕ → ℕ → Bool) → (ℕ → ℕ → Bool) → Waking
lock_put w session lock word due holds shares = record w {
  word = set_at w.word lock word;
  holds = holds;
  shares = shares;
  due = set_at w.due session due;
}

-- Locking a list: no look at it is due any more.
abbrev pub list_locked : Waking → ℕ → ℕ → ℕ → Waking
list_locked w session lock word = record w {
  word = set_at w.word lock word;
  has_list = set_at w.has_list session (Some lock);
  flagged = set_at w.flagged session false;
  due = set_at w.due session None;
}

-- Seeing that another session has the list locked: no look is due any more.
abbrev pub list_seen_locked : Waking → ℕ → Waking
list_seen_locked w session = record w { due = set_at w.due session None }

-- Unlocking a list.
abbrev pub list_unlocked : Waking → ℕ → ℕ → ℕ → Waking
list_unlocked w session lock word = record w { word = set_at w.word lock word; has_list = set_at w.has_list session None }

-- Joining the list in hand: an attempt comes next, and release-ok is to be set once the session is off the
-- list.
abbrev pub list_joined : Waking → ℕ → LwWaiter → Waking
list_joined w lock waiter = record w {
  sleepers = after_joining w.sleepers lock waiter;
  tries = set_at w.tries waiter.session (Some lock);
  owes_release_ok = set_at w.owes_release_ok waiter.session (Some lock);
}

-- Leaving the list in hand: the session has no release-ok to set.
abbrev pub list_left : Waking → ℕ → ℕ → Waking
list_left w lock session = record w {
  sleepers = after_leaving_list w.sleepers lock session;
  owes_release_ok = set_at w.owes_release_ok session None;
}

-- Taking `other` off a list.
abbrev pub waiter_taken_off : Waking → ℕ → ℕ → ℕ → Waking
waiter_taken_off w lock session other = record w { sleepers = after_taking_off w.sleepers lock session other }

-- Telling `other`, which was taken off, that it waits no more.
abbrev pub waiter_told : Waking → ℕ → ℕ → Waking
waiter_told w session other = record w { sleepers = after_telling w.sleepers session other }

-- Seeing that one was told: the session waits no more.
abbrev pub told_seen : Waking → ℕ → Waking
told_seen w session = record w { sleepers = after_seeing_none w.sleepers session }

-- Setting release-ok once the session was told: it attempts the lock next.
abbrev pub release_ok_set : Waking → ℕ → ℕ → ℕ → Waking
release_ok_set w session lock word = record w {
  word = set_at w.word lock word;
  owes_release_ok = set_at w.owes_release_ok session None;
  tries = set_at w.tries session (Some lock);
}

-- Setting release-ok with the list in hand, in which the session is no more.
abbrev pub release_ok_set_in_hand : Waking → ℕ → ℕ → ℕ → Waking
release_ok_set_in_hand w session lock word = record w {
  word = set_at w.word lock word;
  owes_release_ok = set_at w.owes_release_ok session None;
}

-- A word with flags set, and nothing else.
abbrev pub word_flagged : Waking → ℕ → ℕ → Waking
word_flagged w lock word = record w { word = set_at w.word lock word }

-- Setting has-waiters with the list in hand.
abbrev pub has_waiters_set : Waking → ℕ → ℕ → ℕ → Waking
has_waiters_set w session lock word = record w { word = set_at w.word lock word; flagged = set_at w.flagged session true }

-- Seeing that the lock is held.
abbrev pub held_seen : Waking → ℕ → Waking
held_seen w session = record w { tries = set_at w.tries session None }
