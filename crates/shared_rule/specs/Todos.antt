use Rattle.std.specs.Prelude.{◌≡◌, ◌⊎◌, ℕ, ◌+◌, ◌&&◌, not, Bool, true, false, List, [], ◌∷◌, Option, Some, None, is_some, if◌then◌else◌}
use Rattle.lw_word.specs.declared.words.LwMode.TheVariants.{Exclusive, Shared}
use Rattle.lw_word.specs.LockState.{LockState, state_of, put_in, must_wake}
use Rattle.lw_word.specs.WaitList.{stands_in}
use Rattle.lw_word.specs.declared.wait_lists.LwWaiter.{LwWaiter}
use Rattle.lock_table.specs.Put.{set_at}
use Rattle.lock_table.specs.Content.{Content, empty_content}
use Rattle.lock_world.specs.WaitLists.{partition_lock, fast_lock}
use Rattle.lock_world.specs.Account.{Account, ListAccount, ListInHand}
use Rattle.lock_world.specs.Wakes.Waking.{NoneOr}
use Rattle.lock_world.specs.Wakes.Owing.{is_lock}
use Rattle.shared_rule.specs.declared.history.Mark.{Mark}
use Rattle.shared_rule.specs.declared.history.Mark.TheVariants.{TookPart, PutPart, OfWords}
use Rattle.shared_rule.specs.declared.history.WordMark.{WordMark}
use Rattle.shared_rule.specs.declared.history.WordMark.TheVariants.{TookFast, PutFast, SharedFast, UnsharedFast, Passed, LockedList, JoinedList, LeftList, TookOff, Told, SetReleaseOk, SetHasWaiters, SawListLocked, SawHeld, CalledSleeper}
use Rattle.shared_rule.specs.declared.history.History.{History}
use Rattle.shared_rule.specs.declared.lw_locks.LwLock.{LwLock}
use Rattle.shared_rule.specs.declared.lw_locks.LwLock.TheVariants.{OfPart, OfSlots}
use Rattle.shared_rule.specs.History.{told, list_here}
use Rattle.shared_rule.specs.LwLocks.{lock_number, LockExists}
use Rattle.shared_rule.specs.Lawful.{IsAboveHand}

-- What a session has still to do for those who wait for lightweight locks, as its history tells it. `Duties`
-- of the World's wake laws tell the same of all sessions.

-- By lock numbers.
pub record Todo : Type 0 where
  -- the lock that it put so that it must wake, and whose list it has not looked at since
  pub due : Option ℕ
  -- the lock that it queued for, or came back from the list of, and has not attempted since
  pub tries : Option ℕ
  -- the lock whose release-ok flag it has to set once it is off the list: from its joining on
  pub owes_release_ok : Option ℕ
  -- whom it has taken off a list, and has not called since
  pub calls : ℕ → Bool
  -- how often it has seen somebody in the way of an attempt since it last got a lock or joined a list: that
  -- often it has lost
  pub lost : ℕ

-- what a session has to do that has nothing to do
abbrev pub nothing_to_do : Todo
nothing_to_do = record { due = None; tries = None; owes_release_ok = None; calls = λ _. false; lost = 0 }

-- the same, however many attempts were lost
abbrev pub without_lost : Todo → Todo
without_lost todo = record todo { lost = 0 }

-- the lock was taken
abbrev pub todo_attempted : Todo → Todo
todo_attempted todo = record todo { tries = None; lost = 0 }

-- the lock was seen held
abbrev pub todo_lost : Todo → Todo
todo_lost todo = record todo { tries = None; lost = todo.lost + 1 }

-- the wait list of the lock was looked at
abbrev pub todo_looked : Todo → Todo
todo_looked todo = record todo { due = None }

-- a lock was put, and its word says this since
abbrev pub todo_putting : Todo → ℕ → LockState → Todo
todo_putting todo lock state = record todo { due = if must_wake state then Some lock else None }

-- the list in hand was joined
abbrev pub todo_queueing : Todo → Option ℕ → Todo
todo_queueing todo lock = record todo { tries = lock; owes_release_ok = lock; lost = 0 }

-- the list in hand was left
abbrev pub todo_leaving : Todo → Todo
todo_leaving todo = record todo { owes_release_ok = None }

-- a session was taken off a list, or told: its sleep word was changed
abbrev pub todo_owing : Todo → ℕ → Todo
todo_owing todo other = record todo { calls = set_at todo.calls other true }

-- a session was called
abbrev pub todo_calling : Todo → ℕ → Todo
todo_calling todo other = record todo { calls = set_at todo.calls other false }

-- the lock whose list is in hand
abbrev pub lock_of_list : Option ListInHand → Option ℕ
lock_of_list None = None
lock_of_list (Some mine) = Some mine.lock

-- Release-ok was set by a session that owes it, and was told: it attempts the lock next.
abbrev pub todo_told : Todo → ℕ → Todo
todo_told todo lock = record todo { tries = Some lock; owes_release_ok = None }

-- whether the session has the list of this lock in hand, and is not in it
abbrev pub is_off_list_in_hand : ℕ → Option ListInHand → ℕ → Bool
is_off_list_in_hand number in_hand lock = is_lock (lock_of_list in_hand) lock && not (stands_in number (list_here in_hand).waiters)

-- Release-ok of this lock was set: a session that owes it was told, and attempts the lock next; or it has the
-- list in hand, and is not in it.
abbrev pub todo_setting_ok : ℕ → ListAccount → Todo → ℕ → Todo
todo_setting_ok number lists todo lock =
    if is_lock todo.owes_release_ok lock
    then
    (if not (is_some lists.stands)
    then todo_told todo lock
    else (if is_off_list_in_hand number lists.in_hand lock then todo_leaving todo else todo))
    else todo

-- What a step that tells of no content makes of what the session of this number has to do, which knows this
-- of lists.
abbrev pub todo_words : ℕ → ListAccount → Todo → WordMark → Todo
todo_words number lists todo (TookFast owner database words) = todo_attempted todo
todo_words number lists todo (SharedFast owner database words) = todo_attempted todo
todo_words number lists todo (PutFast owner found) = todo_putting todo (fast_lock owner) (put_in Exclusive (state_of found))
todo_words number lists todo (UnsharedFast owner found) = todo_putting todo (fast_lock owner) (put_in Shared (state_of found))
todo_words number lists todo (Passed owner tag mode found) = todo_putting todo (fast_lock owner) (put_in Exclusive (state_of found))
todo_words number lists todo (LockedList lock waiters) = todo_looked todo
todo_words number lists todo (SawListLocked lock) = todo_looked todo
todo_words number lists todo (SawHeld lock shown) = todo_lost todo
todo_words number lists todo (JoinedList mode) = todo_queueing todo (lock_of_list lists.in_hand)
todo_words number lists todo LeftList = todo_leaving todo
todo_words number lists todo (TookOff other) = todo_owing todo other
todo_words number lists todo (Told other) = todo_owing todo other
todo_words number lists todo (CalledSleeper other) = todo_calling todo other
todo_words number lists todo (SetReleaseOk lock) = todo_setting_ok number lists todo lock
todo_words number lists todo mark = todo

-- whether the session has set has-waiters in the word of the list that it locked last, after a step that
-- tells of no content
abbrev pub flagged_words : Bool → WordMark → Bool
flagged_words flagged (LockedList lock waiters) = false
flagged_words flagged (SetHasWaiters lock) = true
flagged_words flagged mark = flagged

-- what a session knows of lists; how contents are read makes no difference
abbrev pub no_content : {T : Type 0} → T → Content
no_content part = empty_content

module _ {T : Type 0} where
  -- What a step makes of what the session of this number has to do, which knows this of lists.
  abbrev pub todo_noted : ℕ → ListAccount → Todo → Mark T → Todo
  todo_noted number lists todo (TookPart part taken) = todo_attempted todo
  todo_noted number lists todo (PutPart part done put found) =
      todo_putting todo (partition_lock part) (put_in Exclusive (state_of found))
  todo_noted number lists todo (OfWords step) = todo_words number lists todo step
  todo_noted number lists todo mark = todo

  -- whether the session has set has-waiters in the word of the list that it locked last, after a step
  abbrev pub flagged_noted : Bool → Mark T → Bool
  flagged_noted flagged (OfWords step) = flagged_words flagged step
  flagged_noted flagged mark = flagged

  -- what the session of this number has to do by these steps of its own, the last one first
  abbrev pub todo_told_by : ℕ → List (Mark T) → Todo
  todo_told_by number [] = nothing_to_do
  todo_told_by number (mark ∷ marks) = todo_noted number (told no_content number marks).lists (todo_told_by number marks) mark

  -- whether the session has set has-waiters in the word of the list that it locked last, by these steps of
  -- its own, the last one first
  abbrev pub flagged_told_by : List (Mark T) → Bool
  flagged_told_by [] = false
  flagged_told_by (mark ∷ marks) = flagged_noted (flagged_told_by marks) mark

  -- what the session has to do that makes its steps with the seat
  abbrev pub first_todo : List (History T) → Todo
  first_todo [] = nothing_to_do
  first_todo (history ∷ others) = todo_told_by history.number history.marks

  -- whether the session that makes its steps with the seat has set has-waiters in the word of the list that
  -- it locked last
  abbrev pub first_flagged : List (History T) → Bool
  first_flagged [] = false
  first_flagged (history ∷ others) = flagged_told_by history.marks

-- A session on its way to a lock has at most an attempt at it to make.
pub record TriesAtMost (lock : ℕ) (todo : Todo) : Type 0 where
  pub no_look : todo.due ≡ None
  pub no_other : NoneOr todo.tries lock
  pub no_ok : todo.owes_release_ok ≡ None
  pub calls_nobody : todo.calls ≡ (λ _. false)

-- What a session has to do once it stands in the list of a lock.
abbrev pub todo_in_list : ℕ → Todo
todo_in_list lock = record {
  due = None;
  tries = Some lock;
  owes_release_ok = Some lock;
  calls = λ _. false;
  lost = 0;
}

-- What a session has to do once it stood in the list of a lock, and has seen somebody in its way.
abbrev pub todo_held : ℕ → Todo
todo_held lock = todo_lost (todo_in_list lock)

-- What a session has to do once it stood in the list of a lock, and has got the lock.
abbrev pub todo_got : ℕ → Todo
todo_got lock = record { due = None; tries = None; owes_release_ok = Some lock; calls = λ _. false; lost = 0 }

-- What a session has to do once it stood in the list of a lock, was told, and is back.
abbrev pub todo_back : ℕ → Todo
todo_back lock = record { due = None; tries = Some lock; owes_release_ok = None; calls = λ _. false; lost = 1 }

-- By its account the session has the lock, exclusively or shared.
abbrev pub HasBy : Account → LwLock → Type 0
HasBy a (OfPart part) = (is_some (a.hand part) ≡ true) ⊎ (a.shares part ≡ true)
HasBy a (OfSlots owner) = (is_some (a.fast.slots owner) ≡ true) ⊎ (is_some (a.fast.shared_slots owner) ≡ true)

-- By its account the session has nobody to tell.
abbrev pub TellsNobodyBy : Account → Type 0
TellsNobodyBy a = (other : ℕ) → a.lists.off other ≡ false

-- Why it may unlock a list: nobody waits there, it has taken somebody off, it has the lock, or it attempts
-- the lock next.
pub data IsLeftWellBy (a : Account) (todo : Todo) (lock : LwLock) (waiters : List LwWaiter) : Type 0 where
  nobody_waits : waiters ≡ [] → IsLeftWellBy a todo lock waiters
  took_off : (other : ℕ) → a.lists.off other ≡ true → IsLeftWellBy a todo lock waiters
  still_has : HasBy a lock → IsLeftWellBy a todo lock waiters
  tries_next : todo.tries ≡ Some (lock_number lock) → IsLeftWellBy a todo lock waiters

-- By its account the session has no lightweight lock, but for partitions that it shares.
pub record HasNoLock (a : Account) : Type 0 where
  pub no_partition : (part : ℕ) → a.hand part ≡ None
  pub no_slots : (owner : ℕ) → a.fast.slots owner ≡ None
  pub no_shared_slots : (owner : ℕ) → a.fast.shared_slots owner ≡ None

-- By its account the session has earlier lightweight locks alone: partitions below this one, or no lock at
-- all where it is that of a session's slots.
abbrev pub IsLatestBy : Account → LwLock → Type 0
IsLatestBy a (OfPart part) = IsAboveHand a part
IsLatestBy a (OfSlots owner) = HasNoLock a

-- Sleeping until it is told: the session stands in the list of a lock, and has done first what it has to do
-- for others, and woken whom it has to. Either it hasn't won that lock, since it has earlier ones alone, or
-- it knows that it is off the list.
pub record MaySleepBy (a : Account) (todo : Todo) (owed : List ℕ) : Type 0 where
  pub lock : LwLock
  pub stands : a.lists.stands ≡ Some (lock_number lock)
  pub not_won : IsLatestBy a lock ⊎ (todo.owes_release_ok ≡ None)
  pub wakes_nobody : owed ≡ []
  pub no_look : todo.due ≡ None
  pub no_try : todo.tries ≡ None
  pub no_list : a.lists.in_hand ≡ None
  pub tells_nobody : TellsNobodyBy a
  pub calls_nobody : (other : ℕ) → todo.calls other ≡ false

-- The list in hand is that of a lock that is later than all lightweight locks which the session has by its
-- account.
pub record JoinsLatest (a : Account) : Type 0 where
  pub sessions : ℕ
  pub lock : LwLock
  pub there : LockExists sessions lock
  pub in_hand : lock_of_list a.lists.in_hand ≡ Some (lock_number lock)
  pub latest : IsLatestBy a lock
