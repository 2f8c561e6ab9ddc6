use Rattle.std.specs.Prelude.{◌≡◌, ◌⊎◌, ℕ, ◌==◌, ◌&&◌, not, Bool, true, false, List, [], ◌∷◌, ◌++◌, map}
use Rattle.std.specs.List.{filter}
use Rattle.modes_core.specs.declared.modes.Mode.{Mode}
use Rattle.lock_table.specs.declared.moves.Move.{Move}
use Rattle.lock_table.specs.declared.moves.Move.TheVariants.{Keep}
use Rattle.lock_world.specs.declared.events.Event.{Event}
use Rattle.lock_world.specs.declared.events.Step.{Step}
use Rattle.lock_world.specs.declared.events.Step.TheVariants as step
use Rattle.lock_world.specs.declared.events.Word.TheVariants.{Partition, Fast, Database, Slot}
use Rattle.lock_world.specs.World.{World}
use Rattle.lock_world.specs.Wakes.{Turn, happened, saw_list_locked, saw_held, called_waiter, called_sleeper, parks_waiting, parks_asleep}
use Rattle.lock_world.specs.Happens.{Happens}
use Rattle.shared_rule.specs.declared.history.Mark.{Mark}
use Rattle.shared_rule.specs.declared.history.Mark.TheVariants.{TookPart, PutPart, SetWaiting, MarkedGranted, LeftQueue, OfWords}
use Rattle.shared_rule.specs.declared.history.WordMark.{WordMark}
use Rattle.shared_rule.specs.declared.history.WordMark.TheVariants.{TookFast, PutFast, SharedFast, UnsharedFast, Passed}
use Rattle.shared_rule.specs.declared.history.WordMark.TheVariants.{Counted, Uncounted, LoadedWait, Asked, ClearedWait}
use Rattle.shared_rule.specs.declared.history.WordMark.TheVariants.{LoadedDatabase, LoadedSlot, LoadedFast, LoadedStrong, SetSlot}
use Rattle.shared_rule.specs.declared.history.WordMark.TheVariants.{ClearedSlot, TransferredSlot, StoredDatabase, LockedList, UnlockedList}
use Rattle.shared_rule.specs.declared.history.WordMark.TheVariants.{JoinedList, LeftList, TookOff, Told, LoadedSleep}
use Rattle.shared_rule.specs.declared.history.WordMark.TheVariants.{SetReleaseOk, SetHasWaiters, SawListLocked, SawHeld, CalledWaiter, CalledSleeper, ParksWaiting, ParksAsleep}
use Rattle.shared_rule.specs.declared.lw_locks.LwLock.{LwLock}
use Rattle.shared_rule.specs.LwLocks.{word_of_lock, lock_number}

-- The steps that a session's history tells: each mark tells one step, in order, and there is no other.

-- What is said of a step on the lightweight lock of this number: it is this one on the lock's word.
abbrev pub IsOnLock : ℕ → (LwLock → Step) → Step → Type 0
IsOnLock number on its = (lock : LwLock) × (lock_number lock ≡ number) × (its ≡ on lock)

-- The step that a mark tells, of the session of this number.
abbrev pub WordsTell : ℕ → WordMark → Step → Type 0
WordsTell number (TookFast owner database words) its = its ≡ step.TakeExclusive (Fast owner)
WordsTell number (PutFast owner found) its = its ≡ step.PutExclusive (Fast owner) Keep
WordsTell number (SharedFast owner database words) its = its ≡ step.TakeShared (Fast owner)
WordsTell number (UnsharedFast owner found) its = its ≡ step.PutShared (Fast owner)
WordsTell number (Passed owner tag mode found) its = its ≡ step.PutPassing owner tag mode
WordsTell number (Counted tag mode) its = its ≡ step.Count tag mode
WordsTell number (Uncounted tag mode) its = its ≡ step.Uncount tag mode
WordsTell number (LoadedWait shown) its = its ≡ step.LoadWait shown
WordsTell number (Asked other before) its = its ≡ step.AskCancel other
WordsTell number ClearedWait its = its ≡ step.ClearWait false
WordsTell number (LoadedDatabase owner shown) its = its ≡ step.LoadWord (Database owner) shown
WordsTell number (LoadedSlot owner slot shown) its = its ≡ step.LoadWord (Slot owner slot) shown
WordsTell number (LoadedFast shown) its = its ≡ step.LoadWord (Fast number) shown
WordsTell number (LoadedStrong index shown) its = its ≡ step.LoadStrong index shown
WordsTell number (SetSlot slot tag mode) its = its ≡ step.SetSlot slot tag mode
WordsTell number (ClearedSlot slot tag mode) its = its ≡ step.ClearSlot slot tag mode
WordsTell number (TransferredSlot owner slot tag mode) its =
    (strong : Mode) × (its ≡ step.TransferSlot owner slot tag mode strong)
WordsTell number (StoredDatabase database) its = its ≡ step.StoreDatabase database
WordsTell number (LockedList lock waiters) its = IsOnLock lock (λ l. step.LockList (word_of_lock l)) its
WordsTell number UnlockedList its =
    (lock : LwLock) × (has_waiters : Bool) × (release_ok : Bool)
    × (its ≡ step.UnlockList (word_of_lock lock) has_waiters release_ok)
WordsTell number (JoinedList mode) its = its ≡ step.JoinList mode
WordsTell number LeftList its = its ≡ step.LeaveList
WordsTell number (TookOff other) its = its ≡ step.TakeOff other
WordsTell number (Told other) its = its ≡ step.Tell other
WordsTell number (LoadedSleep shown) its = its ≡ step.LoadSleep shown
WordsTell number (SetReleaseOk lock) its =
    (shown : ℕ) × IsOnLock lock (λ l. step.SetReleaseOk (word_of_lock l) shown) its
WordsTell number (SetHasWaiters lock) its =
    (shown : ℕ) × IsOnLock lock (λ l. step.SetHasWaiters (word_of_lock l) shown) its
WordsTell number (SawListLocked lock) its = ⊥
WordsTell number (SawHeld lock shown) its = ⊥
WordsTell number (CalledWaiter other) its = ⊥
WordsTell number (CalledSleeper other) its = ⊥
WordsTell number (ParksWaiting shown) its = ⊥
WordsTell number (ParksAsleep shown) its = ⊥

-- Putting a partition names the move that was made: the mark's, or, where that is to keep, the one that stood
-- recorded.
abbrev pub Puts : ℕ → Move → Step → Type 0
Puts part done its = (made : Move) × (its ≡ step.PutExclusive (Partition part) made) × ((made ≡ done) ⊎ (done ≡ Keep))

-- The step is one of seats: a number is given out, or closed, or kept apart, or goes on by itself. No mark
-- tells it.
abbrev pub is_of_seats : Step → Bool
is_of_seats step.SplitSeat = true
is_of_seats (step.JoinSeat joiner) = true
is_of_seats its = false

-- whether the event is a step of this session, and none of seats
abbrev pub is_step_of : ℕ → Event → Bool
is_step_of number event = (event.session == number) && not (is_of_seats event.step)

-- the steps of a session among these events, in order, those of seats aside
abbrev pub steps_of : ℕ → List Event → List Step
steps_of number events = map (λ event. event.step) (filter (is_step_of number) events)

module _ {T : Type 0} where
  -- The mark tells of this step.
  abbrev pub Tells : ℕ → Mark T → Step → Type 0
  Tells number (TookPart part taken) its = its ≡ step.TakeExclusive (Partition part)
  Tells number (PutPart part done put found) its = Puts part done its
  Tells number (SetWaiting tag mode now) its = its ≡ step.SetWaiting tag mode
  Tells number (MarkedGranted part other done woken now) its = its ≡ step.MarkGranted other done
  Tells number (LeftQueue woken now) its = its ≡ step.ClearWait true
  Tells number (OfWords mark) its = WordsTell number mark its

  -- The mark is that of a look or of a call, which are no steps: the World is as it was.
  pub data LooksOnly (mark : Mark T) : Type 0 where
    at_list : (lock : ℕ) → mark ≡ OfWords (SawListLocked lock) → LooksOnly mark
    at_lock : (lock shown : ℕ) → mark ≡ OfWords (SawHeld lock shown) → LooksOnly mark
    calls_waiter : (other : ℕ) → mark ≡ OfWords (CalledWaiter other) → LooksOnly mark
    calls_sleeper : (other : ℕ) → mark ≡ OfWords (CalledSleeper other) → LooksOnly mark
    at_wait : (shown : ℕ) → mark ≡ OfWords (ParksWaiting shown) → LooksOnly mark
    at_sleep : (shown : ℕ) → mark ≡ OfWords (ParksAsleep shown) → LooksOnly mark

  -- These steps are those that the marks tell, the last mark first: the last step is told by the first of
  -- them, and the steps before it by the others; looks and calls aside.
  abbrev pub AreTold : ℕ → List (Mark T) → List Step → Type 0
  AreTold number [] steps = steps ≡ []
  AreTold number (mark ∷ marks) steps =
      ((before : List Step) × (last : Step) × (steps ≡ before ++ last ∷ []) × Tells number mark last × AreTold number marks before)
      ⊎ (LooksOnly mark × AreTold number marks steps)

-- The turns of a run: events, looks and calls.

-- the events among them
abbrev pub events_of : List Turn → List Event
events_of [] = []
events_of (happened event ∷ turns) = event ∷ events_of turns
events_of (saw_list_locked session lock ∷ turns) = events_of turns
events_of (saw_held session lock ∷ turns) = events_of turns
events_of (called_waiter session other ∷ turns) = events_of turns
events_of (called_sleeper session other ∷ turns) = events_of turns
events_of (parks_waiting session shown ∷ turns) = events_of turns
events_of (parks_asleep session shown ∷ turns) = events_of turns

-- whether the turn is one of this session, and none of seats
abbrev pub is_turn_of : ℕ → Turn → Bool
is_turn_of number (happened event) = is_step_of number event
is_turn_of number (saw_list_locked session lock) = session == number
is_turn_of number (saw_held session lock) = session == number
is_turn_of number (called_waiter session other) = session == number
is_turn_of number (called_sleeper session other) = session == number
is_turn_of number (parks_waiting session shown) = session == number
is_turn_of number (parks_asleep session shown) = session == number

-- the turns of a session, in order, those of seats aside
abbrev pub turns_of : ℕ → List Turn → List Turn
turns_of number turns = filter (is_turn_of number) turns

module _ {T : Type 0} where
  -- The turn that a mark tells, of the session of this number.
  abbrev pub TellsTurn : ℕ → Mark T → Turn → Type 0
  TellsTurn number mark (happened event) = Tells number mark event.step
  TellsTurn number mark (saw_list_locked session lock) = mark ≡ OfWords (SawListLocked lock)
  TellsTurn number mark (saw_held session lock) = (shown : ℕ) × (mark ≡ OfWords (SawHeld lock shown))
  TellsTurn number mark (called_waiter session other) = mark ≡ OfWords (CalledWaiter other)
  TellsTurn number mark (called_sleeper session other) = mark ≡ OfWords (CalledSleeper other)
  TellsTurn number mark (parks_waiting session shown) = mark ≡ OfWords (ParksWaiting shown)
  TellsTurn number mark (parks_asleep session shown) = mark ≡ OfWords (ParksAsleep shown)

  -- These turns are those that the marks tell, one each, the last mark first.
  abbrev pub AreTurnsTold : ℕ → List (Mark T) → List Turn → Type 0
  AreTurnsTold number [] turns = turns ≡ []
  AreTurnsTold number (mark ∷ marks) turns =
      (before : List Turn) × (last : Turn) × (turns ≡ before ++ last ∷ []) × TellsTurn number mark last × AreTurnsTold number marks before

-- Events lead from one World to another, each happening in its turn: none is skipped.
abbrev pub Leads : World → List Event → World → Type 0
Leads w [] v = v ≡ w
Leads w (event ∷ events) v = (u : World) × Happens w event u × Leads u events v
