use Rattle.std.specs.Prelude.{ℕ, List}
use Rattle.modes_core.specs.declared.modes.Mode.{Mode}
use Rattle.modes_core.specs.declared.tags.Tag.{Tag}
use Rattle.lw_word.specs.declared.words.LwMode.{LwMode}
use Rattle.lw_word.specs.declared.wait_lists.LwWaiter.{LwWaiter}
use Rattle.lock_table.specs.declared.moves.Move.{Move}
use Rattle.shared_rule.specs.declared.history.Mark.{Mark}
use Rattle.shared_rule.specs.declared.history.Mark.TheVariants as mark
use Rattle.shared_rule.specs.declared.history.WordMark.TheVariants as word

-- The marks of steps by their names, whether they tell of a content or not.

module _ {T : Type 0} where
  -- the partition was taken in hand, with this content
  abbrev pub TookPart : ℕ → T → Mark T
  TookPart part taken = mark.TookPart part taken

  -- the partition was put home with this content, after this move, and the word of its lock showed this
  -- before
  abbrev pub PutPart : ℕ → Move → T → ℕ → Mark T
  PutPart part done put found = mark.PutPart part done put found

  -- the lock of this session's slots was taken, which show these words with this database
  abbrev pub TookFast : ℕ → ℕ → List ℕ → Mark T
  TookFast owner database words = mark.OfWords (word.TookFast owner database words)

  -- the lock of this session's slots was put, and its word showed this before
  abbrev pub PutFast : ℕ → ℕ → Mark T
  PutFast owner found = mark.OfWords (word.PutFast owner found)

  -- the lock of this session's slots is shared, which show these words with this database
  abbrev pub SharedFast : ℕ → ℕ → List ℕ → Mark T
  SharedFast owner database words = mark.OfWords (word.SharedFast owner database words)

  -- the share of the lock of this session's slots was given back, and its word showed this before
  abbrev pub UnsharedFast : ℕ → ℕ → Mark T
  UnsharedFast owner found = mark.OfWords (word.UnsharedFast owner found)

  -- the lock of this session's slots was put, and the strong lock is past that session; the lock's word
  -- showed this before
  abbrev pub Passed : ℕ → Tag → Mode → ℕ → Mark T
  Passed owner tag mode found = mark.OfWords (word.Passed owner tag mode found)

  -- the strong lock was counted
  abbrev pub Counted : Tag → Mode → Mark T
  Counted tag mode = mark.OfWords (word.Counted tag mode)

  -- the strong lock is counted no more
  abbrev pub Uncounted : Tag → Mode → Mark T
  Uncounted tag mode = mark.OfWords (word.Uncounted tag mode)

  -- the session's own wait word was set to waiting, with this content in hand after its join
  abbrev pub SetWaiting : Tag → Mode → T → Mark T
  SetWaiting tag mode now = mark.SetWaiting tag mode now

  -- the wait of the other session was marked granted, by this move, which granted these sessions, with this
  -- content in hand after it
  abbrev pub MarkedGranted : ℕ → ℕ → Move → List ℕ → T → Mark T
  MarkedGranted part other done woken now = mark.MarkedGranted part other done woken now

  -- the session's own wait word was loaded, and showed this
  abbrev pub LoadedWait : ℕ → Mark T
  LoadedWait shown = mark.OfWords (word.LoadedWait shown)

  -- the other session was asked to cancel, and its wait word showed this before
  abbrev pub Asked : ℕ → ℕ → Mark T
  Asked other before = mark.OfWords (word.Asked other before)

  -- the session's own wait word was cleared
  abbrev pub ClearedWait : Mark T
  ClearedWait = mark.OfWords word.ClearedWait

  -- the session's own wait word was cleared and its wait left the queue, by which these sessions were
  -- granted, with this content in hand
  abbrev pub LeftQueue : List ℕ → T → Mark T
  LeftQueue woken now = mark.LeftQueue woken now

  -- the database of this session was loaded, and showed this
  abbrev pub LoadedDatabase : ℕ → ℕ → Mark T
  LoadedDatabase owner shown = mark.OfWords (word.LoadedDatabase owner shown)

  -- the slot of this session was loaded, and showed this
  abbrev pub LoadedSlot : ℕ → ℕ → ℕ → Mark T
  LoadedSlot owner slot shown = mark.OfWords (word.LoadedSlot owner slot shown)

  -- the word of the lock of the session's own slots was loaded, and showed this
  abbrev pub LoadedFast : ℕ → Mark T
  LoadedFast shown = mark.OfWords (word.LoadedFast shown)

  -- the strong lock counter was loaded, and showed this
  abbrev pub LoadedStrong : ℕ → ℕ → Mark T
  LoadedStrong index shown = mark.OfWords (word.LoadedStrong index shown)

  -- the mode was set in the session's own slot
  abbrev pub SetSlot : ℕ → Tag → Mode → Mark T
  SetSlot slot tag mode = mark.OfWords (word.SetSlot slot tag mode)

  -- the mode was cleared in the session's own slot
  abbrev pub ClearedSlot : ℕ → Tag → Mode → Mark T
  ClearedSlot slot tag mode = mark.OfWords (word.ClearedSlot slot tag mode)

  -- the mode was moved from this session's slot to the content in hand
  abbrev pub TransferredSlot : ℕ → ℕ → Tag → Mode → Mark T
  TransferredSlot owner slot tag mode = mark.OfWords (word.TransferredSlot owner slot tag mode)

  -- the session's own database was stored
  abbrev pub StoredDatabase : ℕ → Mark T
  StoredDatabase database = mark.OfWords (word.StoredDatabase database)

  -- the wait list of the lock was locked, with these waiters in it
  abbrev pub LockedList : ℕ → List LwWaiter → Mark T
  LockedList lock waiters = mark.OfWords (word.LockedList lock waiters)

  -- the wait list in hand was put home and unlocked
  abbrev pub UnlockedList : Mark T
  UnlockedList = mark.OfWords word.UnlockedList

  -- the wait list in hand was joined, to take the lock in this mode
  abbrev pub JoinedList : LwMode → Mark T
  JoinedList mode = mark.OfWords (word.JoinedList mode)

  -- the wait list in hand was left
  abbrev pub LeftList : Mark T
  LeftList = mark.OfWords word.LeftList

  -- the other session was taken off the wait list in hand
  abbrev pub TookOff : ℕ → Mark T
  TookOff other = mark.OfWords (word.TookOff other)

  -- the other session, which was taken off a wait list, was told so in its sleep word
  abbrev pub Told : ℕ → Mark T
  Told other = mark.OfWords (word.Told other)

  -- the session's own sleep word was loaded, and showed this
  abbrev pub LoadedSleep : ℕ → Mark T
  LoadedSleep shown = mark.OfWords (word.LoadedSleep shown)

  -- release-ok was set in the word of the lock
  abbrev pub SetReleaseOk : ℕ → Mark T
  SetReleaseOk lock = mark.OfWords (word.SetReleaseOk lock)

  -- has-waiters was set in the word of the lock
  abbrev pub SetHasWaiters : ℕ → Mark T
  SetHasWaiters lock = mark.OfWords (word.SetHasWaiters lock)

  -- a look, which is no step of the World: another session had the wait list of the lock locked
  abbrev pub SawListLocked : ℕ → Mark T
  SawListLocked lock = mark.OfWords (word.SawListLocked lock)

  -- a look, which is no step of the World: another session held the lock in the way of an attempt, by this
  -- number in its word
  abbrev pub SawHeld : ℕ → ℕ → Mark T
  SawHeld lock shown = mark.OfWords (word.SawHeld lock shown)

  -- a call, which is no step of the World: the other session may be parked on its wait word
  abbrev pub CalledWaiter : ℕ → Mark T
  CalledWaiter other = mark.OfWords (word.CalledWaiter other)

  -- a call, which is no step of the World: the other session may be parked on its sleep word
  abbrev pub CalledSleeper : ℕ → Mark T
  CalledSleeper other = mark.OfWords (word.CalledSleeper other)

  -- a look, which is no step of the World: the session's own wait word showed this, right before the session
  -- parks on that
  abbrev pub ParksWaiting : ℕ → Mark T
  ParksWaiting shown = mark.OfWords (word.ParksWaiting shown)

  -- a look, which is no step of the World: the session's own sleep word showed this, right before the session
  -- parks on that
  abbrev pub ParksAsleep : ℕ → Mark T
  ParksAsleep shown = mark.OfWords (word.ParksAsleep shown)
