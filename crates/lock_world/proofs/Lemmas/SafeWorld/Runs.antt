use Rattle.std.proofs.Common.{◌≡◌, [], ℕ, Bool, true, false, List, ◌∷◌, ◌++◌, Option, Some, None, refl, sym, subst, inl, inr, zero, suc}
use Rattle.std.specs.Prelude.{slice_get}
use Rattle.modes_core.specs.Tag.{partition_of}
use Rattle.lock_world.specs.declared.events.Event.{Event}
use Rattle.lock_table.specs.declared.moves.Move.{Move}
use Rattle.lock_table.specs.declared.moves.Move.TheVariants.{Keep, Grant, Join, Release, Leave, Adopt}
use Rattle.lock_world.specs.declared.events.Step.{Step}
use Rattle.lock_world.specs.declared.events.Step.TheVariants.{TakeExclusive, PutExclusive, TakeShared, PutShared, SplitSeat, JoinSeat, AskCancel, LoadWait, SetWaiting, MarkGranted, ClearWait, PutPassing, LoadStrong, LoadWord, SetSlot, ClearSlot, StoreDatabase, Count, Uncount, TransferSlot, LockList, UnlockList, JoinList, LeaveList, TakeOff, Tell, LoadSleep, SetReleaseOk, SetHasWaiters}
use Rattle.lock_world.specs.declared.events.Word.TheVariants.{Partition, Fast, Database, Slot}
use Rattle.lock_world.specs.World.{World}
use Rattle.lock_world.specs.Happens.{Happens, HappensStep, Next, RunsThrough, last_of, Runs}
use Rattle.lock_world.specs.Happens.Seats.{HappensJoining}
use Rattle.lock_world.specs.Happens.Waits.{HappensMarkingIn, HappensMarking, HappensClearing}
use Rattle.lock_world.specs.SafeWorld.{SafeWorld}
use Rattle.lock_world.proofs.Lemmas.Waits.Steps.{GrantsOthers}
use Rattle.lock_world.proofs.Lemmas.SafeWorld.Partitions.{taking_partition-safe_world, putting_partition-safe_world, putting_recorded-safe_world}
use Rattle.lock_world.proofs.Lemmas.SafeWorld.Seats.{issuing-safe_world, going_on-safe_world, keeping_apart-safe_world, closing-safe_world}
use Rattle.lock_world.proofs.Lemmas.SafeWorld.Waits.{asking-safe_world, loading_wait-safe_world, setting_waiting-safe_world, marking_first-safe_world, marking_next-safe_world, clearing_seen-safe_world, clearing_in_hand-safe_world, leaving-safe_world}
use Rattle.lock_world.proofs.Lemmas.SafeWorld.Sharing.{sharing_partition-safe_world, unsharing_partition-safe_world, sharing_fast-safe_world, unsharing_fast-safe_world}
use Rattle.lock_world.proofs.Lemmas.SafeWorld.Slots.Locks.{taking_fast-safe_world, putting_fast-safe_world}
use Rattle.lock_world.proofs.Lemmas.SafeWorld.Slots.Setting.{setting_slot-safe_world}
use Rattle.lock_world.proofs.Lemmas.SafeWorld.Slots.Clearing.{clearing_slot-safe_world}
use Rattle.lock_world.proofs.Lemmas.SafeWorld.Slots.Transferring.{transferring-safe_world}
use Rattle.lock_world.proofs.Lemmas.SafeWorld.Slots.Databases.{storing_database-safe_world}
use Rattle.lock_world.proofs.Lemmas.SafeWorld.Slots.Reading.{loading-safe_world, reading_counter-safe_world}
use Rattle.lw_word.proofs.Lemmas.Flags.{release_ok_word-holders, release_ok_word-list_locked, has_waiters_word-holders, has_waiters_word-list_locked}
use Rattle.lock_world.proofs.Lemmas.SafeWorld.Lists.{locking_partition_list-safe_world, locking_fast_list-safe_world, unlocking_partition_list-safe_world, unlocking_fast_list-safe_world, flagging_partition-safe_world, flagging_fast-safe_world, joining_list-safe_world, leaving_list-safe_world, taking_off-safe_world, telling-safe_world, loading_sleep-safe_world}
use Rattle.lock_world.proofs.Lemmas.SafeWorld.Counters.{counting-safe_world, uncounting-safe_world, passing-safe_world}

joining-safe : (w : World) (s : ℕ) (joiner : Option ℕ) (v : World) → SafeWorld w → HappensJoining w s joiner v → SafeWorld v
joining-safe w s (Some j) v safe h = subst SafeWorld (sym h.1) (keeping_apart-safe_world w s j safe h.0)
joining-safe w s None v safe h = subst SafeWorld (sym h.1) (closing-safe_world w s safe h.0)

marking_in-safe : (w : World) (s k p : ℕ) (done : Move) (v : World) → SafeWorld w → GrantsOthers done → HappensMarkingIn w s k p done v → SafeWorld v
marking_in-safe w s k p done v safe grants (inl h) = subst SafeWorld (sym h.3) (marking_first-safe_world w s k p done h.0 h.1 grants safe h.2)
marking_in-safe w s k p done v safe grants (inr h) = subst SafeWorld (sym h.1) (marking_next-safe_world w s k p done safe h.0)

marking-safe : (w : World) (s k : ℕ) (done : Move) (v : World) → SafeWorld w → HappensMarking w s k done v → SafeWorld v
marking-safe w s k Keep v safe h = absurd h
marking-safe w s k (Grant t m) v safe h = absurd h
marking-safe w s k (Join t m) v safe h = absurd h
marking-safe w s k (Release t m) v safe h = marking_in-safe w s k (partition_of t) (Release t m) v safe tt h
marking-safe w s k (Leave t) v safe h = marking_in-safe w s k (partition_of t) (Leave t) v safe tt h
marking-safe w s k (Adopt q i) v safe h = absurd h

clearing-safe : (w : World) (s : ℕ) (leaving : Bool) (v : World) → SafeWorld w → HappensClearing w s leaving v → SafeWorld v
clearing-safe w s false v safe h =
    elim h.1 [
      | inl seen ↦ subst SafeWorld (sym h.2) (clearing_seen-safe_world w s h.0 safe seen)
      | inr in_hand ↦ subst SafeWorld (sym h.2) (clearing_in_hand-safe_world w s h.0 safe in_hand)
    ]
clearing-safe w s true v safe (inl h) = subst SafeWorld (sym h.4) (leaving-safe_world w s h.0 h.1 h.2 safe h.3)
clearing-safe w s true v safe (inr h) = subst SafeWorld (sym h.3) (clearing_in_hand-safe_world w s h.0 safe h.1)

step-safe : (w : World) (s : ℕ) (step : Step) (v : World) → SafeWorld w → HappensStep w s step v → SafeWorld v
step-safe w s (TakeExclusive (Partition p)) v safe h = subst SafeWorld (sym h.1) (taking_partition-safe_world w s p safe h.0)
step-safe w s (TakeExclusive (Fast o)) v safe h = subst SafeWorld (sym h.1) (taking_fast-safe_world w s o safe h.0)
step-safe w s (TakeExclusive word) v safe h = absurd h
step-safe w s (PutExclusive (Partition p) done) v safe (inl h) = subst SafeWorld (sym h.2) (putting_partition-safe_world w s p done h.0 safe h.1)
step-safe w s (PutExclusive (Partition p) done) v safe (inr h) = subst SafeWorld (sym h.1) (putting_recorded-safe_world w s p done safe h.0)
step-safe w s (PutExclusive (Fast o) done) v safe h = subst SafeWorld (sym h.1.1) (putting_fast-safe_world w s o safe h.1.0)
step-safe w s (PutExclusive word done) v safe h = absurd h
step-safe w s (TakeShared (Partition p)) v safe h = subst SafeWorld (sym h.2) (sharing_partition-safe_world w s p safe h.1)
step-safe w s (TakeShared (Fast o)) v safe h = subst SafeWorld (sym h.2) (sharing_fast-safe_world w s o safe h.1)
step-safe w s (TakeShared word) v safe h = absurd h
step-safe w s (PutShared (Partition p)) v safe h = subst SafeWorld (sym h.1) (unsharing_partition-safe_world w s p safe h.0)
step-safe w s (PutShared (Fast o)) v safe h = subst SafeWorld (sym h.1) (unsharing_fast-safe_world w s o safe h.0)
step-safe w s (PutShared word) v safe h = absurd h
step-safe w s SplitSeat v safe (inl h) = subst SafeWorld (sym h.1) (issuing-safe_world w s safe h.0)
step-safe w s SplitSeat v safe (inr h) = subst SafeWorld (sym h.1) (going_on-safe_world w s safe h.0)
step-safe w s (JoinSeat joiner) v safe h = joining-safe w s joiner v safe h
step-safe w s (AskCancel k) v safe h = subst SafeWorld (sym h.1) (asking-safe_world w s k safe h.0)
step-safe w s (LoadWait n) v safe h = subst SafeWorld (sym h.1) (loading_wait-safe_world w s n safe h.0.steps)
step-safe w s (SetWaiting t m) v safe h = subst SafeWorld (sym h.2) (setting_waiting-safe_world w s t m h.0 safe h.1)
step-safe w s (MarkGranted k done) v safe h = marking-safe w s k done v safe h
step-safe w s (ClearWait leaving) v safe h = clearing-safe w s leaving v safe h
step-safe w s (PutPassing o t m) v safe h = subst SafeWorld (sym h.1) (passing-safe_world w s o t m safe h.0)
step-safe w s (LoadStrong i n) v safe h = subst SafeWorld (sym h.1) (reading_counter-safe_world w s i n safe h.0)
step-safe w s (LoadWord (Fast o) n) v safe h = subst SafeWorld (sym h.2) (loading-safe_world w s (Fast o) n safe h.1)
step-safe w s (LoadWord (Database k) n) v safe h = subst SafeWorld (sym h.1) (loading-safe_world w s (Database k) n safe h.0)
step-safe w s (LoadWord (Slot k i) n) v safe h = subst SafeWorld (sym h.1) (loading-safe_world w s (Slot k i) n safe h.0)
step-safe w s (LoadWord word n) v safe h = absurd h
step-safe w s (SetSlot i t m) v safe h = subst SafeWorld (sym h.1) (setting_slot-safe_world w s i t m safe h.0)
step-safe w s (ClearSlot i t m) v safe h = subst SafeWorld (sym h.1) (clearing_slot-safe_world w s i t m safe h.0)
step-safe w s (StoreDatabase d) v safe h = subst SafeWorld (sym h.1) (storing_database-safe_world w s d safe h.0)
step-safe w s (Count t m) v safe h = subst SafeWorld (sym h.1) (counting-safe_world w s t m safe h.0)
step-safe w s (Uncount t m) v safe h = subst SafeWorld (sym h.1) (uncounting-safe_world w s t m safe h.0)
step-safe w s (TransferSlot k i t m x) v safe h = subst SafeWorld (sym h.1) (transferring-safe_world w s k i t m x safe h.0)
step-safe w s (LockList (Partition p)) v safe h = subst SafeWorld (sym h.2) (locking_partition_list-safe_world w s safe p h.1)
step-safe w s (LockList (Fast o)) v safe h = subst SafeWorld (sym h.2) (locking_fast_list-safe_world w s safe o h.1)
step-safe w s (LockList word) v safe h = absurd h
step-safe w s (UnlockList (Partition p) waiters release) v safe h = subst SafeWorld (sym h.1) (unlocking_partition_list-safe_world w s safe p waiters release h.0)
step-safe w s (UnlockList (Fast o) waiters release) v safe h = subst SafeWorld (sym h.1) (unlocking_fast_list-safe_world w s safe o waiters release h.0)
step-safe w s (UnlockList word waiters release) v safe h = absurd h
step-safe w s (JoinList mode) v safe h = subst SafeWorld (sym h.2) (joining_list-safe_world w s safe h.0 mode h.1)
step-safe w s LeaveList v safe h = subst SafeWorld (sym h.2) (leaving_list-safe_world w s safe h.0 h.1)
step-safe w s (TakeOff k) v safe h = subst SafeWorld (sym h.2) (taking_off-safe_world w s safe k h.0 h.1)
step-safe w s (Tell k) v safe h = subst SafeWorld (sym h.1) (telling-safe_world w s safe k h.0)
step-safe w s (LoadSleep n) v safe h = subst SafeWorld (sym h.1) (loading_sleep-safe_world w s safe n h.0)
step-safe w s (SetReleaseOk (Partition p) n) v safe h =
    subst SafeWorld (sym h.2) (flagging_partition-safe_world w s safe p _ (release_ok_word-holders (w.words.partition p)) (release_ok_word-list_locked (w.words.partition p)))
step-safe w s (SetReleaseOk (Fast o) n) v safe h =
    subst SafeWorld (sym h.2) (flagging_fast-safe_world w s safe o _ (release_ok_word-holders (w.words.fast o)) (release_ok_word-list_locked (w.words.fast o)))
step-safe w s (SetReleaseOk word n) v safe h = absurd h
step-safe w s (SetHasWaiters (Partition p) n) v safe h =
    subst SafeWorld (sym h.1) (flagging_partition-safe_world w s safe p _ (has_waiters_word-holders (w.words.partition p)) (has_waiters_word-list_locked (w.words.partition p)))
step-safe w s (SetHasWaiters (Fast o) n) v safe h =
    subst SafeWorld (sym h.1) (flagging_fast-safe_world w s safe o _ (has_waiters_word-holders (w.words.fast o)) (has_waiters_word-list_locked (w.words.fast o)))
step-safe w s (SetHasWaiters word n) v safe h = absurd h

-- Each event that is lawful leads from a safe World to a safe one.
pub event-safe : (w : World) (event : Event) (v : World) → SafeWorld w → Happens w event v → SafeWorld v
event-safe w event v safe h = step-safe w event.session event.step v safe h

pub Next-safe : (w : World) (event : Event) (v : World) → SafeWorld w → Next w event v → SafeWorld v
Next-safe w event v safe (inl h) = event-safe w event v safe h
Next-safe w event v safe (inr h) = subst SafeWorld (sym h.1) safe

-- Each World on the way of a run from a safe World is safe,
pub through-safe : (w : World) (events : List Event) (worlds : List World) → SafeWorld w → RunsThrough w events worlds
    → (place : ℕ) (u : World) → slice_get worlds place ≡ Some u → SafeWorld u
through-safe w [] [] safe run place u at = absurd (cc)
through-safe w [] (v ∷ worlds) safe run place u at = absurd run
through-safe w (event ∷ events) [] safe run place u at = absurd run
through-safe w (event ∷ events) (v ∷ worlds) safe run zero u at = subst SafeWorld (let same : v ≡ u = cc in same) (Next-safe w event v safe run.0)
through-safe w (event ∷ events) (v ∷ worlds) safe run (suc place) u at = through-safe v events worlds (Next-safe w event v safe run.0) run.1 place u at

-- and so is the one that it comes to, whatever the events.
last-safe : (w : World) (events : List Event) (worlds : List World) → SafeWorld w → RunsThrough w events worlds → SafeWorld (last_of w worlds)
last-safe w [] [] safe run = safe
last-safe w [] (v ∷ worlds) safe run = absurd run
last-safe w (event ∷ events) [] safe run = absurd run
last-safe w (event ∷ events) (v ∷ worlds) safe run = last-safe v events worlds (Next-safe w event v safe run.0) run.1

pub Runs-safe : (w : World) (events : List Event) (v : World) → SafeWorld w → Runs w events v → SafeWorld v
Runs-safe w events v safe run = subst SafeWorld (sym run.2) (last-safe w events run.0 safe run.1)

-- A run of no event stays where it is.
pub Runs-none : (w : World) → Runs w [] w
Runs-none w = ([], tt, refl)

-- A run goes on by one event.
through-push :
    (w : World) (events : List Event) (worlds : List World) (event : Event) (v : World) → RunsThrough w events worlds → Next (last_of w worlds) event v
    → RunsThrough w (events ++ event ∷ []) (worlds ++ v ∷ [])
through-push w [] [] event v run next = (next, tt)
through-push w [] (u ∷ worlds) event v run next = absurd run
through-push w (first ∷ events) [] event v run next = absurd run
through-push w (first ∷ events) (u ∷ worlds) event v run next = (run.0, through-push u events worlds event v run.1 next)

last-push : (w : World) (worlds : List World) (v : World) → v ≡ last_of w (worlds ++ v ∷ [])
last-push w [] v = refl
last-push w (u ∷ worlds) v = last-push u worlds v

pub Runs-push : (w : World) (events : List Event) (event : Event) (u v : World) → Runs w events u → Next u event v → Runs w (events ++ event ∷ []) v
Runs-push w events event u v run next =
    (run.0 ++ v ∷ [], through-push w events run.0 event v run.1 (subst (λ z. Next z event v) run.2 next), last-push w run.0 v)
