use Rattle.std.proofs.Common.{◌≡◌, ℕ, ◌<◌, Bool, true, false, List, [], Some, None, refl, sym, ap, subst, inl, inr}
use Rattle.modes_core.specs.declared.modes.Mode.{Mode}
use Rattle.modes_core.specs.declared.tags.Tag.{Tag}
use Rattle.modes_core.specs.Tag.{partition_of}
use Rattle.lw_word.specs.declared.words.LwMode.{LwMode}
use Rattle.lw_word.specs.LightweightWord.{release_ok_word, has_waiters_word}
use Rattle.lock_table.specs.declared.moves.Move.{Move}
use Rattle.lock_table.specs.declared.moves.Move.TheVariants.{Keep, Join, Release, Leave}
use Rattle.lock_table.specs.Content.{Wait as WaitIn, Content}
use Rattle.lock_table.specs.OwnWait.{OwnWait}
use Rattle.lock_world.specs.declared.events.Step.{Step}
use Rattle.lock_world.specs.declared.events.Step.TheVariants.{TakeExclusive, PutExclusive, TakeShared, PutShared, SplitSeat, JoinSeat, AskCancel, LoadWait, SetWaiting, MarkGranted, ClearWait, PutPassing, LoadStrong, LoadWord, SetSlot, ClearSlot, StoreDatabase, Count, Uncount, TransferSlot, LockList, UnlockList, JoinList, LeaveList, TakeOff, Tell, LoadSleep, SetReleaseOk, SetHasWaiters}
use Rattle.lock_world.specs.declared.events.Word.{Word}
use Rattle.lock_world.specs.declared.events.Word.TheVariants.{Partition, Fast, Database, Slot, Strong}
use Rattle.lock_world.specs.World.{World, MakesSteps}
use Rattle.lock_world.specs.WaitLists.{partition_lock, fast_lock}
use Rattle.lock_world.specs.Happens.{HappensStep}
use Rattle.lock_world.specs.Happens.Seats.{MayBeIssued, after_issuing, MayGoOn, after_going_on, MayBeKeptApart, after_keeping_apart, MayClose, after_closing}
use Rattle.lock_world.specs.Happens.Partitions.{MayTakePartition, after_taking_partition, MayMove, MayPutPartition, after_putting_partition, MayPutRecorded, after_putting_recorded}
use Rattle.lock_world.specs.Happens.Waits.{after_asking, MayLoadWait, after_loading_wait, after_setting_waiting, MayMarkFirst, after_marking_first, MayMarkNext, after_marking_next, MayClearSeen, MayClearInHand, after_clearing, MayLeave, after_leaving}
use Rattle.lock_world.specs.Happens.Sharing.{MayShare, MayUnshare, after_sharing_partition, after_unsharing_partition, after_sharing_fast, after_unsharing_fast}
use Rattle.lock_world.specs.Happens.Slots.{MayTakeFast, after_taking_fast, MayPutFast, after_putting_fast, MayLoad, after_loading, after_reading_counter, MaySetSlot, after_setting_slot, MayClearSlot, after_clearing_slot, MayStoreDatabase, after_storing_database}
use Rattle.lock_world.specs.Happens.Counters.{MayCount, after_counting, MayUncount, after_uncounting, MayPass, after_passing}
use Rattle.lock_world.specs.Happens.Transfers.{MayTransfer, after_transferring}
use Rattle.lock_world.specs.Happens.Lists.{MayLockList, after_locking_partition_list, after_locking_fast_list, HasList, after_unlocking_partition_list, after_unlocking_fast_list, MayJoinList, after_joining_list, MayLeaveList, after_leaving_the_list, MayTakeOff, after_taking_off_the_list, MayTell, after_telling_one, MayLoadSleep, after_loading_sleep, MaySetReleaseOk, MaySetHasWaiters, after_flagging_partition, after_flagging_fast}

-- The lawful steps of a session, one case for each way to make one. A lemma on what a step leads to names the
-- cases that matter to it, and has all others in one row.

-- A step that the session may make in the World w, with why it may.
pub data LawfulStep (w : World) (s : ℕ) : Type 0 where
  taking_partition : (p : ℕ) → MayTakePartition w s p → LawfulStep w s
  taking_fast : (o : ℕ) → MayTakeFast w s o → LawfulStep w s
  putting_partition : (p : ℕ) (done : Move) (content : Content) → MayPutPartition w s p done content → LawfulStep w s
  putting_recorded : (p : ℕ) (done : Move) → MayPutRecorded w s p done → LawfulStep w s
  putting_fast : (o : ℕ) → MayPutFast w s o → LawfulStep w s
  sharing_partition : (p : ℕ) → p < 16 → MayShare w.numbers (w.words.partition p) w.sessions.shares_partition s p → LawfulStep w s
  sharing_fast : (o : ℕ) → o < w.numbers.limit → MayShare w.numbers (w.words.fast o) w.sessions.shares_fast s o → LawfulStep w s
  unsharing_partition : (p : ℕ) → MayUnshare w.numbers w.sessions.shares_partition s p → LawfulStep w s
  unsharing_fast : (o : ℕ) → MayUnshare w.numbers w.sessions.shares_fast s o → LawfulStep w s
  being_issued : MayBeIssued w s → LawfulStep w s
  going_on : MayGoOn w s → LawfulStep w s
  being_kept_apart : (joiner : ℕ) → MayBeKeptApart w s joiner → LawfulStep w s
  closing : MayClose w s → LawfulStep w s
  asking_to_cancel : (o : ℕ) → MakesSteps w.numbers s → LawfulStep w s
  loading_wait : (n : ℕ) → MayLoadWait w s n → LawfulStep w s
  setting_waiting : (t : Tag) (m : Mode) (content : Content) → MayMove w s (partition_of t) (Join t m) [] content → LawfulStep w s
  marking_first : (o p : ℕ) (done : Move) (granted : List WaitIn) (content : Content) → MayMarkFirst w s o p done granted content → LawfulStep w s
  marking_next : (o p : ℕ) (done : Move) → MayMarkNext w s o p done → LawfulStep w s
  clearing_seen : (wait : OwnWait) → MayClearSeen w s wait → LawfulStep w s
  clearing_in_hand : (wait : OwnWait) (leaving : Bool) → MayClearInHand w s wait → LawfulStep w s
  leaving_queue : (wait : OwnWait) (granted : List WaitIn) (content : Content) → MayLeave w s wait granted content → LawfulStep w s
  passing : (o : ℕ) (t : Tag) (m : Mode) → MayPass w s o t m → LawfulStep w s
  reading_counter : (i n : ℕ) → MayLoad w s (Strong i) n → LawfulStep w s
  loading : (word : Word) (n : ℕ) → MayLoad w s word n → LawfulStep w s
  setting_slot : (i : ℕ) (t : Tag) (m : Mode) → MaySetSlot w s i t m → LawfulStep w s
  clearing_slot : (i : ℕ) (t : Tag) (m : Mode) → MayClearSlot w s i t m → LawfulStep w s
  storing_database : (d : ℕ) → MayStoreDatabase w s → LawfulStep w s
  counting : (t : Tag) (m : Mode) → MayCount w s t m → LawfulStep w s
  uncounting : (t : Tag) (m : Mode) → MayUncount w s t m → LawfulStep w s
  transferring : (o i : ℕ) (t : Tag) (m strong : Mode) → MayTransfer w s o i t m strong → LawfulStep w s
  locking_partition_list : (p : ℕ) → p < 16 → MayLockList w.numbers (w.words.partition p) w.sessions.has_list s → LawfulStep w s
  locking_fast_list : (o : ℕ) → o < w.numbers.limit → MayLockList w.numbers (w.words.fast o) w.sessions.has_list s → LawfulStep w s
  unlocking_partition_list : (p : ℕ) (waiters release : Bool) → HasList w s (partition_lock p) → LawfulStep w s
  unlocking_fast_list : (o : ℕ) (waiters release : Bool) → HasList w s (fast_lock o) → LawfulStep w s
  joining_list : (mode : LwMode) (lock : ℕ) → MayJoinList w s lock → LawfulStep w s
  leaving_list : (lock : ℕ) → MayLeaveList w s lock → LawfulStep w s
  taking_off : (o lock : ℕ) → MayTakeOff w s o lock → LawfulStep w s
  telling : (o : ℕ) → MayTell w s o → LawfulStep w s
  loading_sleep : (n : ℕ) → MayLoadSleep w s n → LawfulStep w s
  setting_partition_release_ok : (p n : ℕ) → p < 16 → MaySetReleaseOk w.numbers (w.words.partition p) s n → LawfulStep w s
  setting_fast_release_ok : (o n : ℕ) → o < w.numbers.limit → MaySetReleaseOk w.numbers (w.words.fast o) s n → LawfulStep w s
  setting_partition_has_waiters : (p n : ℕ) → MaySetHasWaiters w (w.words.partition p) s (partition_lock p) n → LawfulStep w s
  setting_fast_has_waiters : (o n : ℕ) → MaySetHasWaiters w (w.words.fast o) s (fast_lock o) n → LawfulStep w s

module _ {w : World} {s : ℕ} where
  -- the step
  abbrev pub step_of : LawfulStep w s → Step
  step_of (taking_partition p may) = TakeExclusive (Partition p)
  step_of (taking_fast o may) = TakeExclusive (Fast o)
  step_of (putting_partition p done content may) = PutExclusive (Partition p) done
  step_of (putting_recorded p done may) = PutExclusive (Partition p) done
  step_of (putting_fast o may) = PutExclusive (Fast o) Keep
  step_of (sharing_partition p exists may) = TakeShared (Partition p)
  step_of (sharing_fast o exists may) = TakeShared (Fast o)
  step_of (unsharing_partition p may) = PutShared (Partition p)
  step_of (unsharing_fast o may) = PutShared (Fast o)
  step_of (being_issued may) = SplitSeat
  step_of (going_on may) = SplitSeat
  step_of (being_kept_apart joiner may) = JoinSeat (Some joiner)
  step_of (closing may) = JoinSeat None
  step_of (asking_to_cancel o steps) = AskCancel o
  step_of (loading_wait n may) = LoadWait n
  step_of (setting_waiting t m content may) = SetWaiting t m
  step_of (marking_first o p done granted content may) = MarkGranted o done
  step_of (marking_next o p done may) = MarkGranted o done
  step_of (clearing_seen wait may) = ClearWait false
  step_of (clearing_in_hand wait leaving may) = ClearWait leaving
  step_of (leaving_queue wait granted content may) = ClearWait true
  step_of (passing o t m may) = PutPassing o t m
  step_of (reading_counter i n may) = LoadStrong i n
  step_of (loading word n may) = LoadWord word n
  step_of (setting_slot i t m may) = SetSlot i t m
  step_of (clearing_slot i t m may) = ClearSlot i t m
  step_of (storing_database d may) = StoreDatabase d
  step_of (counting t m may) = Count t m
  step_of (uncounting t m may) = Uncount t m
  step_of (transferring o i t m strong may) = TransferSlot o i t m strong
  step_of (locking_partition_list p exists may) = LockList (Partition p)
  step_of (locking_fast_list o exists may) = LockList (Fast o)
  step_of (unlocking_partition_list p waiters release has) = UnlockList (Partition p) waiters release
  step_of (unlocking_fast_list o waiters release has) = UnlockList (Fast o) waiters release
  step_of (joining_list mode lock may) = JoinList mode
  step_of (leaving_list lock may) = LeaveList
  step_of (taking_off o lock may) = TakeOff o
  step_of (telling o may) = Tell o
  step_of (loading_sleep n may) = LoadSleep n
  step_of (setting_partition_release_ok p n exists may) = SetReleaseOk (Partition p) n
  step_of (setting_fast_release_ok o n exists may) = SetReleaseOk (Fast o) n
  step_of (setting_partition_has_waiters p n may) = SetHasWaiters (Partition p) n
  step_of (setting_fast_has_waiters o n may) = SetHasWaiters (Fast o) n

  -- the World after it
  abbrev pub world_after : LawfulStep w s → World
  world_after (taking_partition p may) = after_taking_partition w s p
  world_after (taking_fast o may) = after_taking_fast w s o
  world_after (putting_partition p done content may) = after_putting_partition w s p done content
  world_after (putting_recorded p done may) = after_putting_recorded w s p
  world_after (putting_fast o may) = after_putting_fast w s o
  world_after (sharing_partition p exists may) = after_sharing_partition w s p
  world_after (sharing_fast o exists may) = after_sharing_fast w s o
  world_after (unsharing_partition p may) = after_unsharing_partition w s p
  world_after (unsharing_fast o may) = after_unsharing_fast w s o
  world_after (being_issued may) = after_issuing w s
  world_after (going_on may) = after_going_on w s
  world_after (being_kept_apart joiner may) = after_keeping_apart w s joiner
  world_after (closing may) = after_closing w s
  world_after (asking_to_cancel o steps) = after_asking w s o
  world_after (loading_wait n may) = after_loading_wait w s n
  world_after (setting_waiting t m content may) = after_setting_waiting w s t m content
  world_after (marking_first o p done granted content may) = after_marking_first w s o p done granted content
  world_after (marking_next o p done may) = after_marking_next w o p done
  world_after (clearing_seen wait may) = after_clearing w s wait
  world_after (clearing_in_hand wait leaving may) = after_clearing w s wait
  world_after (leaving_queue wait granted content may) = after_leaving w s wait granted content
  world_after (passing o t m may) = after_passing w s o t m
  world_after (reading_counter i n may) = after_reading_counter w s i n
  world_after (loading word n may) = after_loading w s word n
  world_after (setting_slot i t m may) = after_setting_slot w s i t m
  world_after (clearing_slot i t m may) = after_clearing_slot w s i t m
  world_after (storing_database d may) = after_storing_database w s d
  world_after (counting t m may) = after_counting w s t m
  world_after (uncounting t m may) = after_uncounting w s t m
  world_after (transferring o i t m strong may) = after_transferring w o i t m
  world_after (locking_partition_list p exists may) = after_locking_partition_list w s p
  world_after (locking_fast_list o exists may) = after_locking_fast_list w s o
  world_after (unlocking_partition_list p waiters release has) = after_unlocking_partition_list w s p waiters release
  world_after (unlocking_fast_list o waiters release has) = after_unlocking_fast_list w s o waiters release
  world_after (joining_list mode lock may) = after_joining_list w s lock mode
  world_after (leaving_list lock may) = after_leaving_the_list w s lock
  world_after (taking_off o lock may) = after_taking_off_the_list w s o lock
  world_after (telling o may) = after_telling_one w s o
  world_after (loading_sleep n may) = after_loading_sleep w s n
  world_after (setting_partition_release_ok p n exists may) = after_flagging_partition w p (release_ok_word (w.words.partition p))
  world_after (setting_fast_release_ok o n exists may) = after_flagging_fast w o (release_ok_word (w.words.fast o))
  world_after (setting_partition_has_waiters p n may) = after_flagging_partition w p (has_waiters_word (w.words.partition p))
  world_after (setting_fast_has_waiters o n may) = after_flagging_fast w o (has_waiters_word (w.words.fast o))

-- Each lawful step is one of these.
abbrev IsOneOf : (w : World) → ℕ → Step → World → Type 0
IsOneOf w s step v = (it : LawfulStep w s) × (step_of it ≡ step) × (v ≡ world_after it)

lawful-step : (w : World) (s : ℕ) (step : Step) (v : World) → HappensStep w s step v → IsOneOf w s step v
lawful-step w s (TakeExclusive (Partition p)) v h = (taking_partition p h.0, refl, h.1)
lawful-step w s (TakeExclusive (Fast o)) v h = (taking_fast o h.0, refl, h.1)
lawful-step w s (TakeExclusive word) v h = absurd h
lawful-step w s (PutExclusive (Partition p) done) v (inl h) = (putting_partition p done h.0 h.1, refl, h.2)
lawful-step w s (PutExclusive (Partition p) done) v (inr h) = (putting_recorded p done h.0, refl, h.1)
lawful-step w s (PutExclusive (Fast o) done) v h = (putting_fast o h.1.0, ap (PutExclusive (Fast o)) (sym h.0), h.1.1)
lawful-step w s (PutExclusive word done) v h = absurd h
lawful-step w s (TakeShared (Partition p)) v h = (sharing_partition p h.0 h.1, refl, h.2)
lawful-step w s (TakeShared (Fast o)) v h = (sharing_fast o h.0 h.1, refl, h.2)
lawful-step w s (TakeShared word) v h = absurd h
lawful-step w s (PutShared (Partition p)) v h = (unsharing_partition p h.0, refl, h.1)
lawful-step w s (PutShared (Fast o)) v h = (unsharing_fast o h.0, refl, h.1)
lawful-step w s (PutShared word) v h = absurd h
lawful-step w s SplitSeat v (inl h) = (being_issued h.0, refl, h.1)
lawful-step w s SplitSeat v (inr h) = (going_on h.0, refl, h.1)
lawful-step w s (JoinSeat (Some joiner)) v h = (being_kept_apart joiner h.0, refl, h.1)
lawful-step w s (JoinSeat None) v h = (closing h.0, refl, h.1)
lawful-step w s (AskCancel o) v h = (asking_to_cancel o h.0, refl, h.1)
lawful-step w s (LoadWait n) v h = (loading_wait n h.0, refl, h.1)
lawful-step w s (SetWaiting t m) v h = (setting_waiting t m h.0 h.1, refl, h.2)
lawful-step w s (MarkGranted o (Release t m)) v (inl h) = (marking_first o (partition_of t) (Release t m) h.0 h.1 h.2, refl, h.3)
lawful-step w s (MarkGranted o (Release t m)) v (inr h) = (marking_next o (partition_of t) (Release t m) h.0, refl, h.1)
lawful-step w s (MarkGranted o (Leave t)) v (inl h) = (marking_first o (partition_of t) (Leave t) h.0 h.1 h.2, refl, h.3)
lawful-step w s (MarkGranted o (Leave t)) v (inr h) = (marking_next o (partition_of t) (Leave t) h.0, refl, h.1)
lawful-step w s (MarkGranted o done) v h = absurd h
lawful-step w s (ClearWait false) v h = elim h.1 [
  | inl seen ↦ (clearing_seen h.0 seen, refl, h.2)
  | inr in_hand ↦ (clearing_in_hand h.0 false in_hand, refl, h.2)
]
lawful-step w s (ClearWait true) v (inl h) = (leaving_queue h.0 h.1 h.2 h.3, refl, h.4)
lawful-step w s (ClearWait true) v (inr h) = (clearing_in_hand h.0 true h.1, refl, h.3)
lawful-step w s (PutPassing o t m) v h = (passing o t m h.0, refl, h.1)
lawful-step w s (LoadStrong i n) v h = (reading_counter i n h.0, refl, h.1)
lawful-step w s (LoadWord (Fast o) n) v h = (loading (Fast o) n h.1, refl, h.2)
lawful-step w s (LoadWord (Database o) n) v h = (loading (Database o) n h.0, refl, h.1)
lawful-step w s (LoadWord (Slot o i) n) v h = (loading (Slot o i) n h.0, refl, h.1)
lawful-step w s (LoadWord word n) v h = absurd h
lawful-step w s (SetSlot i t m) v h = (setting_slot i t m h.0, refl, h.1)
lawful-step w s (ClearSlot i t m) v h = (clearing_slot i t m h.0, refl, h.1)
lawful-step w s (StoreDatabase d) v h = (storing_database d h.0, refl, h.1)
lawful-step w s (Count t m) v h = (counting t m h.0, refl, h.1)
lawful-step w s (Uncount t m) v h = (uncounting t m h.0, refl, h.1)
lawful-step w s (TransferSlot o i t m strong) v h = (transferring o i t m strong h.0, refl, h.1)
lawful-step w s (LockList (Partition p)) v h = (locking_partition_list p h.0 h.1, refl, h.2)
lawful-step w s (LockList (Fast o)) v h = (locking_fast_list o h.0 h.1, refl, h.2)
lawful-step w s (LockList word) v h = absurd h
lawful-step w s (UnlockList (Partition p) waiters release) v h = (unlocking_partition_list p waiters release h.0, refl, h.1)
lawful-step w s (UnlockList (Fast o) waiters release) v h = (unlocking_fast_list o waiters release h.0, refl, h.1)
lawful-step w s (UnlockList word waiters release) v h = absurd h
lawful-step w s (JoinList mode) v h = (joining_list mode h.0 h.1, refl, h.2)
lawful-step w s LeaveList v h = (leaving_list h.0 h.1, refl, h.2)
lawful-step w s (TakeOff o) v h = (taking_off o h.0 h.1, refl, h.2)
lawful-step w s (Tell o) v h = (telling o h.0, refl, h.1)
lawful-step w s (LoadSleep n) v h = (loading_sleep n h.0, refl, h.1)
lawful-step w s (SetReleaseOk (Partition p) n) v h = (setting_partition_release_ok p n h.0 h.1, refl, h.2)
lawful-step w s (SetReleaseOk (Fast o) n) v h = (setting_fast_release_ok o n h.0 h.1, refl, h.2)
lawful-step w s (SetReleaseOk word n) v h = absurd h
lawful-step w s (SetHasWaiters (Partition p) n) v h = (setting_partition_has_waiters p n h.0, refl, h.1)
lawful-step w s (SetHasWaiters (Fast o) n) v h = (setting_fast_has_waiters o n h.0, refl, h.1)
lawful-step w s (SetHasWaiters word n) v h = absurd h

-- What holds after each of them holds after any lawful step.
pub after_each :
    (w : World) (s : ℕ) (P : Step → World → Type 0) → ((it : LawfulStep w s) → P (step_of it) (world_after it))
    → (step : Step) (v : World) → HappensStep w s step v → P step v
after_each w s P each step v h =
    let lawful = lawful-step w s step v h in
    subst (P step) (sym lawful.2) (subst (λ z. P z (world_after (lawful.0))) lawful.1 (each (lawful.0)))
