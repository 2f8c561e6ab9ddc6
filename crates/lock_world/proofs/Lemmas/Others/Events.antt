use Rattle.std.proofs.Common.{◌≢◌, ℕ, refl}
use Rattle.lock_world.specs.declared.events.Event.{Event}
use Rattle.lock_world.specs.declared.events.Step.{Step}
use Rattle.lock_world.specs.declared.events.Step.TheVariants.{TakeExclusive, PutExclusive, TakeShared, PutShared, SplitSeat, JoinSeat, AskCancel, LoadWait, SetWaiting, MarkGranted, ClearWait, PutPassing, LoadStrong, LoadWord, SetSlot, ClearSlot, StoreDatabase, Count, Uncount, TransferSlot, LockList, UnlockList, JoinList, LeaveList, TakeOff, Tell, LoadSleep, SetReleaseOk, SetHasWaiters}
use Rattle.lock_world.specs.World.{World}
use Rattle.lock_world.specs.Account.{IsLeftAlone}
use Rattle.lock_world.specs.Happens.{Happens, HappensStep}
use Rattle.lock_world.specs.SafeWorld.{SafeWorld}
use Rattle.lock_table.proofs.Lemmas.Put.{set_at-else}
use Rattle.lock_world.proofs.Lemmas.Others.Hands.{IsLeftAlone-same, IsLeftAlone-by}
use Rattle.lock_world.proofs.Lemmas.Others.Lists.{locking_partition_list-others, locking_fast_list-others, unlocking_partition_list-others, unlocking_fast_list-others, flagging_partition-others, flagging_fast-others, joining_list-others, leaving_list-others, taking_off-others, telling-others, loading_sleep-others}
use Rattle.lock_world.proofs.Lemmas.Others.Seats.{splitting-others, joining-others}
use Rattle.lock_world.specs.declared.events.Word.TheVariants.{Partition, Fast, Database, Slot}
use Rattle.lock_world.proofs.Lemmas.Others.Partitions.{taking_partition-others, putting_partition-others}
use Rattle.lock_world.proofs.Lemmas.Others.Sharing.{sharing_partition-others, unsharing_partition-others, sharing_fast-others, unsharing_fast-others}
use Rattle.lock_world.proofs.Lemmas.Others.Slots.{transferring-others, taking_fast-others, putting_fast-others, loading-others, reading_counter-others, setting_slot-others, clearing_slot-others, storing_database-others}
use Rattle.lock_world.proofs.Lemmas.Others.Counters.{counting-others, uncounting-others, passing-others}
use Rattle.lock_world.proofs.Lemmas.Others.Waits.{setting-others, marking-others, clearing-others}

step-others : (w : World) (s : ℕ) (step : Step) (v : World) (k : ℕ) → SafeWorld w → k ≢ s → HappensStep w s step v → IsLeftAlone w v k
step-others w s (TakeExclusive (Partition p)) v k safe other h = taking_partition-others w s p v k safe other h
step-others w s (TakeExclusive (Fast o)) v k safe other h = taking_fast-others w s o v k other h
step-others w s (TakeExclusive word) v k safe other h = absurd h
step-others w s (PutExclusive (Partition p) done) v k safe other h = putting_partition-others w s p done v k safe other h
step-others w s (PutExclusive (Fast o) done) v k safe other h = putting_fast-others w s o v k other h.1
step-others w s (PutExclusive word done) v k safe other h = absurd h
step-others w s (TakeShared (Partition p)) v k safe other h = sharing_partition-others w s p v k other h
step-others w s (TakeShared (Fast o)) v k safe other h = sharing_fast-others w s o v k other h
step-others w s (TakeShared word) v k safe other h = absurd h
step-others w s (PutShared (Partition p)) v k safe other h = unsharing_partition-others w s p v k other h
step-others w s (PutShared (Fast o)) v k safe other h = unsharing_fast-others w s o v k other h
step-others w s (PutShared word) v k safe other h = absurd h
step-others w s SplitSeat v k safe other h = splitting-others w s v k other h
step-others w s (JoinSeat joiner) v k safe other h = joining-others w s joiner v k other h
step-others w s (AskCancel o) v k safe other h =
    IsLeftAlone-same k w _ v h.1 (IsLeftAlone-by w _ k refl refl refl refl refl refl refl (set_at-else w.sessions.trace s _ k other) refl refl)
step-others w s (LoadWait n) v k safe other h =
    IsLeftAlone-same k w _ v h.1 (IsLeftAlone-by w _ k refl refl refl (set_at-else w.sessions.seen s _ k other) refl refl refl (set_at-else w.sessions.trace s _ k other) refl refl)
step-others w s (SetWaiting t m) v k safe other h = setting-others w s t m v k safe other h
step-others w s (MarkGranted marked done) v k safe other h = marking-others w s marked done v k safe other h
step-others w s (ClearWait leaving) v k safe other h = clearing-others w s leaving v k safe other h
step-others w s (PutPassing o t m) v k safe other h = IsLeftAlone-same k w _ v h.1 (passing-others w s o t m k other)
step-others w s (LoadStrong i n) v k safe other h = IsLeftAlone-same k w _ v h.1 (reading_counter-others w s i n k other)
step-others w s (LoadWord (Fast o) n) v k safe other h = IsLeftAlone-same k w _ v h.2 (loading-others w s (Fast o) n k other)
step-others w s (LoadWord (Database o) n) v k safe other h = IsLeftAlone-same k w _ v h.1 (loading-others w s (Database o) n k other)
step-others w s (LoadWord (Slot o i) n) v k safe other h = IsLeftAlone-same k w _ v h.1 (loading-others w s (Slot o i) n k other)
step-others w s (LoadWord word n) v k safe other h = absurd h
step-others w s (SetSlot i t m) v k safe other h = IsLeftAlone-same k w _ v h.1 (setting_slot-others w s i t m k safe other h.0)
step-others w s (ClearSlot i t m) v k safe other h = IsLeftAlone-same k w _ v h.1 (clearing_slot-others w s i t m k safe other h.0)
step-others w s (StoreDatabase d) v k safe other h = IsLeftAlone-same k w _ v h.1 (storing_database-others w s d k other h.0)
step-others w s (Count t m) v k safe other h = IsLeftAlone-same k w _ v h.1 (counting-others w s t m k other)
step-others w s (Uncount t m) v k safe other h = IsLeftAlone-same k w _ v h.1 (uncounting-others w s t m k other)
step-others w s (TransferSlot o i t m x) v k safe other h = IsLeftAlone-same k w _ v h.1 (transferring-others w s o i t m x k safe other h.0)
step-others w s (LockList (Partition p)) v k safe other h = IsLeftAlone-same k w _ v h.2 (locking_partition_list-others w s k safe other p)
step-others w s (LockList (Fast o)) v k safe other h = IsLeftAlone-same k w _ v h.2 (locking_fast_list-others w s k safe other o)
step-others w s (LockList word) v k safe other h = absurd h
step-others w s (UnlockList (Partition p) waiters release) v k safe other h = IsLeftAlone-same k w _ v h.1 (unlocking_partition_list-others w s k safe other p waiters release)
step-others w s (UnlockList (Fast o) waiters release) v k safe other h = IsLeftAlone-same k w _ v h.1 (unlocking_fast_list-others w s k safe other o waiters release)
step-others w s (UnlockList word waiters release) v k safe other h = absurd h
step-others w s (JoinList mode) v k safe other h = IsLeftAlone-same k w _ v h.2 (joining_list-others w s k safe other mode h.0 h.1)
step-others w s LeaveList v k safe other h = IsLeftAlone-same k w _ v h.2 (leaving_list-others w s k safe other h.0 h.1)
step-others w s (TakeOff o) v k safe other h = IsLeftAlone-same k w _ v h.2 (taking_off-others w s k safe other o h.0 h.1)
step-others w s (Tell o) v k safe other h = IsLeftAlone-same k w _ v h.1 (telling-others w s k safe other o)
step-others w s (LoadSleep n) v k safe other h = IsLeftAlone-same k w _ v h.1 (loading_sleep-others w s k safe other n)
step-others w s (SetReleaseOk (Partition p) n) v k safe other h = IsLeftAlone-same k w _ v h.2 (flagging_partition-others w k p _)
step-others w s (SetReleaseOk (Fast o) n) v k safe other h = IsLeftAlone-same k w _ v h.2 (flagging_fast-others w k o _)
step-others w s (SetReleaseOk word n) v k safe other h = absurd h
step-others w s (SetHasWaiters (Partition p) n) v k safe other h = IsLeftAlone-same k w _ v h.1 (flagging_partition-others w k p _)
step-others w s (SetHasWaiters (Fast o) n) v k safe other h = IsLeftAlone-same k w _ v h.1 (flagging_fast-others w k o _)
step-others w s (SetHasWaiters word n) v k safe other h = absurd h

-- An event leaves other sessions alone.
pub event-others : (w v : World) (event : Event) (other : ℕ) → SafeWorld w → Happens w event v → other ≢ event.session → IsLeftAlone w v other
event-others w v event other safe h apart = step-others w event.session event.step v other safe apart h
