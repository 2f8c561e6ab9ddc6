use Rattle.std.proofs.Common.{◌≡◌, ℕ, List, [], ◌∷◌, Some, sym, ap, ◌∙◌, subst, inl, inr, refl}
use Rattle.lock_world.specs.declared.events.Event.{Event}
use Rattle.lock_world.specs.declared.events.Step.{Step}
use Rattle.lock_world.specs.declared.events.Step.TheVariants.{TakeExclusive, PutExclusive, TakeShared, PutShared, SplitSeat, JoinSeat, AskCancel, LoadWait, SetWaiting, MarkGranted, ClearWait, PutPassing, LoadStrong, LoadWord, SetSlot, ClearSlot, StoreDatabase, Count, Uncount, TransferSlot, LockList, UnlockList, JoinList, LeaveList, TakeOff, Tell, LoadSleep, SetReleaseOk, SetHasWaiters}
use Rattle.lock_world.specs.World.{World}
use Rattle.lock_world.specs.declared.events.Word.TheVariants.{Partition, Fast, Database, Slot}
use Rattle.lock_world.specs.Happens.{HappensStep, Next, RunsThrough, last_of, Runs}
use Rattle.lock_world.specs.Happens.Lists.{HasList, after_joining_list, after_leaving_the_list, after_taking_off_the_list}
use Rattle.lock_world.specs.SafeWorld.{SafeWorld}
use Rattle.lock_world.proofs.Lemmas.SafeWorld.Runs.{Next-safe}
use Rattle.lock_world.proofs.Lemmas.Unique.Seats.{one_splitting, one_joining}
use Rattle.lock_world.proofs.Lemmas.Unique.Partitions.{one_putting_partition}
use Rattle.lock_world.proofs.Lemmas.Unique.Waits.{one_marking, one_clearing, one_setting}

-- A session has one list in hand at most.
one_list : (w : World) (s lock other : ℕ) → HasList w s lock → HasList w s other → lock ≡ other
one_list w s lock other one two = let same : Some lock ≡ Some other = sym one.in_hand ∙ two.in_hand in cc

one_step : (w : World) (s : ℕ) (step : Step) (u v : World) → SafeWorld w → HappensStep w s step u → HappensStep w s step v → u ≡ v
one_step w s (TakeExclusive (Partition p)) u v safe one two = one.1 ∙ sym two.1
one_step w s (TakeExclusive (Fast o)) u v safe one two = one.1 ∙ sym two.1
one_step w s (TakeExclusive word) u v safe one two = absurd one
one_step w s (PutExclusive (Partition p) done) u v safe one two = one_putting_partition w s p done u v one two
one_step w s (PutExclusive (Fast o) done) u v safe one two = one.1.1 ∙ sym two.1.1
one_step w s (PutExclusive word done) u v safe one two = absurd one
one_step w s (TakeShared (Partition p)) u v safe one two = one.2 ∙ sym two.2
one_step w s (TakeShared (Fast o)) u v safe one two = one.2 ∙ sym two.2
one_step w s (TakeShared word) u v safe one two = absurd one
one_step w s (PutShared (Partition p)) u v safe one two = one.1 ∙ sym two.1
one_step w s (PutShared (Fast o)) u v safe one two = one.1 ∙ sym two.1
one_step w s (PutShared word) u v safe one two = absurd one
one_step w s SplitSeat u v safe one two = one_splitting w s u v safe.but_slots.table.carriers.numbers one two
one_step w s (JoinSeat joiner) u v safe one two = one_joining w s joiner u v one two
one_step w s (AskCancel k) u v safe one two = one.1 ∙ sym two.1
one_step w s (LoadWait n) u v safe one two = one.1 ∙ sym two.1
one_step w s (SetWaiting t m) u v safe one two = one_setting w s t m u v one two
one_step w s (MarkGranted k done) u v safe one two = one_marking w s k done u v one two
one_step w s (ClearWait leaving) u v safe one two = one_clearing w s leaving u v one two
one_step w s (PutPassing o t m) u v safe one two = one.1 ∙ sym two.1
one_step w s (LoadStrong i n) u v safe one two = one.1 ∙ sym two.1
one_step w s (LoadWord (Fast o) n) u v safe one two = one.2 ∙ sym two.2
one_step w s (LoadWord (Database k) n) u v safe one two = one.1 ∙ sym two.1
one_step w s (LoadWord (Slot k i) n) u v safe one two = one.1 ∙ sym two.1
one_step w s (LoadWord word n) u v safe one two = absurd one
one_step w s (SetSlot i t m) u v safe one two = one.1 ∙ sym two.1
one_step w s (ClearSlot i t m) u v safe one two = one.1 ∙ sym two.1
one_step w s (StoreDatabase d) u v safe one two = one.1 ∙ sym two.1
one_step w s (Count t m) u v safe one two = one.1 ∙ sym two.1
one_step w s (Uncount t m) u v safe one two = one.1 ∙ sym two.1
one_step w s (TransferSlot k i t m x) u v safe one two = one.1 ∙ sym two.1
one_step w s (LockList (Partition p)) u v safe one two = one.2 ∙ sym two.2
one_step w s (LockList (Fast q)) u v safe one two = one.2 ∙ sym two.2
one_step w s (LockList word) u v safe one two = absurd one
one_step w s (UnlockList (Partition p) waiters release) u v safe one two = one.1 ∙ sym two.1
one_step w s (UnlockList (Fast q) waiters release) u v safe one two = one.1 ∙ sym two.1
one_step w s (UnlockList word waiters release) u v safe one two = absurd one
one_step w s (JoinList mode) u v safe one two = one.2 ∙ ap (λ lock. after_joining_list w s lock mode) (one_list w s one.0 two.0 one.1.has two.1.has) ∙ sym two.2
one_step w s LeaveList u v safe one two = one.2 ∙ ap (after_leaving_the_list w s) (one_list w s one.0 two.0 one.1.has two.1.has) ∙ sym two.2
one_step w s (TakeOff k) u v safe one two = one.2 ∙ ap (after_taking_off_the_list w s k) (one_list w s one.0 two.0 one.1.has two.1.has) ∙ sym two.2
one_step w s (Tell k) u v safe one two = one.1 ∙ sym two.1
one_step w s (LoadSleep n) u v safe one two = one.1 ∙ sym two.1
one_step w s (SetReleaseOk (Partition p) n) u v safe one two = one.2 ∙ sym two.2
one_step w s (SetReleaseOk (Fast q) n) u v safe one two = one.2 ∙ sym two.2
one_step w s (SetReleaseOk word n) u v safe one two = absurd one
one_step w s (SetHasWaiters (Partition p) n) u v safe one two = one.1 ∙ sym two.1
one_step w s (SetHasWaiters (Fast q) n) u v safe one two = one.1 ∙ sym two.1
one_step w s (SetHasWaiters word n) u v safe one two = absurd one

one_next : (w : World) (event : Event) (u v : World) → SafeWorld w → Next w event u → Next w event v → u ≡ v
one_next w event u v safe (inl one) (inl two) = one_step w event.session event.step u v safe one two
one_next w event u v safe (inr one) (inr two) = one.1 ∙ sym two.1
one_next w event u v safe (inl one) (inr two) = absurd (two.0 (u, one))
one_next w event u v safe (inr one) (inl two) = absurd (one.0 (v, two))

-- A list of events leads from a safe World through one list of Worlds, and so to one World.
one_way : (w w' : World) (events : List Event) (us vs : List World) → SafeWorld w → w ≡ w' → RunsThrough w events us → RunsThrough w' events vs → last_of w us ≡ last_of w' vs
one_way w w' [] [] [] safe same one two = same
one_way w w' [] [] (v ∷ vs) safe same one two = absurd two
one_way w w' [] (u ∷ us) vs safe same one two = absurd one
one_way w w' (event ∷ events) [] vs safe same one two = absurd one
one_way w w' (event ∷ events) (u ∷ us) [] safe same one two = absurd two
one_way w w' (event ∷ events) (u ∷ us) (v ∷ vs) safe same one two =
    one_way u v events us vs (Next-safe w event u safe one.0) (one_next w event u v safe one.0 (subst (λ z. Next z event v) (sym same) two.0)) one.1 two.1

pub one_run : (w : World) (events : List Event) (u v : World) → SafeWorld w → Runs w events u → Runs w events v → u ≡ v
one_run w events u v safe one two = one.2 ∙ one_way w w events one.0 two.0 safe refl one.1 two.1 ∙ sym two.2
