pub mod Seats
pub mod Partitions
pub mod Waits
pub mod Sharing
pub mod Slots
pub mod Counters
pub mod Transfers
pub mod Lists
use Rattle.std.specs.Prelude.{◌≡◌, ℕ, ◌<◌, Bool, List, ◌⊎◌, [], ◌∷◌}
use Rattle.lock_world.specs.World.{World, MakesSteps}
use Rattle.lock_world.specs.declared.events.Event.{Event}
use Rattle.lock_world.specs.declared.events.Step.{Step}
use Rattle.lock_world.specs.declared.events.Step.TheVariants.{TakeExclusive, PutExclusive, TakeShared, PutShared, SplitSeat, JoinSeat, AskCancel, LoadWait, SetWaiting, MarkGranted, ClearWait, PutPassing, LoadStrong, LoadWord, SetSlot, ClearSlot, StoreDatabase, Count, Uncount, TransferSlot, LockList, UnlockList, JoinList, LeaveList, TakeOff, Tell, LoadSleep, SetReleaseOk, SetHasWaiters}
use Rattle.lock_world.specs.Happens.Seats.{HappensSplitting, HappensJoining}
use Rattle.lock_table.specs.declared.moves.Move.{Move}
use Rattle.lock_table.specs.declared.moves.Move.TheVariants.{Keep}
use Rattle.lock_world.specs.declared.events.Word.{Word}
use Rattle.lock_world.specs.declared.events.Word.TheVariants.{Partition, Fast, Database, Slot, Wait, Strong}
use Rattle.lock_world.specs.Happens.Partitions.{HappensTakingPartition, HappensPuttingPartition}
use Rattle.lock_world.specs.Happens.Sharing.{HappensSharingPartition, HappensUnsharingPartition, HappensSharingFast, HappensUnsharingFast}
use Rattle.lock_world.specs.Happens.Slots.{HappensTakingFast, HappensPuttingFast, MayLoad, after_loading, after_reading_counter, MaySetSlot, after_setting_slot, MayClearSlot, after_clearing_slot, MayStoreDatabase, after_storing_database}
use Rattle.lock_world.specs.Happens.Counters.{MayCount, after_counting, MayUncount, after_uncounting, MayPass, after_passing}
use Rattle.lock_world.specs.Happens.Transfers.{MayTransfer, after_transferring}
use Rattle.lw_word.specs.LightweightWord.{release_ok_word, has_waiters_word}
use Rattle.lock_world.specs.WaitLists.{partition_lock, fast_lock}
use Rattle.lock_world.specs.Happens.Lists.{MayLockList, after_locking_partition_list, after_locking_fast_list, HasList, after_unlocking_partition_list, after_unlocking_fast_list, MayJoinList, after_joining_list, MayLeaveList, after_leaving_the_list, MayTakeOff, after_taking_off_the_list, MayTell, after_telling_one, MayLoadSleep, after_loading_sleep, MaySetReleaseOk, MaySetHasWaiters, after_flagging_partition, after_flagging_fast}
use Rattle.lock_world.specs.Happens.Waits.{after_asking, MayLoadWait, after_loading_wait, HappensSetting, HappensMarking, HappensClearing}

-- Lightweight locks: the words of partitions and of sessions' fast-path slots. With the latter no move is
-- made.

-- A word is taken exclusively, where that is lawful.
abbrev pub HappensTaking : World → ℕ → Word → World → Type 0
HappensTaking w session (Partition partition) v = HappensTakingPartition w session partition v
HappensTaking w session (Fast owner) v = HappensTakingFast w session owner v
HappensTaking w session word v = ⊥

-- A word is put, where that is lawful.
abbrev pub HappensPutting : World → ℕ → Word → Move → World → Type 0
HappensPutting w session (Partition partition) done v = HappensPuttingPartition w session partition done v
HappensPutting w session (Fast owner) done v = (done ≡ Keep) × HappensPuttingFast w session owner v
HappensPutting w session word done v = ⊥

-- A word is shared, where that is lawful.
abbrev pub HappensSharing : World → ℕ → Word → World → Type 0
HappensSharing w session (Partition partition) v = HappensSharingPartition w session partition v
HappensSharing w session (Fast owner) v = HappensSharingFast w session owner v
HappensSharing w session word v = ⊥

-- A shared word is given back, where that is lawful.
abbrev pub HappensUnsharing : World → ℕ → Word → World → Type 0
HappensUnsharing w session (Partition partition) v = HappensUnsharingPartition w session partition v
HappensUnsharing w session (Fast owner) v = HappensUnsharingFast w session owner v
HappensUnsharing w session word v = ⊥

-- Loads that only join the trace: of a session's slots and database, and of the lock of its own slots.
abbrev pub HappensLoading : World → ℕ → Word → ℕ → World → Type 0
HappensLoading w session (Fast owner) shown v =
    (owner ≡ session) × MayLoad w session (Fast owner) shown × (v ≡ after_loading w session (Fast owner) shown)
HappensLoading w session (Database owner) shown v =
    MayLoad w session (Database owner) shown × (v ≡ after_loading w session (Database owner) shown)
HappensLoading w session (Slot owner place) shown v =
    MayLoad w session (Slot owner place) shown × (v ≡ after_loading w session (Slot owner place) shown)
HappensLoading w session word shown v = ⊥

-- Wait lists of lightweight locks: locking one, unlocking it, and setting the flags of its word.

-- The wait list of a lightweight lock is locked, where that is lawful.
abbrev pub HappensLockingList : World → ℕ → Word → World → Type 0
HappensLockingList w session (Partition partition) v =
    (partition < 16) × MayLockList w.numbers (w.words.partition partition) w.sessions.has_list session
    × (v ≡ after_locking_partition_list w session partition)
HappensLockingList w session (Fast owner) v =
    (owner < w.numbers.limit) × MayLockList w.numbers (w.words.fast owner) w.sessions.has_list session
    × (v ≡ after_locking_fast_list w session owner)
HappensLockingList w session word v = ⊥

-- The wait list of a lightweight lock is unlocked, where that is lawful.
abbrev pub HappensUnlockingList : World → ℕ → Word → Bool → Bool → World → Type 0
HappensUnlockingList w session (Partition partition) has_waiters release_ok v =
    HasList w session (partition_lock partition)
    × (v ≡ after_unlocking_partition_list w session partition has_waiters release_ok)
HappensUnlockingList w session (Fast owner) has_waiters release_ok v =
    HasList w session (fast_lock owner) × (v ≡ after_unlocking_fast_list w session owner has_waiters release_ok)
HappensUnlockingList w session word has_waiters release_ok v = ⊥

-- Release-ok is set, where that is lawful.
abbrev pub HappensSettingReleaseOk : World → ℕ → Word → ℕ → World → Type 0
HappensSettingReleaseOk w session (Partition partition) shown v =
    (partition < 16) × MaySetReleaseOk w.numbers (w.words.partition partition) session shown
    × (v ≡ after_flagging_partition w partition (release_ok_word (w.words.partition partition)))
HappensSettingReleaseOk w session (Fast owner) shown v =
    (owner < w.numbers.limit) × MaySetReleaseOk w.numbers (w.words.fast owner) session shown
    × (v ≡ after_flagging_fast w owner (release_ok_word (w.words.fast owner)))
HappensSettingReleaseOk w session word shown v = ⊥

-- Has-waiters is set, where that is lawful.
abbrev pub HappensSettingHasWaiters : World → ℕ → Word → ℕ → World → Type 0
HappensSettingHasWaiters w session (Partition partition) shown v =
    MaySetHasWaiters w (w.words.partition partition) session (partition_lock partition) shown
    × (v ≡ after_flagging_partition w partition (has_waiters_word (w.words.partition partition)))
HappensSettingHasWaiters w session (Fast owner) shown v =
    MaySetHasWaiters w (w.words.fast owner) session (fast_lock owner) shown
    × (v ≡ after_flagging_fast w owner (has_waiters_word (w.words.fast owner)))
HappensSettingHasWaiters w session word shown v = ⊥

-- The step by the session is lawful in the World w, and v is the World after it.
abbrev pub HappensStep : World → ℕ → Step → World → Type 0
HappensStep w session (TakeExclusive word) v = HappensTaking w session word v
HappensStep w session (PutExclusive word done) v = HappensPutting w session word done v
HappensStep w session (TakeShared word) v = HappensSharing w session word v
HappensStep w session (PutShared word) v = HappensUnsharing w session word v
HappensStep w session SplitSeat v = HappensSplitting w session v
HappensStep w session (JoinSeat joiner) v = HappensJoining w session joiner v
HappensStep w session (AskCancel other) v = MakesSteps w.numbers session × (v ≡ after_asking w session other)
HappensStep w session (LoadWait shown) v = MayLoadWait w session shown × (v ≡ after_loading_wait w session shown)
HappensStep w session (SetWaiting tag mode) v = HappensSetting w session tag mode v
HappensStep w session (MarkGranted other done) v = HappensMarking w session other done v
HappensStep w session (ClearWait leaving) v = HappensClearing w session leaving v
HappensStep w session (PutPassing owner tag mode) v =
    MayPass w session owner tag mode × (v ≡ after_passing w session owner tag mode)
HappensStep w session (LoadStrong index shown) v =
    MayLoad w session (Strong index) shown × (v ≡ after_reading_counter w session index shown)
HappensStep w session (LoadWord word shown) v = HappensLoading w session word shown v
HappensStep w session (SetSlot place tag mode) v =
    MaySetSlot w session place tag mode × (v ≡ after_setting_slot w session place tag mode)
HappensStep w session (ClearSlot place tag mode) v =
    MayClearSlot w session place tag mode × (v ≡ after_clearing_slot w session place tag mode)
HappensStep w session (StoreDatabase database) v =
    MayStoreDatabase w session × (v ≡ after_storing_database w session database)
HappensStep w session (Count tag mode) v = MayCount w session tag mode × (v ≡ after_counting w session tag mode)
HappensStep w session (Uncount tag mode) v = MayUncount w session tag mode × (v ≡ after_uncounting w session tag mode)
HappensStep w session (TransferSlot owner place tag mode strong) v =
    MayTransfer w session owner place tag mode strong × (v ≡ after_transferring w owner place tag mode)
HappensStep w session (LockList word) v = HappensLockingList w session word v
HappensStep w session (UnlockList word has_waiters release_ok) v =
    HappensUnlockingList w session word has_waiters release_ok v
HappensStep w session (JoinList mode) v =
    (lock : ℕ) × MayJoinList w session lock × (v ≡ after_joining_list w session lock mode)
HappensStep w session LeaveList v =
    (lock : ℕ) × MayLeaveList w session lock × (v ≡ after_leaving_the_list w session lock)
HappensStep w session (TakeOff other) v =
    (lock : ℕ) × MayTakeOff w session other lock × (v ≡ after_taking_off_the_list w session other lock)
HappensStep w session (Tell other) v = MayTell w session other × (v ≡ after_telling_one w session other)
HappensStep w session (LoadSleep shown) v = MayLoadSleep w session shown × (v ≡ after_loading_sleep w session shown)
HappensStep w session (SetReleaseOk word shown) v = HappensSettingReleaseOk w session word shown v
HappensStep w session (SetHasWaiters word shown) v = HappensSettingHasWaiters w session word shown v

-- The event is lawful in the World w, and v is the World after it.
abbrev pub Happens : World → Event → World → Type 0
Happens w event v = HappensStep w event.session event.step v

-- The event is lawful: there is a World after it.
abbrev pub Lawful : World → Event → Type 0
Lawful w event = (v : World) × Happens w event v

-- What comes next: the World after the event, or, where the event is not lawful, the same World.
abbrev pub Next : World → Event → World → Type 0
Next w event v = Happens w event v ⊎ ((Lawful w event → ⊥) × (v ≡ w))

-- A run by the Worlds on its way: each event in its turn leads on to the next World, those that are not
-- lawful being skipped.
abbrev pub RunsThrough : World → List Event → List World → Type 0
RunsThrough w [] [] = Unit {0}
RunsThrough w [] (u ∷ worlds) = ⊥
RunsThrough w (event ∷ events) [] = ⊥
RunsThrough w (event ∷ events) (u ∷ worlds) = Next w event u × RunsThrough u events worlds

-- the last of them, or the first World where there is no event
abbrev pub last_of : World → List World → World
last_of w [] = w
last_of w (u ∷ worlds) = last_of u worlds

-- The events lead from the World w to v.
abbrev pub Runs : World → List Event → World → Type 0
Runs w events v = (worlds : List World) × RunsThrough w events worlds × (v ≡ last_of w worlds)
