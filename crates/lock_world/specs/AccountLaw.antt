use Rattle.std.specs.Prelude.{◌≡◌, ◌≢◌, ℕ, ◌^◌, ◌<◌, true, false, List, [], length, Some, None}
use Rattle.modes_core.specs.declared.modes.Mode.{Mode}
use Rattle.modes_core.specs.declared.tags.Tag.{Tag}
use Rattle.modes_core.specs.Tag.{index_of, partition_of, is_eligible_for, is_strong_on}
use Rattle.lock_table.specs.declared.moves.Move.{Move}
use Rattle.lock_table.specs.declared.moves.Move.TheVariants.{Leave}
use Rattle.lock_table.specs.Content.{Wait, Content}
use Rattle.lock_table.specs.Moves.{Moves, IsInPartition, FitsOwn}
use Rattle.lock_table.specs.OwnWait.{OwnWait, is_for}
use Rattle.lock_table.specs.Queue.{waits_there}
use Rattle.lw_word.specs.SlotWord.{shows}
use Rattle.lock_world.specs.SlotHolds.{slot_count, relation_of, IsSlotToGrant}
use Rattle.lock_world.specs.Counted.{IsCountedFor, is_counted, is_at}
use Rattle.lock_world.specs.Happens.Partitions.{IsMadeByPutting, WaitIsOver}
use Rattle.lock_world.specs.Happens.Counters.{most_counted}
use Rattle.lock_world.specs.Happens.Transfers.{MayAdopt}
use Rattle.lw_word.specs.WaitList.{stands_in}
use Rattle.lock_world.specs.Account.{Account, InHand, SlotsInHand, ListInHand}

-- Where a step is lawful, by the account of the session that makes it. That it makes steps of its own is not
-- asked here. `number` is the session's, `limit` how many sessions there can be, and `groups` how many groups
-- of slots each has.

-- The partition is in hand with no move recorded, and this move leads to the content and grants these waits.
pub record MayMoveBy (limit number : ℕ) (a : Account) (p : ℕ) (mine : InHand) (done : Move) (granted : List Wait)
    (content : Content) : Type 0 where
  pub in_hand : a.hand p ≡ Some mine
  pub unrecorded : mine.recorded ≡ None
  pub object : IsInPartition p done
  pub fits : FitsOwn (λ _. a.own) a.awaited number done
  pub counted : IsCountedFor limit a.fast.counted done
  pub moved : Moves mine.now number done granted content

-- Putting a partition: after a move that is made as it is put, or after the one recorded.
pub record MayPutBy (limit number : ℕ) (a : Account) (p : ℕ) (mine : InHand) (done : Move) (content : Content) : Type 0 where
  pub may_move : MayMoveBy limit number a p mine done [] content
  pub by_putting : IsMadeByPutting done

-- By its account it may put a partition with the move that stands recorded.
pub record MayPutRecordedBy (a : Account) (p : ℕ) (mine : InHand) (done : Move) : Type 0 where
  pub in_hand : a.hand p ≡ Some mine
  pub recorded : mine.recorded ≡ Some done
  pub all_marked : (other : ℕ) → mine.unmarked other ≡ false
  pub wait_is_over : WaitIsOver a.awaited p done

-- Marking granted a wait of somebody whom the move grants: by the first such step the move is made, by each
-- further one it stands recorded. Whom it grants waits, and is another: that need not be asked.
pub record MayMarkFirstBy (limit number : ℕ) (a : Account) (p : ℕ) (mine : InHand) (done : Move) (granted : List Wait)
    (content : Content) (other : ℕ) : Type 0 where
  pub may_move : MayMoveBy limit number a p mine done granted content
  pub among : waits_there granted other ≡ true

-- By its account it may mark one more of those whom the recorded move granted.
pub record MayMarkNextBy (a : Account) (p : ℕ) (mine : InHand) (done : Move) (other : ℕ) : Type 0 where
  pub in_hand : a.hand p ≡ Some mine
  pub recorded : mine.recorded ≡ Some done
  pub still_unmarked : mine.unmarked other ≡ true

-- Clearing one's own wait word: a grant was seen, or the wait is gone from the content in hand, or this step
-- takes it out.
pub record MayClearSeenBy (a : Account) (wait : OwnWait) : Type 0 where
  pub is_wait : a.awaited ≡ Some wait
  pub has_seen : a.seen ≡ true

-- By its account it may clear its wait word, with the partition in hand and its wait no more in the queue.
pub record MayClearInHandBy (number : ℕ) (a : Account) (wait : OwnWait) (mine : InHand) : Type 0 where
  pub is_wait : a.awaited ≡ Some wait
  pub in_hand : a.hand (partition_of wait.tag) ≡ Some mine
  pub gone : waits_there (mine.now.waits wait.tag) number ≡ false

-- By its account it may take its wait out of the queue as it clears its wait word.
pub record MayLeaveBy (limit number : ℕ) (a : Account) (wait : OwnWait) (mine : InHand) (granted : List Wait)
    (content : Content) : Type 0 where
  pub is_wait : a.awaited ≡ Some wait
  pub may_move : MayMoveBy limit number a (partition_of wait.tag) mine (Leave wait.tag) granted content

-- Putting the lock of a session's slots.
pub record MayPutFastBy (a : Account) (owner : ℕ) (slots : SlotsInHand) : Type 0 where
  pub in_hand : a.fast.slots owner ≡ Some slots

-- Sharing it, and giving it back.
pub record MayShareFastBy (a : Account) (owner : ℕ) : Type 0 where
  pub not_shared : a.fast.shared_slots owner ≡ None

-- By its account it may give back the lock of a session's slots, which it shares.
pub record MayUnshareFastBy (a : Account) (owner : ℕ) (slots : SlotsInHand) : Type 0 where
  pub shared : a.fast.shared_slots owner ≡ Some slots

-- Going past one that is held: no slot shows the object in any mode.
pub record MayPassBy (a : Account) (owner : ℕ) (slots : SlotsInHand) (tag : Tag) (mode : Mode) : Type 0 where
  pub in_hand : a.fast.slots owner ≡ Some slots
  pub next : is_at owner a.fast.counted tag mode ≡ true
  pub no_slot : (its : Mode) → slots.holds tag its ≡ false

-- Setting a mode in one of one's own slots, and clearing one.
pub record MaySetSlotBy (groups number : ℕ) (a : Account) (mine : SlotsInHand) (place : ℕ) (tag : Tag) (mode : Mode) : Type 0 where
  pub in_hand : a.fast.slots number ≡ Some mine
  pub eligible : is_eligible_for a.fast.database tag mode ≡ true
  pub below : relation_of tag < 2 ^ 32
  pub read_as_zero : a.fast.zero ≡ Some (index_of tag)
  pub no_wait : a.awaited ≡ None
  pub new : a.own tag mode ≡ false
  pub takes : IsSlotToGrant groups mine.word (relation_of tag) place

-- By its account it may clear a mode in its slot.
pub record MayClearSlotBy (number : ℕ) (a : Account) (mine : SlotsInHand) (place : ℕ) (tag : Tag) (mode : Mode) : Type 0 where
  pub in_hand : a.fast.slots number ≡ Some mine
  pub eligible : is_eligible_for a.fast.database tag mode ≡ true
  pub within : place < slot_count
  pub shown : shows (mine.word place) (relation_of tag) mode ≡ true

-- Moving a mode from a slot to the content in hand of the object's partition.
pub record MayTransferBy (limit : ℕ) (a : Account) (owner place : ℕ) (its : SlotsInHand) (mine : InHand)
    (tag : Tag) (mode strong : Mode) : Type 0 where
  pub its_slots : a.fast.slots owner ≡ Some its
  pub in_hand : a.hand (partition_of tag) ≡ Some mine
  pub exists : owner < limit
  pub next : is_at owner a.fast.counted tag strong ≡ true
  pub may_adopt : MayAdopt mine.recorded owner place
  pub held : its.holds tag mode ≡ true
  pub within : place < slot_count
  pub shown : shows (its.word place) (relation_of tag) mode ≡ true

-- Counting a strong lock, and counting it no more.
pub record MayCountBy (a : Account) (tag : Tag) (mode : Mode) : Type 0 where
  pub strong : is_strong_on tag mode ≡ true
  pub new : is_counted a.fast.counted tag mode ≡ false
  pub few : length a.fast.counted < most_counted

-- By its account it may take a count back.
pub record MayUncountBy (a : Account) (tag : Tag) (mode : Mode) : Type 0 where
  pub is : is_counted a.fast.counted tag mode ≡ true
  pub not_own : a.own tag mode ≡ false
  pub not_awaited : is_for a.awaited tag mode ≡ false

-- Wait lists: locking one asks that none is in hand, the rest that one is. That a list's words show what they
-- should need not be asked, since a session in no list has a sleep word of 0, and a session in a list waits.
pub record MayLockListBy (a : Account) : Type 0 where
  pub no_list : a.lists.in_hand ≡ None

-- By its account it may join the wait list in hand.
pub record MayJoinListBy (a : Account) (mine : ListInHand) : Type 0 where
  pub in_hand : a.lists.in_hand ≡ Some mine
  pub in_none : a.lists.stands ≡ None

-- By its account it may leave the wait list in hand.
pub record MayLeaveListBy (number : ℕ) (a : Account) (mine : ListInHand) : Type 0 where
  pub in_hand : a.lists.in_hand ≡ Some mine
  pub stands : stands_in number mine.waiters ≡ true

-- By its account it may take another session off the wait list in hand.
pub record MayTakeOffBy (number : ℕ) (a : Account) (mine : ListInHand) (other : ℕ) : Type 0 where
  pub another : other ≢ number
  pub in_hand : a.lists.in_hand ≡ Some mine
  pub stands : stands_in other mine.waiters ≡ true

-- By its account it may tell a session that it took off.
pub record MayTellBy (a : Account) (other : ℕ) : Type 0 where
  pub taken_off : a.lists.off other ≡ true
