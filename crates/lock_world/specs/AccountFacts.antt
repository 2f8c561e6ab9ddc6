use Rattle.std.specs.Prelude.{◌≡◌, ◌⊎◌, ℕ, ◌≤◌, ◌==◌, Bool, true, false, count_by, Some, None}
use Rattle.modes_core.specs.declared.modes.Mode.{Mode}
use Rattle.modes_core.specs.declared.tags.Tag.{Tag}
use Rattle.modes_core.specs.Tag.{partition_of}
use Rattle.lock_table.specs.Content.{Content}
use Rattle.lock_table.specs.OwnWait.{OwnWait, is_for}
use Rattle.lock_table.specs.Queue.{waits_there, awaits_mode}
use Rattle.lock_world.specs.Counted.{is_past}
use Rattle.lock_world.specs.SlotHolds.{slot_holds, ShowsNoMore, OneSlotEach, InUseHasDatabase, AreInGroups}
use Rattle.lock_world.specs.Account.{Account, SlotsInHand}

-- Where the holds stand of the session of this number, which has this database and remembers its slots so, as
-- a partition has this content: there are words of its slots, which show no more than it remembers, by which
-- each own hold of the partition is in a slot or in the content, and not in both.
pub record OwnHoldsStand (number : ℕ) (own : Tag → Mode → Bool) (database : ℕ) (remembered : ℕ → ℕ)
    (p : ℕ) (content : Content) : Type 0 where
  pub slot : ℕ → ℕ
  pub no_more : ShowsNoMore slot remembered
  -- what the slots show is own, and not in the content
  pub in_slot :
      (tag : Tag) (mode : Mode) → slot_holds database slot tag mode ≡ true
      → (own tag mode ≡ true) × (content.holds number tag mode ≡ false)
  -- one of its own holds in the partition that they don't show is in the content
  pub in_content :
      (tag : Tag) (mode : Mode) → partition_of tag ≡ p → own tag mode ≡ true → slot_holds database slot tag mode ≡ false
      → content.holds number tag mode ≡ true

-- What the session of this number knows of the content of a partition, by its own account: it learns this of
-- the content of each partition that it takes.
pub record KnowsContent (number : ℕ) (a : Account) (p : ℕ) (content : Content) : Type 0 where
  -- the content has holds and waits on objects of the partition alone
  pub holds_of_it : (session : ℕ) (tag : Tag) (mode : Mode) → content.holds session tag mode ≡ true → partition_of tag ≡ p
  pub waits_of_it : (session : ℕ) (tag : Tag) → waits_there (content.waits tag) session ≡ true → partition_of tag ≡ p
  -- its holds there are its own, or what it awaits
  pub its_holds :
      (tag : Tag) (mode : Mode) → content.holds number tag mode ≡ true
      → (a.own tag mode ≡ true) ⊎ (is_for a.awaited tag mode ≡ true)
  -- its own holds are there, or in its slots
  pub own_holds :
      (mine : SlotsInHand) (tag : Tag) (mode : Mode) → a.fast.slots number ≡ Some mine → partition_of tag ≡ p
      → a.own tag mode ≡ true → mine.holds tag mode ≡ false → content.holds number tag mode ≡ true
  -- and there where its slots, as it remembers them, don't show them: so is each that no slot can have
  pub tabled_holds :
      (tag : Tag) (mode : Mode) → slot_holds a.fast.database a.fast.remembered tag mode ≡ false → partition_of tag ≡ p
      → a.own tag mode ≡ true → content.holds number tag mode ≡ true
  -- and there where something that it has counted for the object is past its own number, so that no slot of
  -- its own has the object
  pub past :
      (tag : Tag) (mode : Mode) → is_past a.fast.counted tag number ≡ true → partition_of tag ≡ p
      → a.own tag mode ≡ true → content.holds number tag mode ≡ true
  -- each is in a slot or there, and not in both
  pub own_stand : OwnHoldsStand number a.own a.fast.database a.fast.remembered p content
  -- what shows in slots that it has in hand is not there, nor awaited there
  pub in_slots :
      (owner : ℕ) (slots : SlotsInHand) (tag : Tag) (mode : Mode) → a.fast.slots owner ≡ Some slots → slots.holds tag mode ≡ true
      → (content.holds owner tag mode ≡ false) × (awaits_mode (content.waits tag) owner mode ≡ false)
  -- where it has no wait it stands in no queue, and nobody stands twice in one
  pub no_wait : (tag : Tag) → a.awaited ≡ None → waits_there (content.waits tag) number ≡ false
  pub once : (session : ℕ) (tag : Tag) → count_by (λ wait. wait.session == session) (content.waits tag) ≤ 1
  -- where its wait on an object of the partition stands in no queue, it was granted, and its hold is there
  pub granted_hold :
      (wait : OwnWait) → a.awaited ≡ Some wait → partition_of wait.tag ≡ p → waits_there (content.waits wait.tag) number ≡ false
      → content.holds number wait.tag wait.mode ≡ true

-- What the session of this number knows of the slots of a session, by its own account, where each has this
-- many groups of slots: it learns this of the slots whose lock it takes.
pub record KnowsSlots (groups number : ℕ) (a : Account) (owner : ℕ) (slots : SlotsInHand) : Type 0 where
  -- they show holds of the owner's database, one slot at most is for each relation, and who has one in use
  -- has a database
  pub database : ℕ
  pub holds : slots.holds ≡ slot_holds database slots.word
  pub one_each : OneSlotEach slots.word
  pub in_use : InUseHasDatabase database slots.word
  -- each in use is of its relation's group
  pub in_groups : AreInGroups groups slots.word
  -- of its own slots it knows the database, they show own holds alone, and no mode that it does not remember
  -- there
  pub own_database : owner ≡ number → database ≡ a.fast.database
  pub own : owner ≡ number → (tag : Tag) (mode : Mode) → slots.holds tag mode ≡ true → a.own tag mode ≡ true
  pub as_remembered : owner ≡ number → ShowsNoMore slots.word a.fast.remembered
