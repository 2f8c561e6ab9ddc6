use Rattle.std.specs.Prelude.{◌≡◌, ℕ, ◌<◌, nat_lt, not, ◌&&◌, true, false, List, [], ◌∷◌, ◌++◌}
use Rattle.std.specs.Prelude.{Option, Some, None, Result, Ok, Err}
use Rattle.modes_core.specs.declared.modes.Mode.{Mode}
use Rattle.modes_core.specs.declared.tags.Tag.{Tag}
use Rattle.modes_core.specs.Mode.{number_of}
use Rattle.modes_core.specs.Tag.{database_of, partition_of}
use Rattle.lw_word.specs.SlotWord.{has_mode}
use Rattle.lock_table.specs.declared.moves.Move.{Move}
use Rattle.lock_table.specs.declared.no_memory.NoMemory.{NoMemory}
use Rattle.lock_table.specs.Content.{Content}
use Rattle.lock_table.specs.Put.{set_at}
use Rattle.lock_table.specs.Queue.{awaits_mode}
use Rattle.lock_world.specs.declared.events.Word.TheVariants.{Database}
use Rattle.lock_world.specs.SlotHolds.{slot_count, relation_of, slot_holds, is_slot_of, OneSlotEach, AreInGroups, ShowsNoMore}
use Rattle.lock_world.specs.World.{TraceEntry, Took, Episode, Loaded}
use Rattle.lock_world.specs.Account.{Account, InHand, SlotsInHand}
use Rattle.lock_world.specs.Happens.Transfers.{MayAdopt}
use Rattle.fast_path.specs.Transfers.{adopting}

-- What stands within one turn of a transfer.

-- The session has no lightweight lock in hand, shares none of slots, and has read no counter as 0.
pub record IsUnlocked (a : Account) : Type 0 where
  pub no_content : a.hand ≡ (λ _. None)
  pub no_slots : a.fast.slots ≡ (λ _. None)
  pub no_shared_slots : a.fast.shared_slots ≡ (λ _. None)
  pub no_zero : a.fast.zero ≡ None

-- the account with the lock of a session's slots in hand, and what it remembers of its own slots since, after
-- these steps
abbrev pub account_holding : Account → ℕ → SlotsInHand → (ℕ → ℕ) → List TraceEntry → Account
account_holding a owner slots remembered steps = record a {
  fast = record (a.fast) { slots = set_at a.fast.slots owner (Some slots); remembered = remembered };
  trace = a.trace ++ steps;
}

-- The lock of a session's slots was taken, and then its database was loaded.
pub record Looks (groups : ℕ) (a : Account) (owner shown : ℕ) (b : Account) : Type 0 where
  pub slots : SlotsInHand
  pub remembered : ℕ → ℕ
  pub no_more : ShowsNoMore remembered a.fast.remembered
  pub one_each : OneSlotEach slots.word
  pub in_groups : AreInGroups groups slots.word
  pub holds : slots.holds ≡ slot_holds shown slots.word
  pub account : b ≡ account_holding a owner slots remembered (Loaded (Database owner) shown ∷ [])

-- The beginning of a turn that goes past a session of the tag's database: the lock of its slots was taken,
-- and its database was loaded.
pub record BeginsTurn (groups : ℕ) (a : Account) (owner : ℕ) (tag : Tag) (b : Account) : Type 0 where
  pub unlocked : IsUnlocked a
  pub looked : Looks groups a owner (database_of tag) b

-- In the tag's database these slots have the relation in this one, by this word.
pub record HasRelation (slots : SlotsInHand) (slot word : ℕ) (tag : Tag) : Type 0 where
  pub holds : slots.holds ≡ slot_holds (database_of tag) slots.word
  pub one_each : OneSlotEach slots.word
  pub within : slot < slot_count
  pub is_word : word ≡ slots.word slot
  pub its : is_slot_of word (relation_of tag) ≡ true

-- The lock of the owner's slots is in hand, and no other one, and they have the relation.
pub record HasSlots (a : Account) (owner slot word : ℕ) (tag : Tag) : Type 0 where
  pub no_content : a.hand ≡ (λ _. None)
  pub slots : SlotsInHand
  pub in_hand : a.fast.slots ≡ set_at (λ _. None) owner (Some slots)
  pub has : HasRelation slots slot word tag

-- a partition in hand, taken with the one content: it has the other now, and nobody is unmarked
abbrev pub hand_moving : Content → Content → Option Move → InHand
hand_moving taken now recorded = record { taken = taken; now = now; recorded = recorded; unmarked = λ _. false }

-- With the object's partition in hand too: what the slots show of the object is neither there nor awaited
-- there.
pub record HasSlotsAndPart (a : Account) (owner slot word : ℕ) (tag : Tag) (taken : Content) : Type 0 where
  pub slots : SlotsInHand
  pub in_hand : a.fast.slots owner ≡ Some slots
  pub part_in_hand : a.hand (partition_of tag) ≡ Some (hand_moving taken taken None)
  pub has : HasRelation slots slot word tag
  pub not_there : (mode : Mode) → slots.holds tag mode ≡ true → taken.holds owner tag mode ≡ false
  pub not_awaited :
      (mode : Mode) → slots.holds tag mode ≡ true → awaits_mode (taken.waits tag) owner mode ≡ false

-- Of the object the one slots show what the others do, but no mode with a number below this one.
abbrev pub IsWithout : SlotsInHand → Tag → ℕ → SlotsInHand → Type 0
IsWithout slots tag below rest =
    (mode : Mode) → rest.holds tag mode ≡ (not (nat_lt (number_of mode) below) && slots.holds tag mode)

-- The modes with numbers below this one are moved, one per step: the content has them, and the adopt stands
-- recorded, if there were any.
pub record MovesBelow (a : Account) (owner slot word : ℕ) (tag : Tag) (taken : Content) (below : ℕ) (now : Content)
    (b : Account) : Type 0 where
  pub rest : SlotsInHand
  pub without : (slots : SlotsInHand) → a.fast.slots owner ≡ Some slots → IsWithout slots tag below rest
  pub content : now ≡ adopting taken owner tag word below
  pub recorded : Option Move
  pub adopt : MayAdopt recorded owner slot
  pub account : b ≡ record a {
    fast = record (a.fast) { slots = set_at a.fast.slots owner (Some rest) };
    hand = set_at a.hand (partition_of tag) (Some (hand_moving taken now recorded));
  }

-- The modes of the slot are moved as far as before the mode that there was no memory for.
pub record MovesSome (a : Account) (owner slot word : ℕ) (tag : Tag) (taken now : Content) (b : Account) :
    Type 0 where
  pub refused : Mode
  pub in_slot : has_mode word refused ≡ true
  pub moves : MovesBelow a owner slot word tag taken (number_of refused) now b

-- What moving the modes of a slot comes to by its result: all of them are moved, or those before the one that
-- memory ran out for.
abbrev pub MovesOrNot :
    Account → ℕ → ℕ → ℕ → Tag → Content → Result (Unit {0}) NoMemory → Content → Account → Type 0
MovesOrNot a owner slot word tag taken (Ok done) now b = MovesBelow a owner slot word tag taken 4 now b
MovesOrNot a owner slot word tag taken (Err refusal) now b = MovesSome a owner slot word tag taken now b

-- The episode in which the modes of the slot with numbers below this one are moved.
pub record AdoptsBelow (a : Account) (owner word : ℕ) (tag : Tag) (below : ℕ) (b : Account) : Type 0 where
  pub taken : Content
  pub rest : SlotsInHand
  pub without : (slots : SlotsInHand) → a.fast.slots owner ≡ Some slots → IsWithout slots tag below rest
  pub account : b ≡ record a {
    fast = record (a.fast) { slots = set_at a.fast.slots owner (Some rest) };
    trace = a.trace ++ Took (partition_of tag) taken
        ∷ Episode (partition_of tag) taken (adopting taken owner tag word below) ∷ [];
  }

-- The episode in which the modes of the slot are moved as far as before the mode that there was no memory
-- for.
pub record AdoptsSome (a : Account) (owner word : ℕ) (tag : Tag) (b : Account) : Type 0 where
  pub refused : Mode
  pub in_slot : has_mode word refused ≡ true
  pub adopts : AdoptsBelow a owner word tag (number_of refused) b

-- What such an episode comes to by its result: all modes of the slot are moved, or those before the one that
-- memory ran out for.
abbrev pub AdoptsOrNot : Account → ℕ → ℕ → Tag → Result (Unit {0}) NoMemory → Account → Type 0
AdoptsOrNot a owner word tag (Ok done) b = AdoptsBelow a owner word tag 4 b
AdoptsOrNot a owner word tag (Err refusal) b = AdoptsSome a owner word tag b
