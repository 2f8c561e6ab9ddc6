use Rattle.std.specs.Prelude.{◌≡◌, ◌≢◌, ◌⊎◌, ℕ, MatchResult, Some, None}
use Rattle.std.specs.declared.result.Result.{Result}
use Rattle.lw_word.specs.LightweightWord.{IsHeldByNobody}
use Rattle.lock_world.specs.declared.events.Word.{Word}
use Rattle.lock_world.specs.declared.events.Word.TheVariants.{Partition, Fast, Database, Slot, Wait, Strong, Sleep}
use Rattle.lock_world.specs.SlotHolds.{slot_holds}
use Rattle.lock_world.specs.WaitWord.{wait_state}
use Rattle.lock_world.specs.World.{Loaded}
use Rattle.lock_world.specs.Account.{Account, SlotsInHand}
use Rattle.lock_world.specs.AccountSteps.{account_tracing, account_taking_fast, account_sharing_fast}
use Rattle.lock_world.specs.AccountFacts.{KnowsSlots}

-- What steps on slots tell the session of this number, whose account is `a` before them and `b` after them,
-- where each has this number of groups of slots.

-- The session took the lock of the owner's slots, has them in hand, and knows of them what its account tells.
pub record TakesFast (groups number : ℕ) (a : Account) (owner : ℕ) (b : Account) : Type 0 where
  pub slots : SlotsInHand
  pub knows : KnowsSlots groups number a owner slots
  pub account : b ≡ account_taking_fast number a owner slots

-- The session shares the lock of the owner's slots, and knows of them what its account tells: nobody changes
-- them while it does, and others may read them too.
pub record SharesFast (groups number : ℕ) (a : Account) (owner : ℕ) (b : Account) : Type 0 where
  pub slots : SlotsInHand
  pub knows : KnowsSlots groups number a owner slots
  pub account : b ≡ account_sharing_fast number a owner slots

-- An attempt to take the lock of its own slots, which first loads the lock's word:

-- nobody held it, and the exchange took it;
pub record TookItFree (groups number : ℕ) (a b : Account) : Type 0 where
  pub shown : ℕ
  pub free : IsHeldByNobody shown
  pub takes : TakesFast groups number (account_tracing a (Loaded (Fast number) shown)) number b

-- somebody held it;
pub record FoundItHeld (number : ℕ) (a b : Account) : Type 0 where
  pub shown : ℕ
  pub held : IsHeldByNobody shown → ⊥
  pub account : b ≡ account_tracing a (Loaded (Fast number) shown)

-- nobody held it, but the exchange found another number.
pub record FoundItChanged (number : ℕ) (a b : Account) : Type 0 where
  pub shown : ℕ
  pub free : IsHeldByNobody shown
  pub other : ℕ
  pub changed : other ≢ shown
  pub account : b ≡ account_tracing (account_tracing a (Loaded (Fast number) shown)) (Loaded (Fast number) other)

-- A session tries for the lock of its own slots: it took the lock, or found it held, or the exchange found
-- another number.
abbrev pub TriesFast : {T E : Type 0} → ℕ → ℕ → Account → Result T E → Account → Type 0
TriesFast groups number a result b =
    MatchResult result (λ _. TookItFree groups number a b) (λ _. FoundItHeld number a b ⊎ FoundItChanged number a b)

-- The session has these slots of the owner in hand, or shares them.
abbrev pub HasOrShares : Account → ℕ → SlotsInHand → Type 0
HasOrShares a owner slots = (a.fast.slots owner ≡ Some slots) ⊎ (a.fast.shared_slots owner ≡ Some slots)

-- What the session knows of a number that it finds in a word: the slots that it has in hand or shares show
-- it, its database is its own, and its own wait word shows no wait where it has none.
abbrev pub KnowsWord : ℕ → Account → Word → ℕ → Type 0
KnowsWord number a (Partition p) found = Unit {0}
KnowsWord number a (Fast owner) found = Unit {0}
KnowsWord number a (Database owner) found =
    ((slots : SlotsInHand) → HasOrShares a owner slots → slots.holds ≡ slot_holds found slots.word)
    × (owner ≡ number → found ≡ a.fast.database)
KnowsWord number a (Slot owner slot) found =
    (slots : SlotsInHand) → HasOrShares a owner slots → found ≡ slots.word slot
KnowsWord number a (Wait owner) found = owner ≡ number → a.awaited ≡ None → wait_state found ≡ 0
KnowsWord number a (Strong index) found = Unit {0}
KnowsWord number a (Sleep owner) found = Unit {0}
