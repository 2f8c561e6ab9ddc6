use Rattle.std.specs.Prelude.{◌≡◌, ◌≢◌, ◌⊎◌, ℕ, ◌≤◌, true, false, List, [], ◌∷◌, ◌++◌, Some, None, Result, Ok, Err, if◌then◌else◌}
use Rattle.modes_core.specs.declared.modes.Mode.{Mode}
use Rattle.modes_core.specs.declared.tags.Tag.{Tag}
use Rattle.modes_core.specs.declared.refusals.Refusal.{Refusal}
use Rattle.modes_core.specs.declared.refusals.Refusal.TheVariants.{SlotsFull, StrongCounted, Busy}
use Rattle.modes_core.specs.Tag.{index_of}
use Rattle.lw_word.specs.LightweightWord.{IsHeldByNobody}
use Rattle.lw_word.specs.SlotWord.{in_use, word_with}
use Rattle.lock_table.specs.Put.{set_at}
use Rattle.lock_world.specs.declared.events.Word.TheVariants.{Fast, Strong}
use Rattle.lock_world.specs.SlotHolds.{group_size, relation_of, IsSlotToGrant, OneSlotEach, AreInGroups}
use Rattle.lock_world.specs.World.{TraceEntry, Loaded}
use Rattle.lock_world.specs.Account.{Account, SlotsInHand}
use Rattle.lock_world.specs.AccountSteps.{own_with}
use Rattle.shared_rule.specs.Slots.{FoundItHeld, FoundItChanged}
use Rattle.fast_path.specs.declared.use_counts.UseCounts.{UseCounts}
use Rattle.fast_path.specs.Slots.{group_of_tag, top_loads, account_tried, IsHighestUnused}
use Rattle.fast_path.specs.Slots.{count_in, one_more_in, AreCounted, AreUseCounts}

-- Grants by the fast path, as the session's account and its trace have them.

-- The mode is set in the slot that the relation has, or in the highest-numbered one of its group that is not
-- in use, and the group's use count is raised in the second case alone. With the lock of the session's own
-- slots in hand, the one load of the object's counter shows 0, and then `seen` of the group's slots are
-- loaded, from the highest-numbered one down: as far as the relation's, or as one not in use above which as
-- many are in use as the use count says, or else all. No other step joins the trace; `before` is what it had
-- until that lock was taken.
pub record GrantsInSlot (groups number : ℕ) (a : Account) (before : List TraceEntry) (uses : UseCounts) (tag : Tag)
    (mode : Mode) (b : Account) (left : UseCounts) : Type 0 where
  pub word : ℕ → ℕ
  pub slot : ℕ
  pub takes : IsSlotToGrant groups word (relation_of tag) slot
  pub highest : in_use (word slot) ≡ false → IsHighestUnused (group_of_tag groups tag) word slot
  pub raised : count_in left ≡ (if in_use (word slot) then count_in uses else one_more_in uses (group_of_tag groups tag))
  pub seen : ℕ
  pub of_group : seen ≤ group_size
  pub account : b ≡ record (account_tried a
      (set_at word slot (word_with (word slot) (relation_of tag) mode))
      (before ++ Loaded (Strong (index_of tag)) 0 ∷ top_loads number (group_of_tag groups tag) word seen))
      { own = own_with a.own tag mode true }

-- The load of the counter shows that a strong lock is counted there, and nothing is changed.
pub record FindsCounted (a : Account) (before : List TraceEntry) (uses : UseCounts) (tag : Tag) (b : Account)
    (left : UseCounts) : Type 0 where
  pub shown : ℕ
  pub counted : shown ≢ 0
  pub same : left ≡ uses
  pub account : b ≡ account_tried a b.fast.remembered (before ++ Loaded (Strong (index_of tag)) shown ∷ [])

-- All sixteen slots of the relation's group are in use, by its use count.
abbrev pub IsFull : ℕ → UseCounts → Tag → Type 0
IsFull groups uses tag = count_in uses (group_of_tag groups tag) ≡ group_size

-- Not all sixteen slots of the relation's group are in use, by its use count.
abbrev pub HasRoom : ℕ → UseCounts → Tag → Type 0
HasRoom groups uses tag = count_in uses (group_of_tag groups tag) ≢ group_size

-- Where all sixteen slots of the relation's group are in use no step is made, and nothing is changed.
pub record FindsFull (groups : ℕ) (a : Account) (uses : UseCounts) (tag : Tag) (b : Account) (left : UseCounts) :
    Type 0 where
  pub full : IsFull groups uses tag
  pub account : b ≡ a
  pub same : left ≡ uses

-- The lock of its own slots is in hand, and no other one.
pub record HasOwnSlots (groups number : ℕ) (a : Account) (uses : UseCounts) : Type 0 where
  pub slots : SlotsInHand
  pub in_hand : a.fast.slots ≡ set_at (λ _. None) number (Some slots)
  pub no_content : a.hand ≡ (λ _. None)
  pub no_shared_slots : a.fast.shared_slots ≡ (λ _. None)
  pub as_shown : a.fast.remembered ≡ slots.word
  pub one_each : OneSlotEach slots.word
  pub in_groups : AreInGroups groups slots.word
  pub no_zero : a.fast.zero ≡ None
  pub enough : AreCounted slots.word (count_in uses)
  pub within : AreUseCounts (count_in uses)

-- the account once its own slots' lock is no more in hand
abbrev pub without_slots : Account → Account
without_slots a = record a { fast = record (a.fast) { slots = λ _. None } }

-- What the rest of a grant does, once the lock of its own slots is in hand, by its answer.
abbrev pub GrantsHeld :
    ℕ → ℕ → Account → UseCounts → Tag → Mode → Result (Unit {0}) Refusal → Account → UseCounts → Type 0
GrantsHeld groups number a uses tag mode (Ok done) b left =
    GrantsInSlot groups number (without_slots a) a.trace uses tag mode b left
GrantsHeld groups number a uses tag mode (Err StrongCounted) b left = FindsCounted (without_slots a) a.trace uses tag b left
GrantsHeld groups number a uses tag mode (Err refusal) b left = ⊥

-- What a grant does, by its answer.
abbrev pub Grants :
    ℕ → ℕ → Account → UseCounts → Tag → Mode → Result (Unit {0}) Refusal → Account → UseCounts → Type 0
Grants groups number a uses tag mode (Ok done) b left =
    HasRoom groups uses tag × GrantsInSlot groups number a a.trace uses tag mode b left
Grants groups number a uses tag mode (Err SlotsFull) b left = FindsFull groups a uses tag b left
Grants groups number a uses tag mode (Err StrongCounted) b left =
    HasRoom groups uses tag × FindsCounted a a.trace uses tag b left
Grants groups number a uses tag mode (Err refusal) b left = ⊥

-- the trace with a load of its own lock's word
abbrev pub with_look : ℕ → List TraceEntry → ℕ → List TraceEntry
with_look number before shown = before ++ Loaded (Fast number) shown ∷ []

-- The lock of its own slots is not taken: it is held, or changed between the load of its word and the
-- exchange.
abbrev pub IsBusy : ℕ → Account → Account → Type 0
IsBusy number a b = FoundItHeld number a b ⊎ FoundItChanged number a b

-- What a grant does that waits for nobody: the lock of its own slots is tried once, after a load that shows
-- it free.
abbrev pub TriesGrant :
    ℕ → ℕ → Account → UseCounts → Tag → Mode → Result (Unit {0}) Refusal → Account → UseCounts → Type 0
TriesGrant groups number a uses tag mode (Ok done) b left =
    HasRoom groups uses tag × (shown : ℕ) × IsHeldByNobody shown
    × GrantsInSlot groups number a (with_look number a.trace shown) uses tag mode b left
TriesGrant groups number a uses tag mode (Err SlotsFull) b left = FindsFull groups a uses tag b left
TriesGrant groups number a uses tag mode (Err Busy) b left =
    HasRoom groups uses tag × IsBusy number a b × (left ≡ uses)
TriesGrant groups number a uses tag mode (Err StrongCounted) b left =
    HasRoom groups uses tag × (shown : ℕ) × IsHeldByNobody shown
    × FindsCounted a (with_look number a.trace shown) uses tag b left
TriesGrant groups number a uses tag mode (Err refusal) b left = ⊥
