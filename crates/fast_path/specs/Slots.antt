use Rattle.std.specs.Prelude.{◌≡◌, ℕ, ◌+◌, ◌-◌, ◌*◌, ◌/◌, ◌<◌, ◌≤◌, zero, suc, false, true, List, [], ◌∷◌, ◌++◌, slice_index_or}
use Rattle.std.specs.Prelude.{None, IfSome, IfNone}
use Rattle.modes_core.specs.declared.modes.Mode.{Mode}
use Rattle.modes_core.specs.declared.tags.Tag.{Tag}
use Rattle.modes_core.specs.Tag.{is_eligible_for}
use Rattle.lw_word.specs.SlotWord.{in_use}
use Rattle.lock_table.specs.Put.{set_at}
use Rattle.lock_world.specs.declared.events.Word.TheVariants.{Slot}
use Rattle.lock_world.specs.SlotHolds.{group_size, most_groups, place_in_group, relation_of, group_of_relation, is_slot_of, used_in, AreInGroups}
use Rattle.lock_world.specs.World.{TraceEntry, Loaded}
use Rattle.lock_world.specs.Account.{Account}
use Rattle.fast_path.specs.declared.slot_words.SeenSlot.{SeenSlot}
use Rattle.fast_path.specs.declared.slot_words.Sighting.{Sighting}
use Rattle.fast_path.specs.declared.slot_words.SightingForGrant.{SightingForGrant}
use Rattle.fast_path.specs.declared.use_counts.UseCounts.{UseCounts}

-- A session's slots, as the fast path reads them.

-- This slot is one of the group.
abbrev pub IsOfGroup : ℕ → ℕ → Type 0
IsOfGroup group slot = slot / group_size ≡ group

-- the group of the object's relation, of this number of groups
abbrev pub group_of_tag : ℕ → Tag → ℕ
group_of_tag groups tag = group_of_relation groups (relation_of tag)

-- The slot is the highest-numbered one of the group that is not in use.
pub record IsHighestUnused (group : ℕ) (word : ℕ → ℕ) (slot : ℕ) : Type 0 where
  pub within : IsOfGroup group slot
  pub unused : in_use (word slot) ≡ false
  pub higher : (other : ℕ) → slot < other → IsOfGroup group other → in_use (word other) ≡ true

-- The slot was seen among those of the group with these words: it is in use for the relation.
pub record IsSeenOf (group : ℕ) (word : ℕ → ℕ) (relation : ℕ) (slot : SeenSlot) : Type 0 where
  pub within : IsOfGroup group slot.number
  pub shown : slot.word ≡ word slot.number
  pub its : is_slot_of slot.word relation ≡ true

-- The slot was seen among those of the group with these words: it is the highest-numbered one that is not in
-- use.
pub record IsSeenUnused (group : ℕ) (word : ℕ → ℕ) (slot : SeenSlot) : Type 0 where
  pub shown : slot.word ≡ word slot.number
  pub highest : IsHighestUnused group word slot.number

-- All slots of the group are in use.
abbrev pub IsAllInUse : ℕ → (ℕ → ℕ) → Type 0
IsAllInUse group word = (slot : ℕ) → IsOfGroup group slot → in_use (word slot) ≡ true

-- No slot of the group is in use for the relation.
abbrev pub NoneInGroup : ℕ → (ℕ → ℕ) → ℕ → Type 0
NoneInGroup group word relation = (slot : ℕ) → IsOfGroup group slot → is_slot_of (word slot) relation ≡ false

-- What a look through all of a group's slots with these words finds for a relation.
pub record Sights (group : ℕ) (word : ℕ → ℕ) (relation : ℕ) (seen : Sighting) : Type 0 where
  pub found : IfSome seen.of_relation (IsSeenOf group word relation)
  pub none : IfNone seen.of_relation (NoneInGroup group word relation)
  pub counted : seen.used_count ≡ used_in group word

-- What the look of a grant through a group's slots with these words finds for a relation.
pub record SightsForGrant (group : ℕ) (word : ℕ → ℕ) (relation : ℕ) (seen : SightingForGrant) : Type 0 where
  pub found : IfSome seen.of_relation (IsSeenOf group word relation)
  pub none : IfNone seen.of_relation (NoneInGroup group word relation)
  pub unused : IfSome seen.highest_unused (IsSeenUnused group word)
  pub full : IfNone seen.of_relation (IfNone seen.highest_unused (IsAllInUse group word))

-- the loads of a session's slots at these places, of as many as this number says from the first place on,
-- which show these words
unfoldable pub slot_loads : ℕ → (ℕ → ℕ) → (ℕ → ℕ) → ℕ → List TraceEntry
slot_loads owner which word zero = []
slot_loads owner which word (suc k) =
    slot_loads owner which word k ++ Loaded (Slot owner (which k)) (word (which k)) ∷ []

-- the slots of a group from the highest-numbered one down
abbrev pub slot_from_top : ℕ → ℕ → ℕ
slot_from_top group step = place_in_group group (group_size - 1 - step)

-- the loads of this number of a group's slots, from the highest-numbered one down
abbrev pub top_loads : ℕ → ℕ → (ℕ → ℕ) → ℕ → List TraceEntry
top_loads owner group word seen = slot_loads owner (slot_from_top group) word seen

-- the loads of all slots of a group
abbrev pub group_loads : ℕ → ℕ → (ℕ → ℕ) → List TraceEntry
group_loads owner group word = slot_loads owner (place_in_group group) word group_size

-- the loads of all slots of this number of groups
abbrev pub all_loads : ℕ → ℕ → (ℕ → ℕ) → List TraceEntry
all_loads groups owner word = slot_loads owner (λ slot. slot) word (group_size * groups)

-- the account after this number of such loads
abbrev pub account_loading : Account → ℕ → (ℕ → ℕ) → (ℕ → ℕ) → ℕ → Account
account_loading a owner which word count = record a { trace = a.trace ++ slot_loads owner which word count }

-- how many slots of the group are counted as in use
abbrev pub count_in : UseCounts → ℕ → ℕ
count_in uses group = slice_index_or uses.counts group 0

-- the use counts with this count in the group, and in others as before
abbrev pub counting : UseCounts → ℕ → ℕ → ℕ → ℕ
counting uses group count = set_at (count_in uses) group count

-- the use counts with one more in this group
abbrev pub one_more_in : UseCounts → ℕ → ℕ → ℕ
one_more_in uses group = counting uses group (count_in uses group + 1)

-- In no group more slots with these words are in use than are counted.
abbrev pub AreCounted : (ℕ → ℕ) → (ℕ → ℕ) → Type 0
AreCounted word counts = (group : ℕ) → group < most_groups → used_in group word ≤ counts group

-- In no group more are counted than it has.
abbrev pub AreUseCounts : (ℕ → ℕ) → Type 0
AreUseCounts counts = (group : ℕ) → group < most_groups → counts group ≤ group_size

-- Between two calls on the fast path the session has no lightweight lock in hand, nor shares one of slots,
-- and in each group its use count is not below the number of its slots in use (FastPathLocalUseCount in
-- lock.c, in version 18 FastPathLocalUseCounts).
pub record IsReady (groups : ℕ) (a : Account) (uses : UseCounts) : Type 0 where
  pub no_content : a.hand ≡ (λ _. None)
  pub no_slots : a.fast.slots ≡ (λ _. None)
  pub no_shared_slots : a.fast.shared_slots ≡ (λ _. None)
  pub no_zero : a.fast.zero ≡ None
  pub in_groups : AreInGroups groups a.fast.remembered
  pub enough : AreCounted a.fast.remembered (count_in uses)
  pub within : AreUseCounts (count_in uses)

-- The session may take the mode on the object by the fast path.
pub record MayTry (a : Account) (tag : Tag) (mode : Mode) : Type 0 where
  pub eligible : is_eligible_for a.fast.database tag mode ≡ true
  pub new : a.own tag mode ≡ false
  pub no_wait : a.awaited ≡ None

-- the account with the fast path tried: what it remembers of its slots, and its trace, are others
abbrev pub account_tried : Account → (ℕ → ℕ) → List TraceEntry → Account
account_tried a remembered trace = record a { fast = record (a.fast) { remembered = remembered }; trace = trace }
