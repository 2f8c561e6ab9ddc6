use Rattle.std.specs.Prelude.{◌≡◌, ◌≢◌, ◌⊎◌, ℕ, ◌+◌, ◌*◌, ◌/◌, ◌%◌, ◌<◌, Bool, true, false, ◌==◌, ◌&&◌, ◌||◌, zero, suc}
use Rattle.modes_core.specs.declared.modes.Mode.{Mode}
use Rattle.modes_core.specs.declared.tags.Tag.{Tag}
use Rattle.modes_core.specs.Tag.{is_eligible_for}
pub use Rattle.modes_core.specs.Tag.{relation_of}
use Rattle.lw_word.specs.SlotWord.{relation_in, in_use, shows}
use Rattle.lock_table.specs.Total.{how_many}

-- Which holds a session's fast-path slots show, with the word of its database (`fpRelId`, `fpLockBits` and
-- `databaseId` of a PGPROC).

-- A session's slots come in groups of as many (FP_LOCK_SLOTS_PER_BACKEND in proc.h, in version 18
-- FP_LOCK_SLOTS_PER_GROUP). Each relation has its group, and only slots of that group are used for it.

-- how many slots a group has
abbrev pub group_size : ℕ
group_size = 16

-- how many groups there can be
abbrev pub most_groups : ℕ
most_groups = 8

-- how many places for slots a session has, those of all groups that there can be; slots past those of the
-- groups that there are are never set
abbrev pub slot_count : ℕ
slot_count = 128

-- the group of a relation, of this many groups (in version 18 FAST_PATH_REL_GROUP in lock.c, which multiplies
-- the number first)
abbrev pub group_of_relation : ℕ → ℕ → ℕ
group_of_relation groups relation = relation % groups

-- the place of a group's slot
abbrev pub place_in_group : ℕ → ℕ → ℕ
place_in_group group slot = group_size * group + slot

-- whether a relation's holds may be in the slot at this place: in the relation's group alone
abbrev pub may_use : ℕ → ℕ → ℕ → Bool
may_use groups relation place = place / group_size == group_of_relation groups relation

-- whether some number below the limit passes
unfoldable pub any_below : ℕ → (ℕ → Bool) → Bool
any_below zero test = false
any_below (suc limit) test = any_below limit test || test limit

-- the holds that a session with this database and these slots has by the fast path
abbrev pub slot_holds : ℕ → (ℕ → ℕ) → Tag → Mode → Bool
slot_holds database slot tag mode =
    is_eligible_for database tag mode && any_below slot_count (λ place. shows (slot place) (relation_of tag) mode)

-- Each mode that the one slots show, the others show at the same place.
abbrev pub ShowsNoMore : (ℕ → ℕ) → (ℕ → ℕ) → Type 0
ShowsNoMore slot before =
    (place relation : ℕ) (mode : Mode) → place < slot_count
    → shows (slot place) relation mode ≡ true → shows (before place) relation mode ≡ true

-- how many of a group's slots are in use (of slots as their session remembers them, FastPathLocalUseCount in
-- lock.c, in version 18 FastPathLocalUseCounts)
abbrev pub used_in : ℕ → (ℕ → ℕ) → ℕ
used_in group slot = how_many group_size (λ k. in_use (slot (place_in_group group k)))

-- The hold is in this slot, where it is found and cleared (FastPathUnGrantRelationLock in lock.c).
pub record IsHeldIn (database : ℕ) (slot : ℕ → ℕ) (tag : Tag) (mode : Mode) (place : ℕ) : Type 0 where
  pub eligible : is_eligible_for database tag mode ≡ true
  pub within : place < slot_count
  pub shown : shows (slot place) (relation_of tag) mode ≡ true

-- whether the slot with this word is in use for the relation
abbrev pub is_slot_of : ℕ → ℕ → Bool
is_slot_of word relation = in_use word && (relation_in word == relation)

-- No two slots are in use for one relation.
abbrev pub OneSlotEach : (ℕ → ℕ) → Type 0
OneSlotEach slot =
    (relation place other : ℕ) → place < slot_count → other < slot_count
    → is_slot_of (slot place) relation ≡ true → is_slot_of (slot other) relation ≡ true → place ≡ other

-- A slot in use is of its relation's group.
abbrev pub AreInGroups : ℕ → (ℕ → ℕ) → Type 0
AreInGroups groups slot =
    (place : ℕ) → place < slot_count → in_use (slot place) ≡ true → may_use groups (relation_in (slot place)) place ≡ true

-- No slot is in use.
abbrev pub NoSlotInUse : (ℕ → ℕ) → Type 0
NoSlotInUse slot = (place : ℕ) → place < slot_count → in_use (slot place) ≡ false

-- A session with a slot in use has a database.
abbrev pub InUseHasDatabase : ℕ → (ℕ → ℕ) → Type 0
InUseHasDatabase database slot = (place : ℕ) → place < slot_count → in_use (slot place) ≡ true → database ≢ 0

-- The slot that a grant takes, in the relation's group: the one in use for the relation, or one not in use
-- where the group has none for it (FastPathGrantRelationLock in lock.c).
pub record IsSlotToGrant (groups : ℕ) (slot : ℕ → ℕ) (relation place : ℕ) : Type 0 where
  pub within : place < slot_count
  pub usable : may_use groups relation place ≡ true
  pub its_or_unused :
      (is_slot_of (slot place) relation ≡ true)
      ⊎ ((in_use (slot place) ≡ false)
      × ((other : ℕ) → other < slot_count → may_use groups relation other ≡ true → is_slot_of (slot other) relation ≡ false))
