use Rattle.std.specs.Prelude.{◌≡◌, ◌≢◌, ℕ, ◌+◌, ◌-◌, ◌*◌, ◌/◌, ◌%◌, ◌^◌, ◌<◌, ◌≤◌, Bool, true, false, not, ◌&&◌, ◌==◌, List, map, filter_map, length, min, Option, Some, None, IfSome, ◌⊎◌, ⊤, slice_index_or, if◌then◌else◌}
use Rattle.std.specs.Option.{option_map}
use Rattle.modes_core.specs.declared.modes.Mode.{Mode}
use Rattle.modes_core.specs.declared.tags.Tag.{Tag}
use Rattle.modes_core.specs.declared.tags.Tag.TheVariants.{Relation, Object, Advisory}
use Rattle.modes_core.specs.declared.modes.Mode.TheVariants.{AccessShare}
use Rattle.modes_core.specs.Mode.{number_of, mode_eq}
use Rattle.modes_core.specs.Tag.{tag_eq}
use Rattle.place_index.specs.Notes.{Notes, times, no_place}
use Rattle.local_locks.specs.declared.looks.Glance.{Glance}
use Rattle.local_locks.specs.declared.looks.Glance.TheVariants.{Nothing, Place, Unknown}
use Rattle.local_locks.specs.declared.records.Entry.{Entry}
use Rattle.local_locks.specs.declared.ends.Progress.{Progress}
use Rattle.local_locks.specs.declared.ends.End.{End}
use Rattle.local_locks.specs.declared.ends.End.TheVariants.{Commit, Abort, Close, Inner}
use Rattle.local_locks.specs.Owned.{count_in_all, entries_but, entry_for, is_of, is_ended, after_end, IsCounted}

-- How the entries are kept: in slots in the order of making, where a slot whose entry is gone is empty, with
-- an index from the hash of object and mode to the slot's place. An empty slot has an entry with both counts
-- 0.
abbrev pub Slots : Type 0
Slots = List (Option Entry)

-- what is in a slot
abbrev pub entry_in : Entry → Option Entry
entry_in slot = if count_in_all slot == 0 then None else Some slot

-- what is in each of these slots
abbrev pub opened : List Entry → Slots
opened slots = map entry_in slots

-- what the slot at a place has; no slot is past the end
abbrev pub slot_at : Slots → ℕ → Option Entry
slot_at slots place = slice_index_or slots place None

-- the entries, in the order of making
abbrev pub present : Slots → List Entry
present slots = filter_map (λ slot. slot) slots

-- whether a key is this object and mode
abbrev pub is_key : Tag → Mode → Tag × Mode → Bool
is_key tag mode key = tag_eq tag key.0 && mode_eq mode key.1

-- what the numbers of an object and mode are multiplied by
abbrev pub multiplier : ℕ
multiplier = 7640891575521212857

-- a database and a number in it as one number
abbrev pub pair_bits : ℕ → ℕ → ℕ
pair_bits database number = number * 2 ^ 32 + database

-- an object in 64 bits
abbrev pub object_bits : Tag → ℕ
object_bits (Relation database relation) = pair_bits database relation
object_bits (Object sub_object database class object) =
    ((class * 2 ^ 16 + sub_object) * multiplier % 2 ^ 64 + pair_bits database object) % 2 ^ 64
object_bits (Advisory sub database key1 key2) =
    ((key1 * 2 ^ 16 + sub) * multiplier % 2 ^ 64 + pair_bits database key2) % 2 ^ 64

-- the hash of an object in 64 bits and a mode: the upper half of a product
unfoldable pub hash_of : ℕ → Mode → ℕ
hash_of object mode = (object + (number_of mode - 1)) % 2 ^ 64 * multiplier % 2 ^ 64 / 2 ^ 32

-- the hash of an object and mode
abbrev pub key_hash : Tag → Mode → ℕ
key_hash tag mode = hash_of (object_bits tag) mode

-- the object and mode of the entry at a place
abbrev pub key_at : Slots → ℕ → Option (Tag × Mode)
key_at slots place = option_map (λ entry. (entry.tag, entry.mode)) (slot_at slots place)

-- how often the place of an object and mode is noted under a hash
abbrev pub times_of : Tag × Mode → ℕ → ℕ
times_of key hash = if hash == key_hash key.0 key.1 then 1 else 0

-- each object and mode is there once
abbrev pub IsOnce : Slots → Type 0
IsOnce slots = (i j : ℕ) (key : Tag × Mode) → key_at slots i ≡ Some key → key_at slots j ≡ Some key → i ≡ j

-- The index has the place of each entry under its hash alone, and no place past the slots. An end may have
-- left notes of empty slots. Each object and mode is there once.
pub record IsIndexed (slots : Slots) (index : Notes) : Type 0 where
  pub noted : (hash place : ℕ) (key : Tag × Mode) → key_at slots place ≡ Some key → times index hash place ≡ times_of key hash
  pub within : (hash place : ℕ) → length slots ≤ place → times index hash place ≡ 0
  pub once : IsOnce slots

-- the slot at a place; past the end it is a blank one
abbrev pub entry_at : List Entry → ℕ → Entry
entry_at slots place = slice_index_or slots place (record { tag = Relation 0 0; mode = AccessShare; transaction = 0; session = 0 })

-- whether the slot at a place is of this object and mode and has a count
abbrev pub is_held_as : Tag → Mode → Entry → Bool
is_held_as tag mode slot = is_of tag mode slot && not (count_in_all slot == 0)

-- the slots are few enough that each place can be noted, and none is empty
pub record IsFull (slots : List Entry) : Type 0 where
  pub few : length slots ≤ no_place
  pub held : (place : ℕ) → place < length slots → slot_at (opened slots) place ≡ Some (entry_at slots place)

-- the entry of the object and mode is at this place
pub record IsPlaceOf (slots : List Entry) (tag : Tag) (mode : Mode) (place : ℕ) : Type 0 where
  pub within : place < length slots
  pub there : slot_at (opened slots) place ≡ Some (entry_at slots place)
  pub own : is_of tag mode (entry_at slots place) ≡ true
  pub found : entry_for (present (opened slots)) tag mode ≡ Some (entry_at slots place)

-- what a look finds
abbrev pub IsSpot : List Entry → Tag → Mode → Option ℕ → Type 0
IsSpot slots tag mode (Some place) = IsPlaceOf slots tag mode place
IsSpot slots tag mode None = entry_for (present (opened slots)) tag mode ≡ None

-- What a glance at the index shows of an object and mode: that it has no entry, or the place of its slot,
-- which may be empty.
abbrev pub IsGlance : List Entry → Tag → Mode → Glance → Type 0
IsGlance slots tag mode Nothing = entry_for (present (opened slots)) tag mode ≡ None
IsGlance slots tag mode (Place place) = (place < length slots) × (is_of tag mode (entry_at slots place) ≡ true)
IsGlance slots tag mode Unknown = ⊤

-- How many of this many slots stay where an entry at a place goes: all, or all but the last one, which was
-- its slot, or some number of which nothing is asked where no note is left.
abbrev pub IsCut : ℕ → ℕ → ℕ → ℕ → Type 0
IsCut slots notes place used = (used ≡ slots) ⊎ (((used ≡ place) × (place + 1 ≡ slots)) ⊎ (notes ≡ 0))

-- The entry at a place is gone, and no other. Empty slots at the end may have gone with it.
pub record IsTakenOut (old new : List Entry) (place : ℕ) : Type 0 where
  pub entries : present (opened new) ≡ entries_but (present (opened old)) (entry_at old place).tag (entry_at old place).mode
  pub number : length (present (opened old)) ≡ length (present (opened new)) + 1
  pub gone : slot_at (opened new) place ≡ None
  pub others : (k : ℕ) → k ≢ place → slot_at (opened new) k ≡ slot_at (opened old) k
  pub shorter : length new ≤ length old

-- The end has nothing to do before this place: it keeps each entry there, with its counts.
abbrev pub IsPast : End → Slots → ℕ → Type 0
IsPast end slots past =
    (place : ℕ) → place < past → IfSome (slot_at slots place) (λ entry. (is_ended end entry ≡ false) × (after_end end entry ≡ entry))

-- the number of an end
abbrev pub number_of_end : End → ℕ
number_of_end Commit = 0
number_of_end Abort = 1
number_of_end Close = 2
number_of_end Inner = 3

-- how far an end has come: nowhere, unless it took the last step
abbrev pub reached : End → Progress → ℕ
reached end progress = if number_of_end progress.end == number_of_end end then progress.place else 0

-- the progress of an end that has come to this place
abbrev pub came_to : End → ℕ → Progress
came_to end place = record { end = end; place = place }

-- no end is past this place
abbrev pub back_to : ℕ → Progress → Progress
back_to place progress = record progress { place = min progress.place place }

-- an end that has not begun
abbrev pub at_start : Progress
at_start = came_to Commit 0

-- What a table keeps: each entry is in the index and counted, their number is known and not above the limit,
-- and no end has anything to do before the place that it has come to.
pub record IsKept (slots : Slots) (index : Notes) (len max_local : ℕ) (progress : Progress) : Type 0 where
  pub indexed : IsIndexed slots index
  pub counted : (place : ℕ) (entry : Entry) → slot_at slots place ≡ Some entry → IsCounted entry
  pub number : len ≡ length (present slots)
  pub within : len ≤ max_local
  pub past : (end : End) → IsPast end slots (reached end progress)

-- What a local table keeps: all of `IsKept`, and its slots are few enough that each place can be noted.
pub record IsTable (slots : List Entry) (index : Notes) (len max_local : ℕ) (progress : Progress) : Type 0 where
  pub kept : IsKept (opened slots) index len max_local progress
  pub few : length slots ≤ no_place
