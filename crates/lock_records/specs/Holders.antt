use Rattle.std.specs.Prelude.{◌≡◌, ◌≢◌, ◌⊎◌, ℕ, ◌<◌, Bool, false, true, ◌&&◌, ◌==◌, List, [], ◌∷◌, length, Option, Some, None, slice_index_or}
use Rattle.std.specs.List.{list_any}
use Rattle.modes_core.specs.declared.modes.Mode.{Mode}
use Rattle.modes_core.specs.declared.tags.Tag.{Tag}
use Rattle.modes_core.specs.ModeSet.{set_has}
use Rattle.modes_core.specs.Tag.{tag_eq}
use Rattle.lock_table.specs.Content.{Holds, set_hold}
use Rattle.lock_records.specs.declared.holders.HolderRecord.{HolderRecord}
use Rattle.modes_core.specs.Sessions.{most_sessions}

-- The holder records of a partition, by their places.

-- the record at a place
abbrev pub holder_at : List (Option HolderRecord) → ℕ → Option HolderRecord
holder_at slots place = slice_index_or slots place None

-- whether a place has a record that shows the hold
abbrev pub slot_holds : ℕ → Tag → Mode → Option HolderRecord → Bool
slot_holds session tag mode None = false
slot_holds session tag mode (Some holder) = (session == holder.session) && (tag_eq tag holder.tag && set_has holder.modes mode)

-- the holds that the records show
unfoldable pub holds_in : List (Option HolderRecord) → Holds
holds_in slots session tag mode = list_any (slot_holds session tag mode) slots

-- The record at the place is the session's on the object.
pub record IsHolderAt (slots : List (Option HolderRecord)) (session : ℕ) (tag : Tag) (place : ℕ) : Type 0 where
  pub holder : HolderRecord
  pub there : holder_at slots place ≡ Some holder
  pub its : holder.session ≡ session
  pub on : holder.tag ≡ tag

-- The session has no record on the object.
abbrev pub HasNoHolder : List (Option HolderRecord) → ℕ → Tag → Type 0
HasNoHolder slots session tag = (place : ℕ) → IsHolderAt slots session tag place → ⊥

-- A session has one record on the object at most, and each record of the object has a mode.
pub record AreHolders (slots : List (Option HolderRecord)) (tag : Tag) : Type 0 where
  pub once : (session k j : ℕ) → IsHolderAt slots session tag k → IsHolderAt slots session tag j → k ≡ j
  pub below : (session k : ℕ) → IsHolderAt slots session tag k → session < most_sessions
  pub some : (session k : ℕ) → IsHolderAt slots session tag k → (mode : Mode) × (holds_in slots session tag mode ≡ true)

-- whether a number is in a list
abbrev pub IsIn : ℕ → List ℕ → Type 0
IsIn k [] = ⊥
IsIn k (x ∷ xs) = (k ≡ x) ⊎ IsIn k xs

-- The list is of places of the object's records, from this place on: each record notes the next place, and no
-- place comes twice.
abbrev pub IsChain : List (Option HolderRecord) → Tag → ℕ → List ℕ → Type 0
IsChain slots tag at [] = Unit {0}
IsChain slots tag at (k ∷ ks) =
    (at ≡ k) × (IsIn k ks → ⊥)
    × ((holder : HolderRecord) × (holder_at slots k ≡ Some holder) × (holder.tag ≡ tag) × IsChain slots tag holder.next ks)

-- The holder records of the object are in a chain of `count` records that begins at this place.
pub record IsHolderChain (slots : List (Option HolderRecord)) (tag : Tag) (first count : ℕ) : Type 0 where
  pub places : List ℕ
  pub linked : IsChain slots tag first places
  pub number : count ≡ length places
  pub all : (k : ℕ) (holder : HolderRecord) → holder_at slots k ≡ Some holder → holder.tag ≡ tag → IsIn k places

-- The records of other objects are the same ones.
pub record HasSameElse (old new : List (Option HolderRecord)) (tag : Tag) : Type 0 where
  pub kept : (k : ℕ) (holder : HolderRecord) → holder_at old k ≡ Some holder → holder.tag ≢ tag → holder_at new k ≡ Some holder
  pub no_more : (k : ℕ) (holder : HolderRecord) → holder_at new k ≡ Some holder → holder.tag ≢ tag → holder_at old k ≡ Some holder

-- A hold was set, and the records of other objects are the same ones.
pub record SetsHold (old new : List (Option HolderRecord)) (session : ℕ) (tag : Tag) (mode : Mode) (there : Bool) : Type 0 where
  pub same : HasSameElse old new tag
  pub holds : holds_in new ≡ set_hold (holds_in old) session tag mode there
  pub are : AreHolders new tag

-- The records of other sessions on the object have the modes that they had, wherever they stand.
abbrev pub HasModesOf : List (Option HolderRecord) → List (Option HolderRecord) → ℕ → Tag → Type 0
HasModesOf old new s t =
    (k j : ℕ) → k ≢ s → (i : IsHolderAt old k t j) → (place : ℕ) × (at : IsHolderAt new k t place) × (at.holder.modes ≡ i.holder.modes)

-- A session's record on an object is gone: the others have the modes that they had, each at one place.
pub record IsTaken (old new : List (Option HolderRecord)) (s : ℕ) (t : Tag) : Type 0 where
  pub same : HasSameElse old new t
  pub kept : HasModesOf old new s t
  pub was : HasModesOf new old s t
  pub gone : HasNoHolder new s t
  pub once : (k j l : ℕ) → IsHolderAt new k t j → IsHolderAt new k t l → j ≡ l
