use Rattle.std.specs.Prelude.{◌≡◌, ◌≢◌, ◌⊎◌, ℕ, zero, suc, ◌-◌, ◌≤◌, ◌<◌, List, [], ◌∷◌, ◌++◌, ◌==◌, length, take, min, Option, Some, None, slice_index_or, if◌then◌else◌}
use Rattle.std.specs.Option.{option_map}
use Rattle.modes_core.specs.declared.sessions.Owner.{Owner}
use Rattle.modes_core.specs.declared.sessions.Owner.TheVariants.{Session, Transaction}
use Rattle.local_locks.specs.declared.records.Entry.{Entry}
use Rattle.local_locks.specs.Owned.{max_count}
use Rattle.place_index.specs.Notes.{Notes, no_place}
use Rattle.local_locks.specs.declared.ends.Progress.{Progress}
use Rattle.local_locks.specs.Slots.{Slots, slot_at, opened, IsTable}

-- How levels are kept: beside each slot stands a list of what the transaction had of the entry when each
-- inner level began, the first one first, up to the last level that has counted the entry. A later one began
-- with what the entry has now.

-- The lists beside all slots.
abbrev pub Rows : Type 0
Rows = List (List ℕ)

-- the list beside a slot
abbrev pub row_at : Rows → ℕ → List ℕ
row_at rows place = slice_index_or rows place []

-- what the transaction had of an entry with this list when an inner level began, where it has this many now
abbrev pub had_in : List ℕ → ℕ → ℕ → ℕ
had_in row level now = slice_index_or row level now

-- how often an owner can give back an entry with this list, where this many inner levels have begun
abbrev pub own_count_in : ℕ → List ℕ → Owner → Entry → ℕ
own_count_in depth row Session entry = entry.session
own_count_in zero row Transaction entry = entry.transaction
own_count_in (suc level) row Transaction entry = entry.transaction - had_in row level entry.transaction

-- how often one level has such an entry
abbrev pub level_count_in : List ℕ → ℕ → Entry → ℕ
level_count_in row zero entry = 0
level_count_in row (suc zero) entry = had_in row 0 entry.transaction
level_count_in row (suc (suc level)) entry = had_in row (suc level) entry.transaction - had_in row level entry.transaction

-- what the slot with this list shows of the transaction when a level began
abbrev pub told : ℕ → List ℕ → Option Entry → List Entry
told level row None = []
told level row (Some entry) =
    if had_in row level entry.transaction == 0 then []
    else record entry { transaction = had_in row level entry.transaction; session = 0 } ∷ []

-- what the transaction had when an inner level began
abbrev pub had : ℕ → Slots → (ℕ → List ℕ) → List Entry
had level [] rows = []
had level (slot ∷ slots) rows = told level (rows zero) slot ++ had level slots (λ place. rows (suc place))

-- what the transaction had when each of the inner levels began that have begun
abbrev pub outer_of : ℕ → Slots → (ℕ → List ℕ) → List (List Entry)
outer_of zero slots rows = []
outer_of (suc level) slots rows = outer_of level slots rows ++ had level slots rows ∷ []

-- What holds of the lists where this many inner levels have begun. Before the place `touched` the innermost
-- of these levels has counted nothing.
pub record IsLeveled (slots : Slots) (rows : Rows) (depth touched : ℕ) : Type 0 where
  pub few : depth ≤ 15
  pub within : (place : ℕ) → length (row_at rows place) ≤ depth
  pub untouched : (place : ℕ) → place < touched → length (row_at rows place) ≤ depth - 1
  pub empty : (place : ℕ) → slot_at slots place ≡ None → row_at rows place ≡ []
  pub rising : (place : ℕ) (entry : Entry) → slot_at slots place ≡ Some entry →
      (level : ℕ) → had_in (row_at rows place) level entry.transaction ≤ had_in (row_at rows place) (suc level) entry.transaction

-- ---- entries that move, and ends

-- Beside a slot that has no entry the list is empty.
abbrev pub AreEmpty : Slots → Rows → Type 0
AreEmpty slots rows = (place : ℕ) → slot_at slots place ≡ None → row_at rows place ≡ []

-- Each entry has come from a slot, and its list from there with it; other lists are empty.
pub record AreMoved (slots : Slots) (rows : Rows) (new_slots : Slots) (new_rows : Rows) : Type 0 where
  pub number : length new_rows ≡ length rows
  pub from : (place : ℕ) (entry : Entry) → slot_at new_slots place ≡ Some entry →
      (old_place : ℕ) × (slot_at slots old_place ≡ Some entry) × (row_at new_rows place ≡ row_at rows old_place)
  pub empty : AreEmpty new_slots new_rows

-- what the end of an inner level leaves of an entry with this list
abbrev pub without_level : ℕ → List ℕ → Entry → Entry
without_level level row entry = record entry { transaction = had_in row level entry.transaction }

-- The end of this inner level, the innermost, has left each entry before a place what it leaves, and forgot
-- the level there.
pub record AreSettled (level : ℕ) (slots : Slots) (rows : Rows) (new_slots : Slots) (new_rows : Rows) (place : ℕ) : Type 0 where
  pub number : length new_slots ≡ length slots
  pub lists : length new_rows ≡ length rows
  pub settled : (k : ℕ) → k < place →
      slot_at new_slots k ≡ option_map (without_level level (row_at rows k)) (slot_at slots k)
  pub cut : (k : ℕ) → k < place → row_at new_rows k ≡ take level (row_at rows k)
  pub others : (k : ℕ) → place ≤ k → slot_at new_slots k ≡ slot_at slots k
  pub other_lists : (k : ℕ) → place ≤ k → row_at new_rows k ≡ row_at rows k

-- ---- a table with its levels

-- In the first level a count is raised at once up to the limit. In an inner one none is, and no slot is
-- looked at first.
abbrev pub IsPaced : ℕ → ℕ → ℕ → Type 0
IsPaced depth at_once hint = ((depth ≡ 0) × (at_once ≡ max_count)) ⊎ ((depth ≢ 0) × (at_once ≡ 0) × (no_place ≤ hint))

-- There is a list for each slot, and for each that can be made with no growth.
pub record IsLeveledTable
    (slots : List Entry) (capacity : ℕ) (index : Notes) (len max_local : ℕ) (progress : Progress) (rows : Rows)
    (depth touched : ℕ) : Type 0 where
  pub table : IsTable slots index len max_local progress
  pub leveled : IsLeveled (opened slots) rows depth touched
  pub lists : length slots ≤ length rows
  pub enough : min (min capacity no_place) index.places ≤ length rows
