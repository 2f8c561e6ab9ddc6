use Rattle.std.specs.Prelude.{◌≡◌, ◌⊎◌, ℕ, zero, suc, ◌+◌, ◌-◌, ◌*◌, ◌<◌, ◌≤◌, Bool, false, not, ◌&&◌, ◌==◌, List, [], ◌∷◌, ◌++◌, map, filter, find, length, take, All, Option, is_some, slice_index_or, if◌then◌else◌}
use Rattle.std.specs.Option.{option_map_or}
use Rattle.std.specs.List.{IsDistinct}
use Rattle.modes_core.specs.declared.modes.Mode.{Mode}
use Rattle.modes_core.specs.declared.tags.Tag.{Tag}
use Rattle.modes_core.specs.declared.sessions.Owner.{Owner}
use Rattle.modes_core.specs.declared.sessions.Owner.TheVariants.{Session, Transaction}
use Rattle.modes_core.specs.Mode.{mode_eq}
use Rattle.modes_core.specs.declared.tags.LockMethod.{LockMethod}
use Rattle.modes_core.specs.declared.tags.LockMethod.TheVariants.{Default, User}
use Rattle.modes_core.specs.Tag.{tag_eq, method_of}
use Rattle.local_locks.specs.declared.answers.Acquired.{Acquired}
use Rattle.local_locks.specs.declared.answers.Acquired.TheVariants.{Granted, AlreadyHeld}
use Rattle.local_locks.specs.declared.ends.End.{End}
use Rattle.local_locks.specs.declared.ends.End.TheVariants.{Commit, Abort, Close, Inner}
use Rattle.local_locks.specs.declared.records.Entry.{Entry}

-- What a session owns: its entries in the order of making, how many more entries can be made with no growth,
-- for how many there are slots, used up or not, and how many it may have. A transaction has levels, each
-- begun within the one before it. An entry's count for the transaction is the sum over all of them; `outer`
-- tells them apart: for each level but the innermost, the first one first, what it and those before it have
-- together, as entries with no session's count.
pub record Owned : Type 0 where
  pub entries : List Entry
  pub outer : List (List Entry)
  pub room : ℕ
  pub slots : ℕ
  pub max_local : ℕ

-- how often an owner can acquire a mode
abbrev pub max_count : ℕ
max_count = 65535

-- ---- one entry

-- whether the entry is of this object and mode
abbrev pub is_of : Tag → Mode → Entry → Bool
is_of tag mode entry = tag_eq entry.tag tag && mode_eq entry.mode mode

-- the count of an owner
abbrev pub count_for : Owner → Entry → ℕ
count_for Session entry = entry.session
count_for Transaction entry = entry.transaction

-- the sum of the counts
abbrev pub count_in_all : Entry → ℕ
count_in_all entry = entry.transaction + entry.session

-- the entry with one more count of this owner
abbrev pub raised : Owner → Entry → Entry
raised Session entry = record entry { session = entry.session + 1 }
raised Transaction entry = record entry { transaction = entry.transaction + 1 }

-- the entry with one count less of this owner
abbrev pub lowered : Owner → Entry → Entry
lowered Session entry = record entry { session = entry.session - 1 }
lowered Transaction entry = record entry { transaction = entry.transaction - 1 }

-- the entry of a first acquire
abbrev pub new_entry : Tag → Mode → Owner → Entry
new_entry tag mode owner = raised owner (record { tag = tag; mode = mode; transaction = 0; session = 0 })

-- ---- what is owned

-- the entry of an object and mode
abbrev pub entry_for : List Entry → Tag → Mode → Option Entry
entry_for entries tag mode = find (is_of tag mode) entries

-- whether the session has the object in the mode
abbrev pub has_entry : List Entry → Tag → Mode → Bool
has_entry entries tag mode = is_some (entry_for entries tag mode)

-- how often an owner has the object in the mode, the transaction in all of its levels
abbrev pub owner_count_of : List Entry → Tag → Mode → Owner → ℕ
owner_count_of entries tag mode owner = option_map_or (count_for owner) (entry_for entries tag mode) 0

-- how often both owners together have the object in the mode, in all levels
abbrev pub total_of : List Entry → Tag → Mode → ℕ
total_of entries tag mode = option_map_or count_in_all (entry_for entries tag mode) 0

-- ---- levels

-- how many levels a transaction can have
abbrev pub max_level : ℕ
max_level = 16

-- the level of the transaction: 1, and one more for each that was begun within it and has not ended
abbrev pub level_of : Owned → ℕ
level_of owned = suc (length owned.outer)

-- what the transaction has, in all levels together
abbrev pub of_transaction : List Entry → List Entry
of_transaction entries =
    filter (λ entry. not (entry.transaction == 0)) (map {A = Entry} {B = Entry} (λ entry. record entry { session = 0 }) entries)

-- how often the levels up to this one have an object and mode together
abbrev pub count_up_to : Owned → ℕ → Tag → Mode → ℕ
count_up_to owned zero tag mode = 0
count_up_to owned (suc level) tag mode = owner_count_of (slice_index_or owned.outer level owned.entries) tag mode Transaction

-- how often one level has an object and mode
abbrev pub level_count_of : Owned → Tag → Mode → ℕ → ℕ
level_count_of owned tag mode zero = 0
level_count_of owned tag mode (suc level) = count_up_to owned (suc level) tag mode - count_up_to owned level tag mode

-- How often an owner can give an object and mode back: the session what it has, and the transaction what its
-- innermost level has.
abbrev pub own_count_of : Owned → Tag → Mode → Owner → ℕ
own_count_of owned tag mode Session = owner_count_of owned.entries tag mode Session
own_count_of owned tag mode Transaction = level_count_of owned tag mode (level_of owned)

-- the entries without what the innermost level has
abbrev pub without_innermost : Owned → List Entry
without_innermost owned =
    map {A = Entry} {B = Entry} (λ entry. record entry { transaction = count_up_to owned (length owned.outer) entry.tag entry.mode })
    owned.entries

-- ---- what changes

-- the entries with this change made to the one of the object and mode
abbrev pub change : (Entry → Entry) → List Entry → Tag → Mode → List Entry
change f entries tag mode = map (λ entry. if is_of tag mode entry then f entry else entry) entries

-- the entries without the one of the object and mode
abbrev pub entries_but : List Entry → Tag → Mode → List Entry
entries_but entries tag mode = filter (λ entry. not (is_of tag mode entry)) entries

-- the entries after one acquire: the owner's count is raised, in a new last entry if there was none
abbrev pub with_one_more : List Entry → Tag → Mode → Owner → List Entry
with_one_more entries tag mode owner =
    if has_entry entries tag mode then change (raised owner) entries tag mode else entries ++ new_entry tag mode owner ∷ []

-- the entries after one release: the owner's count is lowered, and an entry whose total was 1 is gone
abbrev pub with_one_less : List Entry → Tag → Mode → Owner → List Entry
with_one_less entries tag mode owner =
    if total_of entries tag mode == 1 then entries_but entries tag mode else change (lowered owner) entries tag mode

-- how an acquire is answered
abbrev pub acquired_as : List Entry → Tag → Mode → Acquired
acquired_as entries tag mode = if has_entry entries tag mode then AlreadyHeld else Granted

-- ---- the end of a transaction or of the session

-- What an abort leaves of the session's count: all of it in the user method, that of advisory locks, and
-- nothing in the default method.
abbrev pub kept_by_abort : LockMethod → ℕ → ℕ
kept_by_abort Default count = 0
kept_by_abort User count = count

-- The entries as an end finds them: that of the innermost level finds them without what this level has.
abbrev pub found_by : End → Owned → List Entry
found_by Inner owned = without_innermost owned
found_by end owned = owned.entries

-- what the end leaves of the counts of an entry that it finds
abbrev pub after_end : End → Entry → Entry
after_end Commit entry = record entry { transaction = 0 }
after_end Abort entry = record entry { transaction = 0; session = kept_by_abort (method_of entry.tag) entry.session }
after_end Close entry = record entry { transaction = 0; session = 0 }
after_end Inner entry = entry

-- whether the end takes the entry's total to 0
abbrev pub is_ended : End → Entry → Bool
is_ended end entry = count_in_all (after_end end entry) == 0

-- the objects and modes that the end takes away, in the order of making
abbrev pub ended_by : End → List Entry → List (Tag × Mode)
ended_by end entries = map (λ entry. (entry.tag, entry.mode)) (filter (is_ended end) entries)

-- the entries that outlive the end, with the counts that it leaves
abbrev pub left_by : End → List Entry → List Entry
left_by end entries = map (after_end end) (filter (λ entry. not (is_ended end entry)) entries)

-- The entries after one step of the end: the first one that the end takes away is gone, those before it have
-- the counts that the end leaves, and those after it are as they were.
abbrev pub with_next_ended : End → List Entry → List Entry
with_next_ended end [] = []
with_next_ended end (entry ∷ entries) =
    if is_ended end entry then entries else after_end end entry ∷ with_next_ended end entries

-- what is left of the outer levels: all but the last for the end of the innermost level, and none for that of
-- all
abbrev pub outer_after : End → List (List Entry) → List (List Entry)
outer_after Inner outer = take (length outer - 1) outer
outer_after end outer = []

-- ---- what is always so

-- whether two entries are of the same object and mode
abbrev pub are_of_same : Entry → Entry → Bool
are_of_same x y = is_of y.tag y.mode x

-- the entry has a count, and none above the limit
pub record IsCounted (entry : Entry) : Type 0 where
  pub some : 0 < count_in_all entry
  pub transaction : entry.transaction ≤ max_count
  pub session : entry.session ≤ max_count

-- Each object and mode is there once, none with all counts 0, and no more entries are there than may be. The
-- levels are not too many, and with each one more the transaction has no less.
pub record IsWellOwned (owned : Owned) : Type 0 where
  pub once : IsDistinct are_of_same owned.entries
  pub counted : All IsCounted owned.entries
  pub within : length owned.entries ≤ owned.max_local
  pub levels : level_of owned ≤ max_level
  pub rising : (tag : Tag) (mode : Mode) (level : ℕ) → count_up_to owned level tag mode ≤ count_up_to owned (suc level) tag mode

-- One more acquire of the object and mode by this owner can be entered: the count has room, and where there
-- is no entry yet one more may be made, and that with no growth.
pub record IsReserved (owned : Owned) (tag : Tag) (mode : Mode) (owner : Owner) : Type 0 where
  pub countable : owner_count_of owned.entries tag mode owner < max_count
  pub allowed : has_entry owned.entries tag mode ≡ false → length owned.entries < owned.max_local
  pub roomy : has_entry owned.entries tag mode ≡ false → 0 < owned.room

-- ---- growth

-- A table with this many slots may grow where it has these entries: more than half of the slots have one, if
-- there is a slot.
abbrev pub IsCrowded : ℕ → List Entry → Type 0
IsCrowded slots entries = (slots ≡ 0) ⊎ (slots < 2 * length entries)

-- One more entry takes memory: none can be made with no growth, and the table may grow.
pub record IsOutOfRoom (owned : Owned) : Type 0 where
  pub none : owned.room ≡ 0
  pub crowded : IsCrowded owned.slots owned.entries
