use Rattle.std.specs.Prelude.{◌≡◌, ◌≢◌, ℕ, ◌<◌, ◌≤◌, ◌%◌, ◌^◌, zero, suc, List, [], ◌∷◌, ◌++◌, Result, OnOk, OnErr, ◌==◌, ◌&&◌, count_by, if◌then◌else◌}
use Rattle.modes_core.specs.declared.modes.Mode.{Mode}
use Rattle.modes_core.specs.declared.modes.Mode.TheVariants.{AccessShare, RowShare, RowExclusive}
use Rattle.modes_core.specs.declared.tags.Tag.{Tag}
use Rattle.modes_core.specs.declared.tags.Tag.TheVariants.{Relation}
use Rattle.modes_core.specs.Mode.{mode_eq}
use Rattle.modes_core.specs.Tag.{tag_eq}
use Rattle.lw_word.specs.SlotWord.{relation_in, has_mode}
use Rattle.lock_table.specs.declared.no_memory.NoMemory.{NoMemory}
use Rattle.lock_table.specs.declared.rows.SlotRow.{SlotRow}
use Rattle.lock_world.specs.declared.events.Word.TheVariants.{Database}
use Rattle.lock_world.specs.SlotHolds.{slot_count, slot_holds, ShowsNoMore}
use Rattle.lock_world.specs.World.{TraceEntry, Loaded}
use Rattle.lock_world.specs.Account.{Account, SlotsInHand}
use Rattle.lock_world.specs.AccountFacts.{KnowsSlots}
use Rattle.fast_path.specs.Slots.{all_loads}

-- What sessions' slots show, as rows of a listing: by session, by slot, by mode.

-- the database that a session's word shows
abbrev pub database_in : ℕ → ℕ
database_in shown = shown % 2 ^ 32

-- the row of a mode, if the slot's word has it
abbrev pub mode_row : ℕ → ℕ → ℕ → ℕ → Mode → List SlotRow
mode_row session database slot word mode =
    if has_mode word mode
    then (record { session = session; slot = slot; tag = Relation database (relation_in word); mode = mode }) ∷ []
    else []

-- the rows of a slot: there are bits for three modes
abbrev pub rows_of_slot : ℕ → ℕ → ℕ → ℕ → List SlotRow
rows_of_slot session database slot word =
    mode_row session database slot word AccessShare
    ++ (mode_row session database slot word RowShare ++ mode_row session database slot word RowExclusive)

-- the lists of rows with numbers below this one, one after another
unfoldable pub rows_below : ℕ → (ℕ → List SlotRow) → List SlotRow
rows_below zero rows = []
rows_below (suc limit) rows = rows_below limit rows ++ rows limit

-- the rows of a session's slots, with this database and these words: those past its groups are never in use
abbrev pub rows_of_session : ℕ → ℕ → (ℕ → ℕ) → List SlotRow
rows_of_session session database word =
    rows_below slot_count (λ slot. rows_of_slot session database slot (word slot))

-- the rows of all sessions below the limit, by what their words show
abbrev pub rows_of_all : ℕ → (ℕ → ℕ) → (ℕ → ℕ → ℕ) → List SlotRow
rows_of_all limit database word =
    rows_below limit (λ session. rows_of_session session (database_in (database session)) (word session))

-- how many of the rows are of this hold
abbrev pub times_shown : List SlotRow → ℕ → Tag → Mode → ℕ
times_shown rows session tag mode =
    count_by (λ row. (row.session == session) && (tag_eq row.tag tag && mode_eq row.mode mode)) rows

-- the loads by which all rows are found: of each session below the limit the database, and then the words of
-- its groups' slots
unfoldable pub loads_of_all : ℕ → ℕ → (ℕ → ℕ) → (ℕ → ℕ → ℕ) → List TraceEntry
loads_of_all groups zero database word = []
loads_of_all groups (suc session) database word =
    loads_of_all groups session database word
    ++ Loaded (Database session) (database session) ∷ all_loads groups session (word session)

-- A session's slots as the session of this number, which shares their lock, loads them: these are their
-- words, and with this database, which of its own slots is its own, they show what is held by them.
pub record ReadsSlots (groups number : ℕ) (a : Account) (session database : ℕ) (word : ℕ → ℕ) : Type 0 where
  pub slots : SlotsInHand
  pub knows : KnowsSlots groups number a session slots
  pub words : slots.word ≡ word
  pub holds : slots.holds ≡ slot_holds database word
  pub own_database : session ≡ number → database ≡ a.fast.database

-- The rows of all sessions stand behind what the list had, and nothing else has changed but the trace, which
-- has the loads that they tell of, and what the session remembers of its own slots: from its own turn on that
-- is what it loaded there, which is no more than before. The lock of each session's slots is shared while
-- they are loaded. Where memory ran out the list is as before, and sessions were loaded up to some number.
pub record ListsSlots (groups number limit : ℕ) (a : Account) (before : List SlotRow)
    (result : Result (Unit {0}) NoMemory) (after : List SlotRow) (b : Account) : Type 0 where
  pub database : ℕ → ℕ
  pub word : ℕ → ℕ → ℕ
  pub listed : OnOk result (after ≡ before ++ rows_of_all limit database word)
  pub kept : OnErr result (after ≡ before)
  pub loaded : ℕ
  pub within : loaded ≤ limit
  pub all_loaded : OnOk result (loaded ≡ limit)
  pub shared : (session : ℕ) → session < loaded → ReadsSlots groups number a session (database session) (word session)
  pub own : number < loaded → b.fast.remembered ≡ word number
  pub no_more : ShowsNoMore b.fast.remembered a.fast.remembered
  pub account : b ≡ record a {
    fast = record (a.fast) { remembered = b.fast.remembered };
    trace = a.trace ++ loads_of_all groups loaded database word;
  }

-- The rows of one session join the list, as far as memory goes.
pub record ListsSession (groups number : ℕ) (a : Account) (owner : ℕ) (before : List SlotRow)
    (result : Result (Unit {0}) NoMemory) (after : List SlotRow) (b : Account) : Type 0 where
  pub shown : ℕ
  pub word : ℕ → ℕ
  pub shared : ReadsSlots groups number a owner shown word
  pub own : owner ≡ number → b.fast.remembered ≡ word
  pub of_another : owner ≢ number → b.fast.remembered ≡ a.fast.remembered
  pub listed : OnOk result (after ≡ before ++ rows_of_session owner (database_in shown) word)
  pub no_more : ShowsNoMore b.fast.remembered a.fast.remembered
  pub account : b ≡ record a {
    fast = record (a.fast) { remembered = b.fast.remembered };
    trace = a.trace ++ Loaded (Database owner) shown ∷ all_loads groups owner word;
  }

-- The one list begins with the other.
abbrev pub BeginsWith : List SlotRow → List SlotRow → Type 0
BeginsWith before after = (added : List SlotRow) × (after ≡ before ++ added)
