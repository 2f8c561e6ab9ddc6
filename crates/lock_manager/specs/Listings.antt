use Rattle.std.specs.Prelude.{◌*◌, ◌≡◌, ◌⊎◌, ℕ, ◌<◌, ◌≤◌, ◌+◌, ◌^◌, Bool, true, false, List, [], ◌∷◌, ◌++◌, length, count_by}
use Rattle.std.specs.Prelude.{slice_get, Option, Some, None, Result, Err, IfOk, OnOk}
use Rattle.modes_core.specs.declared.modes.Mode.{Mode}
use Rattle.modes_core.specs.declared.tags.Tag.{Tag}
use Rattle.modes_core.specs.declared.tags.Tag.TheVariants.{Relation}
use Rattle.modes_core.specs.declared.refusals.Refusal.{Refusal}
use Rattle.modes_core.specs.declared.refusals.Refusal.TheVariants.{NoMemory}
use Rattle.modes_core.specs.Tag.{partition_of}
use Rattle.lock_table.specs.declared.no_memory.NoMemory as no_memory
use Rattle.lock_table.specs.declared.rows.TableRow.{TableRow}
use Rattle.lock_table.specs.Content.{Content}
use Rattle.lock_table.specs.Listing.{row_eq, IsListing}
use Rattle.lock_table.specs.Queue.{waits_there}
use Rattle.lock_table.specs.WholeContent.{whole_of, content_at, times_had, AreOfPartitions}
use Rattle.lock_table.specs.OwnWait.{OwnWait, is_for}
use Rattle.lock_world.specs.declared.events.Event.{Event}
use Rattle.lock_world.specs.Account.{Account}
use Rattle.lock_world.specs.AccountFacts.{OwnHoldsStand}
use Rattle.lock_world.specs.Happens.{RunsThrough, last_of}
use Rattle.lock_world.specs.Listing.{StandsThereOrInContent}
use Rattle.lock_world.specs.SafeWorld.{SafeWorld}
use Rattle.lock_world.specs.SlotHolds.{group_size, slot_count, slot_holds, OneSlotEach, AreInGroups}
use Rattle.lock_world.specs.World.{World, TraceEntry, Took, Episode}
use Rattle.fast_path.specs.Rows.{rows_of_all, loads_of_all, times_shown}
use Rattle.lock_manager.specs.declared.listing.Listing.{Listing}

-- A listing of all that is held and awaited, as the session's trace has it.

-- the steps of taking the partitions from this one on, in rising order, and of putting them back as they
-- were, in the opposite order
abbrev pub listing_steps : ℕ → List Content → List TraceEntry
listing_steps partition [] = []
listing_steps partition (content ∷ contents) =
    Took partition content ∷ listing_steps (partition + 1) contents ++ Episode partition content content ∷ []

-- What the session that takes a partition knows there of itself: where its own holds stand, with its slots as
-- it remembers them; that its holds there are its own, or what it awaits; and that it stands in no queue
-- where it awaits nothing.
pub record IsOfCaller (number : ℕ) (own : Tag → Mode → Bool) (awaited : Option OwnWait) (database : ℕ) (remembered : ℕ → ℕ)
    (partition : ℕ) (content : Content) : Type 0 where
  pub stand : OwnHoldsStand number own database remembered partition content
  pub its_holds :
      (tag : Tag) (mode : Mode) → content.holds number tag mode ≡ true → (own tag mode ≡ true) ⊎ (is_for awaited tag mode ≡ true)
  pub no_wait : (tag : Tag) → awaited ≡ None → waits_there (content.waits tag) number ≡ false

-- What the session that takes the partitions from one on knows there of itself.
abbrev pub AreOfCaller : ℕ → (Tag → Mode → Bool) → Option OwnWait → ℕ → (ℕ → ℕ) → ℕ → List Content → Type 0
AreOfCaller number own awaited database remembered partition [] = Unit {0}
AreOfCaller number own awaited database remembered partition (content ∷ contents) =
    IsOfCaller number own awaited database remembered partition content
    × AreOfCaller number own awaited database remembered (partition + 1) contents

-- All sixteen partitions are taken, in rising order, and put back as they were, in the opposite order. While
-- all are in hand their contents stand side by side, and the rows list these.
pub record ListsTable (number : ℕ) (a : Account) (result : Result (Unit {0}) no_memory.NoMemory) (rows : List TableRow)
    (b : Account) : Type 0 where
  pub contents : List Content
  pub sixteen : length contents ≡ 16
  pub of_caller : AreOfCaller number a.own a.awaited a.fast.database a.fast.remembered 0 contents
  pub trace : b.trace ≡ a.trace ++ listing_steps 0 contents
  pub table : OnOk result (IsListing (whole_of (content_at contents)) rows)

-- What a listing tells of a hold.

-- how many rows of the table have the hold, and the wait
abbrev pub times_in_table : List TableRow → ℕ → Tag → Mode → Bool → ℕ
times_in_table rows session tag mode granted =
    count_by (row_eq (record { session = session; tag = tag; mode = mode; granted = granted })) rows

-- how many rows of both parts have the hold
abbrev pub times_listed : Listing → ℕ → Tag → Mode → ℕ
times_listed listing session tag mode =
    times_shown listing.fast.items session tag mode + times_in_table listing.table.items session tag mode true

-- The hold left its slot between the two reads: the slots of its session showed it as they were loaded, and
-- it stood in the content of its object's partition as that was taken.
pub record LeftItsSlot (number database : ℕ) (loaded : ℕ → ℕ) (contents : List Content) (tag : Tag) (mode : Mode) :
    Type 0 where
  pub shown : slot_holds database loaded tag mode ≡ true
  pub there : (content_at contents (partition_of tag)).holds number tag mode ≡ true

-- What it tells of the caller, whose slots showed these words as they were loaded, before these contents were
-- taken: where its own holds stand as each was taken. Each own hold has one row, or two where it left its
-- slot between the two reads; and no other row is the caller's.
pub record ListsOwn (number : ℕ) (own : Tag → Mode → Bool) (database : ℕ) (loaded : ℕ → ℕ) (contents : List Content)
    (listing : Listing) : Type 0 where
  pub stand :
      (partition : ℕ) → partition < 16
      → OwnHoldsStand number own database loaded partition (content_at contents partition)
  pub each :
      (tag : Tag) (mode : Mode) → own tag mode ≡ true
      → (times_listed listing number tag mode ≡ 1)
      ⊎ ((times_listed listing number tag mode ≡ 2) × LeftItsSlot number database loaded contents tag mode)
  pub no_other : (tag : Tag) (mode : Mode) → own tag mode ≡ false → times_listed listing number tag mode ≡ 0
  pub none_awaited : (tag : Tag) (mode : Mode) → times_in_table listing.table.items number tag mode false ≡ 0

-- The fields of a relation's tag are words of 32 bits.
abbrev pub HasWords : Tag → Type 0
HasWords tag = (database relation : ℕ) → tag ≡ Relation database relation → database < 2 ^ 32

-- A hold that stands throughout the listing is not missed. Let any events lead from a World in which the
-- caller's trace is the one before the listing, through these Worlds, to one in which it is the one after: a
-- hold of any session that in each of them stands in one and the same slot, one of its groups, or in a
-- content has a row.
abbrev pub MissesNone : ℕ → ℕ → ℕ → List TraceEntry → List TraceEntry → Listing → Type 0
MissesNone groups limit number before after listing =
    (first : World) (events : List Event) (worlds : List World) → SafeWorld first → RunsThrough first events worlds
    → first.sessions.trace number ≡ before → (last_of first worlds).sessions.trace number ≡ after
    → (session slot : ℕ) (tag : Tag) (mode : Mode) → session < limit → slot < slot_count
    → slot < group_size * groups → HasWords tag
    → ((at : ℕ) (w : World) → slice_get (first ∷ worlds) at ≡ Some w → StandsThereOrInContent w session tag mode slot)
    → 1 ≤ times_listed listing session tag mode

-- A whole listing. The database and the slots of each session that there can be are loaded, in rising order,
-- and the slot rows are those of what these loads showed: no slot past the groups that were loaded is in use.
-- The lock of a session's slots is shared while they are loaded, so that they stand so at one moment, and no
-- relation has two of them. After that the partitions are taken, and the table's rows list their contents.
pub record ListsAll (groups limit number : ℕ) (a : Account) (result : Result Listing Refusal) (b : Account) : Type 0 where
  pub database : ℕ → ℕ
  pub word : ℕ → ℕ → ℕ
  pub one_each : (session : ℕ) → session < limit → OneSlotEach (word session)
  -- a slot in use is of its relation's group, so none past the groups is
  pub in_groups : (session : ℕ) → session < limit → AreInGroups groups (word session)
  pub fast : IfOk result (λ listing. listing.fast.items ≡ rows_of_all limit database word)
  pub contents : List Content
  pub sixteen : length contents ≡ 16
  pub trace : b.trace ≡ (a.trace ++ loads_of_all groups limit database word) ++ listing_steps 0 contents
  pub table : IfOk result (λ listing. IsListing (whole_of (content_at contents)) listing.table.items)
  -- of the caller's holds none is missed and none invented, and of others' none that stands throughout is
  -- missed
  pub own : IfOk result (ListsOwn number a.own a.fast.database (word number) contents)
  pub misses_none : IfOk result (MissesNone groups limit number a.trace b.trace)

-- A listing for whose slot rows memory ran out: no partition is taken.
pub record StopsAtSlots (groups limit : ℕ) (a : Account) (result : Result Listing Refusal) (b : Account) : Type 0 where
  pub refused : result ≡ Err NoMemory
  pub database : ℕ → ℕ
  pub word : ℕ → ℕ → ℕ
  pub loaded : ℕ
  pub within : loaded ≤ limit
  pub trace : b.trace ≡ a.trace ++ loads_of_all groups loaded database word

-- What a listing leads to by its result: it goes through all slots and partitions, or memory ran out for its
-- slot rows.
abbrev pub Lists : ℕ → ℕ → ℕ → Account → Result Listing Refusal → Account → Type 0
Lists groups limit number a result b = ListsAll groups limit number a result b ⊎ StopsAtSlots groups limit a result b

-- The partitions from one on are listed, one after another.

pub record ListsFrom (number partition : ℕ) (a : Account) (old : List TableRow) (result : Result (Unit {0}) no_memory.NoMemory)
    (b : Account) (new : List TableRow) : Type 0 where
  pub contents : List Content
  pub last : partition + length contents ≡ 16
  pub of_partitions : AreOfPartitions partition contents
  pub of_caller : AreOfCaller number a.own a.awaited a.fast.database a.fast.remembered partition contents
  pub account : b ≡ record a { trace = a.trace ++ listing_steps partition contents }
  pub rows : OnOk result ((row : TableRow) → count_by (row_eq row) new ≡ count_by (row_eq row) old + times_had contents row)
