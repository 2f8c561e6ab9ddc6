use Rattle.std.specs.Prelude.{◌≡◌, ℕ, Bool, true, false, not, ◌&&◌, List, [], Option, Some}
use Rattle.modes_core.specs.declared.modes.Mode.{Mode}
use Rattle.modes_core.specs.declared.tags.Tag.{Tag}
use Rattle.modes_core.specs.Tag.{index_of}
use Rattle.lock_table.specs.Content.{Holds}
use Rattle.lock_table.specs.OwnWait.{OwnWait, is_for}
use Rattle.lock_world.specs.SlotHolds.{slot_holds, ShowsNoMore, OneSlotEach, InUseHasDatabase, AreInGroups}
use Rattle.lock_world.specs.Counted.{Counted, AtMostOnce, counter, is_past, PastHasNoSlot, StrongIsDone}
use Rattle.lock_world.specs.World.{World}
use Rattle.lock_world.specs.WaitLists.{ListsAreSafe}
use Rattle.lock_world.specs.Happens.Lists.{sleepers}
use Rattle.lock_world.specs.Safe.{SafeButSlots}

-- What holds between any two atomic steps, with fast-path slots: a hold stands in a slot or in a content, and
-- what stands in a slot conflicts with nothing.

-- the holds that the slots show
abbrev pub slots_of : (ℕ → ℕ) → (ℕ → ℕ → ℕ) → Holds
slots_of database slot session = slot_holds (database session) (slot session)

-- the own holds of each session that are in no slot
abbrev pub own_but : Holds → Holds → Holds
own_but own slots session tag mode = own session tag mode && not (slots session tag mode)

-- The World as partitions know it: of own holds those that stand in contents.
abbrev pub tabled : World → World
tabled w = record {
  words = w.words;
  contents = w.contents;
  sessions = record (w.sessions) { own = own_but w.sessions.own (slots_of w.words.database w.words.slot) };
  numbers = w.numbers;
}

-- What slots show is own, and each hold is in one slot only, since a relation has one slot at most of a
-- session; a slot in use has a database, and is of its relation's group.
pub record SlotsAreOwn (groups : ℕ) (database : ℕ → ℕ) (slot : ℕ → ℕ → ℕ) (own : Holds) : Type 0 where
  pub are_own : (session : ℕ) (tag : Tag) (mode : Mode) → slots_of database slot session tag mode ≡ true → own session tag mode ≡ true
  pub one_each : (session : ℕ) → OneSlotEach (slot session)
  pub has_database : (session : ℕ) → InUseHasDatabase (database session) (slot session)
  pub in_groups : (session : ℕ) → AreInGroups groups (slot session)

-- What a session awaits is no own hold of it, in no slot either; and a number that is not live has no hold,
-- no slot and nothing counted.
pub record OwnIsInOrder (live : ℕ → Bool) (own : Holds) (awaited : ℕ → Option OwnWait) (counted : ℕ → List Counted) : Type 0 where
  pub awaited_is_not_own : (session : ℕ) (tag : Tag) (mode : Mode) → is_for (awaited session) tag mode ≡ true → own session tag mode ≡ false
  pub no_hold : (session : ℕ) (tag : Tag) (mode : Mode) → live session ≡ false → own session tag mode ≡ false
  pub no_count : (session : ℕ) → live session ≡ false → counted session ≡ []

-- Each counter is how much is counted at its index, and each session has each mode on each object counted
-- once at most.
pub record CountersAreCounts (limit : ℕ) (strong : ℕ → ℕ) (counted : ℕ → List Counted) : Type 0 where
  pub shown : (index : ℕ) → strong index ≡ counter limit counted index
  pub once : (session : ℕ) → AtMostOnce (counted session)

-- A session that has read a counter as 0 holds the lock of its own slots, and nothing that is counted for an
-- object of that index is past it.
pub record ZeroIsAPermission (zero : ℕ → Option ℕ) (holds_fast : ℕ → ℕ → Bool) (counted : ℕ → List Counted) : Type 0 where
  pub holds : (session index : ℕ) → zero session ≡ Some index → holds_fast session session ≡ true
  pub nobody_is_past :
      (session other : ℕ) (tag : Tag) → zero session ≡ Some (index_of tag) → is_past (counted other) tag session ≡ false

-- A mode that a slot shows is one that its session remembers there: only the session itself sets modes in its
-- slots, and it remembers each. What it remembers there may be gone since, where others moved it to the lock
-- table.
abbrev pub SlotsAreRemembered : (ℕ → ℕ → ℕ) → (ℕ → ℕ → ℕ) → Type 0
SlotsAreRemembered slot remembered = (session : ℕ) → ShowsNoMore (slot session) (remembered session)

-- What is safe of a World.
pub record SafeWorld (w : World) : Type 0 where
  pub but_slots : SafeButSlots (tabled w)
  pub lists : ListsAreSafe w.words.partition w.words.fast (sleepers w) w.sessions.has_list w.numbers.live
  pub slots : SlotsAreOwn w.numbers.groups w.words.database w.words.slot w.sessions.own
  pub order : OwnIsInOrder w.numbers.live w.sessions.own w.sessions.awaited w.sessions.counted
  pub counters : CountersAreCounts w.numbers.limit w.words.strong w.sessions.counted
  pub past : PastHasNoSlot w.sessions.counted (slots_of w.words.database w.words.slot)
  pub done : StrongIsDone w.numbers.limit w.sessions.counted w.sessions.own w.sessions.awaited
  pub zero : ZeroIsAPermission w.sessions.zero w.sessions.holds_fast w.sessions.counted
  pub remembered : SlotsAreRemembered w.words.slot w.sessions.remembered
