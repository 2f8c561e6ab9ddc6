use Rattle.std.specs.Prelude.{◌≡◌, ℕ, true, ◌==◌, ◌||◌, List, [], All, map, filter, count_by, slice_index_or}
use Rattle.std.specs.Ordering.{nat_cmp, on, then_cmp}
use Rattle.std.specs.declared.cmp.Ordering.{Ordering}
use Rattle.std.specs.declared.cmp.Ordering.TheVariants.{Less, Equal, Greater}
use Rattle.std.specs.Cmp.Lexicographic.{slice_cmp}
use Rattle.std.specs.List.Sorted.{IsSortedByKey}
use Rattle.modes_core.specs.declared.modes.Mode.{Mode}
use Rattle.modes_core.specs.declared.tags.Tag.{Tag}
use Rattle.modes_core.specs.Mode.{number_of}
use Rattle.modes_core.specs.ModeSet.{set_has}
use Rattle.modes_core.specs.Tag.{tag_eq, numbers_of, partition_of, index_of}
use Rattle.lock_world.specs.declared.events.Word.{Word}
use Rattle.lock_world.specs.declared.events.Word.TheVariants.{Partition, Fast, Database, Slot, Wait, Strong, Sleep}
use Rattle.lock_model.specs.declared.machine.plain.Hold.{Hold}
use Rattle.lock_model.specs.declared.machine.plain.Spot.{Spot}
use Rattle.lock_model.specs.declared.machine.plain.Spot.TheVariants as spot
use Rattle.lock_model.specs.declared.machine.plain.QueuedWait.{QueuedWait}
use Rattle.lock_model.specs.declared.machine.plain.Plain.{Plain}
use Rattle.lock_table.specs.Content.{Holds}
use Rattle.lock_table.specs.Content as content
use Rattle.lw_word.specs.LockState.{opening_state}
use Rattle.lw_word.specs.LockState as lock_state
use Rattle.lock_world.specs.World.{World, WordExists, word_in}
use Rattle.lock_world.specs.SlotHolds.{IsHeldIn}
use Rattle.lock_world.specs.SafeWorld.{slots_of}
use Rattle.lock_model.specs.declared.machine.state.Sleeper.{Sleeper}
use Rattle.lock_model.specs.Shows.{ListsHolds, waiters_of}

-- the holds at the end of a run, by its answer
abbrev pub holds_of : Plain → List Hold
holds_of plain = plain.holds.items

-- the waits in objects' queues at the end of a run, by its answer
abbrev pub listed_waits : Plain → List QueuedWait
listed_waits plain = plain.waits.items

-- the sessions that wait for lightweight locks at the end of a run, by its answer
abbrev pub listed_sleepers : Plain → List Sleeper
listed_sleepers plain = plain.lists.sleepers.items

-- how many groups of slots each session had
abbrev pub groups_of : Plain → ℕ
groups_of plain = plain.groups

-- what a word shows
abbrev pub word_of : Plain → Word → ℕ
word_of plain (Partition p) = lock_state.word_of (slice_index_or plain.words.partitions p opening_state)
word_of plain (Fast session) = lock_state.word_of (slice_index_or plain.words.fast session opening_state)
word_of plain (Database session) = slice_index_or plain.fast_path.databases session 0
word_of plain (Slot session place) = slice_index_or (slice_index_or plain.fast_path.slots session []) place 0
word_of plain (Wait session) = slice_index_or plain.words.waits session 0
word_of plain (Strong index) = count_by (λ c. index_of c.tag == index) plain.counted.items
word_of plain (Sleep session) = slice_index_or plain.lists.sleep session 0

-- the order of the places of holds: the fast-path slots by their places, and the lock table after them
abbrev pub spot_cmp : Spot → Spot → Ordering
spot_cmp (spot.Slot place) (spot.Slot other) = nat_cmp place other
spot_cmp (spot.Slot place) spot.Table = Less
spot_cmp spot.Table (spot.Slot other) = Greater
spot_cmp spot.Table spot.Table = Equal

-- the order of holds: by session, then by the tag's numbers, then by the mode's number, then by their places
abbrev pub hold_cmp : Hold → Hold → Ordering
hold_cmp =
    then_cmp (on (λ (hold : Hold). hold.session) nat_cmp)
    (then_cmp (on (λ (hold : Hold). numbers_of hold.tag) (slice_cmp nat_cmp))
    (then_cmp (on (λ (hold : Hold). number_of hold.mode) nat_cmp)
    (on (λ (hold : Hold). hold.spot) spot_cmp)))

-- the wait that an entry of the list of waits is
abbrev pub as_wait : QueuedWait → content.Wait
as_wait queued = record { session = queued.session; mode = queued.mode; held = set_has queued.held }

-- all holds of the contents
abbrev pub table_holds : World → Holds
table_holds w session tag mode = (w.contents.now (partition_of tag)).holds session tag mode

-- all holds: those that slots show, and those of the contents
abbrev pub all_holds : World → Holds
all_holds w session tag mode = slots_of w.words.database w.words.slot session tag mode || table_holds w session tag mode

-- The hold is where this says: in the content of its partition, or in this slot of its session.
abbrev pub StandsAt : World → ℕ → Tag → Mode → Spot → Type 0
StandsAt w session tag mode spot.Table = table_holds w session tag mode ≡ true
StandsAt w session tag mode (spot.Slot place) = IsHeldIn (w.words.database session) (w.words.slot session) tag mode place

-- A hold of the answer is where it says.
abbrev pub StandsThere : World → Hold → Type 0
StandsThere w hold = StandsAt w hold.session hold.tag hold.mode hold.spot

-- The answer of a run says what the World has: each hold once, of slots and of contents, and where it is,
-- each object's waits in the order of its queue, the waits in the order of their tags, how many groups of
-- slots there were, what each word shows, and who waits for each lightweight lock.
pub record IsPlainOf (plain : Plain) (w : World) : Type 0 where
  pub holds : ListsHolds (holds_of plain) (all_holds w)
  pub spots : All (λ hold. StandsThere w hold) (holds_of plain)
  pub waits :
      (tag : Tag) → map as_wait (filter (λ queued. tag_eq queued.tag tag) (listed_waits plain))
      ≡ (w.contents.now (partition_of tag)).waits tag
  pub waits_by_tag : IsSortedByKey (λ queued. queued.tag) (on numbers_of (slice_cmp nat_cmp)) (listed_waits plain)
  pub groups : groups_of plain ≡ w.numbers.groups
  pub words : (word : Word) → WordExists w.numbers.groups word → word_of plain word ≡ word_in w.words word
  pub lists : (lock : ℕ) → waiters_of lock (listed_sleepers plain) ≡ w.words.list lock
