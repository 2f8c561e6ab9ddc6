use Rattle.std.specs.Prelude.{◌≡◌, ◌≢◌, ℕ, ◌+◌, ◌<◌, Bool, true, false, ◌||◌, List, ◌∷◌, ◌++◌, slice_get, Some}
use Rattle.modes_core.specs.declared.modes.Mode.{Mode}
use Rattle.modes_core.specs.declared.tags.Tag.{Tag}
use Rattle.modes_core.specs.declared.refusals.How.{How}
use Rattle.modes_core.specs.declared.refusals.How.TheVariants.{Held, Awaited}
use Rattle.modes_core.specs.Conflict.{conflict}
use Rattle.modes_core.specs.Tag.{partition_of, is_strong_on}
use Rattle.lock_table.specs.declared.answering.Clash.{Clash}
use Rattle.lock_table.specs.Content.{Content}
use Rattle.lock_table.specs.Clash.{ClashIs}
use Rattle.lock_table.specs.OwnWait.{is_for, is_pending}
use Rattle.lock_table.specs.Queue.{waits_there, awaits_mode}
use Rattle.lock_table.specs.Total.{how_many}
use Rattle.lock_world.specs.SlotHolds.{IsHeldIn}
use Rattle.lock_world.specs.Counted.{counter, is_done}
use Rattle.lock_world.specs.World.{World, TraceEntry, Took}
use Rattle.lock_world.specs.Safe.{stages}
use Rattle.lock_world.specs.SafeWorld.{slots_of}

-- The headline, on one page: what is promised of what there is between any two atomic steps, and of what a
-- refusal saw.

-- whether a session stands with a mode on an object: a fast-path slot of its own shows it, or the content of
-- the object's partition has it, from the grant on, whether the session has taken that over yet or not
abbrev pub stands_with : World → ℕ → Tag → Mode → Bool
stands_with w session tag mode =
    slots_of w.words.database w.words.slot session tag mode || (w.contents.now (partition_of tag)).holds session tag mode

-- No two sessions stand with conflicting modes on one object.
abbrev pub NoTwoConflict : World → Type 0
NoTwoConflict w =
    (session other : ℕ) (tag : Tag) (mode its : Mode) → session ≢ other
    → stands_with w session tag mode ≡ true → stands_with w other tag its ≡ true → conflict mode its ≡ false

-- Each hold in one place.

-- where a hold can stand: in a fast-path slot of its session, or in the content of a partition
pub data Place : Type 0 where
  InSlot : (slot : ℕ) → Place
  InPartition : (partition : ℕ) → Place

-- The session's hold is at this place.
abbrev pub StandsAt : World → ℕ → Tag → Mode → Place → Type 0
StandsAt w session tag mode (InSlot slot) = IsHeldIn (w.words.database session) (w.words.slot session) tag mode slot
StandsAt w session tag mode (InPartition partition) = (w.contents.now partition).holds session tag mode ≡ true

-- The session's hold is at one place and at no other.
pub record IsInOnePlace (w : World) (session : ℕ) (tag : Tag) (mode : Mode) : Type 0 where
  pub place : Place
  pub there : StandsAt w session tag mode place
  pub no_other : (other : Place) → StandsAt w session tag mode other → other ≡ place

-- What a request is refused with, in the content that was taken for it.

-- The session named is there with a mode in conflict: with its hold, or with its wait, which is no wait of
-- the session that asks where that one has none.
abbrev pub IsThereAs : How → Content → ℕ → Tag → ℕ → Mode → Type 0
IsThereAs Held content session tag other its = (content.holds other tag its ≡ true) × (other ≢ session)
IsThereAs Awaited content session tag other its =
    (awaits_mode (content.waits tag) other its ≡ true) × (waits_there (content.waits tag) session ≡ false → other ≢ session)

-- In the content the session that a clash names holds the object in its mode, or awaits it so, in conflict
-- with the mode asked for.
pub record IsInTheWay (content : Content) (session : ℕ) (tag : Tag) (mode : Mode) (clash : Clash) : Type 0 where
  pub conflicting : conflict mode clash.mode ≡ true
  pub there : IsThereAs clash.how content session tag clash.session clash.mode

-- All of it, of one World.
pub record Headline (w : World) : Type 0 where
  -- no two sessions stand with conflicting modes on one object
  pub no_two_conflict : NoTwoConflict w
  -- what a session stands with is what it has by its own account, and what it was granted and hasn't taken
  -- over yet
  pub own_or_granted :
      (session : ℕ) (tag : Tag) (mode : Mode) → stands_with w session tag mode
      ≡ (w.sessions.own session tag mode || is_pending (w.sessions.awaited session) (stages w session) tag mode)
  -- each hold is in one place: one slot, or the content of one partition
  pub one_place :
      (session : ℕ) (tag : Tag) (mode : Mode) → stands_with w session tag mode ≡ true
      → IsInOnePlace w session tag mode
  pub nowhere_else :
      (session : ℕ) (tag : Tag) (mode : Mode) (place : Place) → StandsAt w session tag mode place
      → stands_with w session tag mode ≡ true
  -- so as many sessions have a mode on an object as slots show it and the content has it, together
  pub as_many :
      (tag : Tag) (mode : Mode) → how_many w.numbers.limit (λ session. stands_with w session tag mode)
      ≡ how_many w.numbers.limit (λ session. slots_of w.words.database w.words.slot session tag mode)
      + how_many w.numbers.limit (λ session. (w.contents.now (partition_of tag)).holds session tag mode)
  pub within : (session : ℕ) (tag : Tag) (mode : Mode) → stands_with w session tag mode ≡ true → session < w.numbers.limit
  -- each strong lock counter is how much is counted at its index, and each strong mode that a session stands
  -- with is counted
  pub counters : (index : ℕ) → w.words.strong index ≡ counter w.numbers.limit w.sessions.counted index
  pub strong_is_counted :
      (session : ℕ) (tag : Tag) (mode : Mode) → is_strong_on tag mode ≡ true → stands_with w session tag mode ≡ true
      → is_done w.numbers.limit (w.sessions.counted session) tag mode ≡ true

-- A refusal saw what it names.

-- The session stands with the mode on the object, or awaits it.
abbrev pub StandsOrAwaits : How → World → ℕ → Tag → Mode → Type 0
StandsOrAwaits Held w session tag mode = stands_with w session tag mode ≡ true
StandsOrAwaits Awaited w session tag mode = is_for (w.sessions.awaited session) tag mode ≡ true

-- In this World the object's partition has the content that was taken. The session that is named, another
-- than the one that asks, stands with the mode named on the object, or awaits it, and that mode conflicts
-- with the one asked for.
pub record NamesWhatIs (w : World) (session : ℕ) (tag : Tag) (mode : Mode) (taken : Content) (clash : Clash) : Type 0 where
  pub content : w.contents.now (partition_of tag) ≡ taken
  pub another : clash.session ≢ session
  pub conflicting : conflict mode clash.mode ≡ true
  pub there : StandsOrAwaits clash.how w clash.session tag clash.mode

-- Of a run that goes through these Worlds, from its first one to `now`: a session took a content of the
-- object's partition, in which it has no wait on the object, and a conditional request of its own is refused
-- there with a clash. Then one of these Worlds, in which its trace was just what stands before that step, is
-- as the refusal says.
abbrev pub RefusalsSawWhatTheyName : List World → World → Type 0
RefusalsSawWhatTheyName worlds now =
    (session : ℕ) (before after : List TraceEntry) (tag : Tag) (mode : Mode) (taken : Content) (clash : Clash)
    → now.sessions.trace session ≡ before ++ Took (partition_of tag) taken ∷ after
    → waits_there (taken.waits tag) session ≡ false → ClashIs taken session tag mode (Some clash)
    → (place : ℕ) × (w : World) × (slice_get worlds place ≡ Some w) × (w.sessions.trace session ≡ before)
    × NamesWhatIs w session tag mode taken clash
