use Rattle.std.specs.Prelude.{◌≡◌, ◌⊎◌, ℕ, List, ◌∷◌, ◌++◌}
use Rattle.modes_core.specs.declared.modes.Mode.{Mode}
use Rattle.modes_core.specs.declared.tags.Tag.{Tag}
use Rattle.lock_table.specs.declared.moves.Move.TheVariants.{Grant, Release}
use Rattle.lock_world.specs.declared.events.Event.{Event}
use Rattle.lock_world.specs.declared.events.Step.{Step}
use Rattle.lock_world.specs.Happens.{Happens}
use Rattle.lock_world.specs.World.{World}
use Rattle.one_list.specs.OneList.{DoesItsMove}
use Rattle.shared_rule.specs.declared.history.Mark.{Mark}
use Rattle.shared_rule.specs.Marks.{SetSlot, ClearedSlot, PutPart, MarkedGranted, ClearedWait}
use Rattle.shared_rule.specs.Tells.{Tells, AreTold, Leads, steps_of}

-- In a run of events from one World to another, the session of this number made the step that the mark tells,
-- after just the steps that the older marks tell. That event does to the one list just the move that its step
-- makes, if any.
pub record HasItsMoment {T : Type 0} (first : World) (events : List Event) (last : World) (number : ℕ)
    (mark : Mark T) (older : List (Mark T)) : Type 0 where
  pub step : Step
  pub before : List Event
  pub after : List Event
  pub all : events ≡ before ++ record { session = number; step = step } ∷ after
  pub tells : Tells number mark step
  pub older_steps : AreTold number older (steps_of number before)
  -- the World before the event, and the one after it
  pub world : World
  pub next : World
  pub led : Leads first before world
  pub happens : Happens world (record { session = number; step = step }) next
  pub leads : Leads next after last
  pub moves : DoesItsMove world number step next

-- By the step that this mark tells its session comes to own the mode on the object: the mode is set in a
-- slot, a partition is put with its grant, or the session clears its wait word, once its wait was granted.
abbrev pub ComesToOwn : {T : Type 0} → Mark T → Tag → Mode → Type 0
ComesToOwn {T} mark tag mode =
    ((slot : ℕ) × (mark ≡ SetSlot slot tag mode))
    ⊎ (((part : ℕ) × (found : ℕ) × (put : T) × (mark ≡ PutPart part (Grant tag mode) put found)) ⊎ (mark ≡ ClearedWait))

-- By the step that this mark tells its session gives the mode on the object up: the mode is cleared in a
-- slot, a partition is put with its release, or somebody is marked granted whom its release wakes.
abbrev pub GivesUp : {T : Type 0} → Mark T → Tag → Mode → Type 0
GivesUp {T} mark tag mode =
    ((slot : ℕ) × (mark ≡ ClearedSlot slot tag mode))
    ⊎ (((part : ℕ) × (found : ℕ) × (put : T) × (mark ≡ PutPart part (Release tag mode) put found))
    ⊎ ((part : ℕ) × (other : ℕ) × (woken : List ℕ) × (now : T) × (mark ≡ MarkedGranted part other (Release tag mode) woken now)))

-- Among these marks, made after the earlier ones, one is so, and its step has its moment in the run.
abbrev pub OneHasItsMoment :
    {T : Type 0} → World → List Event → World → ℕ → List (Mark T) → List (Mark T) → (Mark T → Type 0) → Type 0
OneHasItsMoment {T} first events last number between earlier P =
    (mark : Mark T) × (newer : List (Mark T)) × (older : List (Mark T)) × (between ≡ newer ++ mark ∷ older) × P mark
    × HasItsMoment first events last number mark (older ++ earlier)
