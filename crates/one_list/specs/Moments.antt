use Rattle.std.specs.Prelude.{◌≡◌, ◌⊎◌, ℕ, true, false, List, [], ◌∷◌, Some, slice_get}
use Rattle.modes_core.specs.declared.modes.Mode.{Mode}
use Rattle.modes_core.specs.declared.tags.Tag.{Tag}
use Rattle.lock_table.specs.declared.moves.Move.{Move}
use Rattle.lock_table.specs.declared.moves.Move.TheVariants.{Grant, Join, Release, Leave}
use Rattle.lock_table.specs.Content.{Wait, Content}
use Rattle.lock_table.specs.Queue.{awaits_mode, NoneFree, NoConflictAmong}
use Rattle.lock_world.specs.declared.events.Event.{Event}
use Rattle.lock_world.specs.World.{World}
use Rattle.lock_world.specs.Headline.{stands_with}
use Rattle.one_list.specs.OneList.{list_of, MovesList}

-- What the list promises, and when its holds come and go.

-- A list is safe: no two sessions' holds conflict, and nobody who waits is free to go.
pub record ListIsSafe (list : Content) : Type 0 where
  pub no_conflict : NoConflictAmong list.holds
  pub none_free : (tag : Tag) → NoneFree list tag

-- The move is no join: it leaves nothing open.
abbrev pub IsNoJoin : Move → Type 0
IsNoJoin (Join tag mode) = ⊥
IsNoJoin done = Unit {0}

-- The move is a release of the object or a leave of its queue, by which waits are granted.
abbrev pub IsWakeupOf : Move → Tag → Type 0
IsWakeupOf done tag = ((its : Mode) × (done ≡ Release tag its)) ⊎ (done ≡ Leave tag)

-- A hold comes to be by a grant of its session's own, or by a wakeup, which grants the session's wait,
-- whoever makes it.
abbrev pub ComesToBe : Content → ℕ → Content → ℕ → Tag → Mode → Type 0
ComesToBe before mover after session tag mode =
    ((mover ≡ session) × MovesList before session (Grant tag mode) [] after)
    ⊎ ((done : Move) × (granted : List Wait) × IsWakeupOf done tag × (awaits_mode granted session mode ≡ true)
    × MovesList before mover done granted after)

-- A hold goes away by a release of its session's own.
abbrev pub GoesAway : Content → ℕ → Content → ℕ → Tag → Mode → Type 0
GoesAway before mover after session tag mode =
    (mover ≡ session) × ((granted : List Wait) × MovesList before session (Release tag mode) granted after)

-- A run from a World on has such a moment: an event, with the World before it and the one after it.
abbrev pub AtSomeMoment : World → List Event → List World → (World → Event → World → Type 0) → Type 0
AtSomeMoment w events worlds P =
    (place : ℕ) × (u : World) × (event : Event) × (next : World)
    × (slice_get (w ∷ worlds) place ≡ Some u) × (slice_get events place ≡ Some event)
    × (slice_get worlds place ≡ Some next) × P u event next

-- At this moment the session's hold comes to be in the list.
abbrev pub Coming : ℕ → Tag → Mode → World → Event → World → Type 0
Coming session tag mode u event next =
    (stands_with u session tag mode ≡ false) × (stands_with next session tag mode ≡ true)
    × ComesToBe (list_of u) event.session (list_of next) session tag mode

-- At this moment the session's hold goes away from the list.
abbrev pub Going : ℕ → Tag → Mode → World → Event → World → Type 0
Going session tag mode u event next =
    (stands_with u session tag mode ≡ true) × (stands_with next session tag mode ≡ false)
    × GoesAway (list_of u) event.session (list_of next) session tag mode
