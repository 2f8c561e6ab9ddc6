use Rattle.std.specs.Prelude.{◌≡◌, ◌≢◌, ◌⊎◌, ℕ, ◌+◌, ◌<◌, ◌≤◌, ◌==◌, not, Bool, false, List, [], ◌∷◌, ◌++◌, map, slice_get, slice_set, Option, Some, None, if◌then◌else◌}
use mathlib.Core.Option.{some}
use lib.ListN.{get_elem?}
use Rattle.atomic_table.specs.Table.{State}
use Rattle.lock_table.specs.declared.request.Request.{Request}
use Rattle.lock_table.specs.Content.{Content}
use Rattle.lock_world.specs.declared.events.Event.{Event}
use Rattle.lock_world.specs.declared.events.Step.{Step}
use Rattle.lock_world.specs.declared.events.Word.{Word}
use Rattle.lock_world.specs.declared.events.Word.TheVariants.{Fast, Database, Slot, Wait, Strong, Sleep}
use Rattle.shared_rule.specs.declared.history.History.{History}
use Rattle.shared_rule.specs.declared.history.Mark.{Mark}
use Rattle.shared_rule.specs.declared.history.Mark.TheVariants.{OfWords}
use Rattle.shared_rule.specs.declared.history.WordMark.{WordMark}
use Rattle.shared_rule.specs.declared.history.WordMark.TheVariants.{LoadedWait, LoadedDatabase, LoadedSlot, LoadedFast, LoadedStrong, LoadedSleep}
use Rattle.shared_rule.specs.declared.history.PlacedView.{PlacedView}
use Rattle.shared_rule.specs.declared.history.View.{View}
use Rattle.shared_rule.specs.declared.kept.Kept.{Kept}
use Rattle.shared_rule.specs.declared.rule.TableSizes.{TableSizes}
use Rattle.shared_rule.specs.History.{noting, first_number, opening_view, spent_view}
use Rattle.shared_rule.specs.Ruled.{Ruled}
use Rattle.shared_rule.specs.Seats.{opened, newcomer, with_closed, met, parted, handed_back}
use Rattle.shared_rule.specs.Tells.{is_of_seats, steps_of, LooksOnly}

-- When the last step of each session was made: its place among the steps of all sessions.

-- whether the event is a step, and none of seats
abbrev pub is_step : Event → Bool
is_step event = not (is_of_seats event.step)

-- how many of these events are steps
abbrev pub steps_made : List Event → ℕ
steps_made [] = 0
steps_made (event ∷ events) = (if is_step event then 1 else 0) + steps_made events

-- the place of the last step of the session of this number, which is 0 where none is known
abbrev pub place_of : List (ℕ × ℕ) → ℕ → ℕ
place_of [] number = 0
place_of (placed ∷ places) number = if placed.0 == number then placed.1 else place_of places number

-- The session's last step is the event at this place of the run, counted among the steps of all sessions from
-- 1: the event there is its own, and no later one is.
pub record IsLastStep (number place : ℕ) (events : List Event) : Type 0 where
  pub before : List Event
  pub its : Step
  pub after : List Event
  pub all : events ≡ before ++ record { session = number; step = its } ∷ after
  pub is_own : is_of_seats its ≡ false
  pub at_place : place ≡ steps_made before + 1
  pub none_later : steps_of number after ≡ []

-- The session's last step is at this place of the run, or, where that is 0, it has made none.
abbrev pub IsPlaced : ℕ → ℕ → List Event → Type 0
IsPlaced number place events = ((place ≡ 0) × (steps_of number events ≡ [])) ⊎ IsLastStep number place events

module _ {T : Type 0} where
  -- The last step of each session whose history is among these of a view is where the view has its place.
  abbrev pub AreInPlace : (View T → List (History T)) → List (PlacedView T) → List Event → Type 0
  AreInPlace these views events =
      (seat at : ℕ) (placed : PlacedView T) (history : History T) → get_elem? views seat ≡ some placed
      → slice_get (these placed.view) at ≡ Some history
      → IsPlaced history.number (place_of placed.places history.number) events

  -- The last step of each session, of those that seats are for and those that have closed, is in its place.
  pub record ArePlaced (views : List (PlacedView T)) (events : List Event) : Type 0 where
    pub at_seat : AreInPlace (λ view. view.sessions) views events
    pub closed : AreInPlace (λ view. view.closed) views events

  -- the views, the places aside
  abbrev pub unplaced : List (PlacedView T) → List (View T)
  unplaced views = map (λ placed. placed.view) views

  -- the table's state, the places aside
  abbrev pub without_places : State (Kept T) (PlacedView T) → State (Kept T) (View T)
  without_places state = record { words = state.words; homes = state.homes; views = unplaced state.views }

-- Seats that are cut in two and joined, with their places.
module _ {T : Type 0} where
  -- the places of a seat that took in the session of another, with that session's place
  abbrev pub taking_place : PlacedView T → PlacedView T → List (ℕ × ℕ)
  taking_place placed other =
      (first_number other.view.sessions, place_of other.places (first_number other.view.sessions)) ∷ placed.places

  -- the opener's seat once it has given a number out, and the one that got it
  abbrev pub opened_in_place : PlacedView T → PlacedView T
  opened_in_place placed = record { view = opened placed.view; places = placed.places }

  abbrev pub newcomer_in_place : PlacedView T → PlacedView T
  newcomer_in_place placed = record { view = newcomer placed.view; places = [] }

  -- the opener's seat once it has taken a session's back
  abbrev pub with_closed_in_place : PlacedView T → PlacedView T → PlacedView T
  with_closed_in_place placed other = record {
    view = with_closed placed.view other.view;
    places = taking_place placed other;
  }

  -- the seat with another's session behind its own
  abbrev pub met_in_place : PlacedView T → PlacedView T → PlacedView T
  met_in_place placed other = record { view = met placed.view other.view; places = taking_place placed other }

  -- the seat without its last session, and the seat of that one
  abbrev pub parted_in_place : PlacedView T → PlacedView T
  parted_in_place placed = record { view = parted placed.view; places = placed.places }

  abbrev pub handed_back_in_place : PlacedView T → PlacedView T
  handed_back_in_place placed = record { view = handed_back placed.view; places = placed.places }

  -- a seat that was joined to another
  abbrev pub spent_in_place : PlacedView T
  spent_in_place = record { view = spent_view; places = [] }

  -- the opener's seat before the first session
  abbrev pub opening_in_place : PlacedView T
  opening_in_place = record { view = opening_view; places = [] }

-- The rule of the table, with the order in which the last steps of all sessions were made: the run has each
-- one in its place. So no further step can be put before one of them.
pub record RuledInOrder {T : Type 0} (content : T → Content) (begun : T → Option Request) (sizes : TableSizes)
    (state : State (Kept T) (PlacedView T)) : Type 0 where
  pub rule : Ruled content begun sizes (without_places state)
  pub placed : ArePlaced state.views rule.events

-- Loads: the word of which a mark tells what it showed, and that, where the mark is a load's of the session
-- of this number.
abbrev pub word_loaded_by : ℕ → WordMark → Option (Word × ℕ)
word_loaded_by number (LoadedWait shown) = Some (Wait number, shown)
word_loaded_by number (LoadedDatabase owner shown) = Some (Database owner, shown)
word_loaded_by number (LoadedSlot owner slot shown) = Some (Slot owner slot, shown)
word_loaded_by number (LoadedFast shown) = Some (Fast number, shown)
word_loaded_by number (LoadedStrong index shown) = Some (Strong index, shown)
word_loaded_by number (LoadedSleep shown) = Some (Sleep number, shown)
word_loaded_by number mark = None

module _ {T : Type 0} where
  -- the word that was loaded, and what it showed, by a mark of the session of this number
  abbrev pub word_loaded : ℕ → Mark T → Option (Word × ℕ)
  word_loaded number (OfWords mark) = word_loaded_by number mark
  word_loaded number mark = None

  -- This is said of the place of each session whose history is among these of a view.
  abbrev pub EachPlace : (View T → List (History T)) → List (PlacedView T) → (ℕ → Type 0) → Type 0
  EachPlace these views Is =
      (seat at : ℕ) (placed : PlacedView T) (history : History T) → get_elem? views seat ≡ some placed
      → slice_get (these placed.view) at ≡ Some history → Is (place_of placed.places history.number)

  -- Nobody's last step was made after this place of the run, of those that seats are for and those that have
  -- closed.
  pub record NoneIsLater (views : List (PlacedView T)) (place : ℕ) : Type 0 where
    pub at_seat : EachPlace (λ view. view.sessions) views (λ its. its ≤ place)
    pub closed : EachPlace (λ view. view.closed) views (λ its. its ≤ place)

  -- Everybody's last step was made before this place of the run.
  pub record AllAreEarlier (views : List (PlacedView T)) (place : ℕ) : Type 0 where
    pub at_seat : EachPlace (λ view. view.sessions) views (λ its. its < place)
    pub closed : EachPlace (λ view. view.closed) views (λ its. its < place)

  -- The first session of this seat has made one step more, which the mark tells: all else of the views is as
  -- before, and so are the places of all others.
  pub record HasMadeStep (before after : List (PlacedView T)) (seat : ℕ) (first : History T) (mark : Mark T) (now : PlacedView T) : Type 0 where
    pub was : PlacedView T
    pub there : get_elem? before seat ≡ some was
    pub others : List (History T)
    pub sessions : was.view.sessions ≡ first ∷ others
    pub step : LooksOnly mark → ⊥
    pub noted : now.view ≡ noting was.view mark
    pub places : (number : ℕ) → number ≢ first.number → place_of now.places number ≡ place_of was.places number
    pub views : after ≡ slice_set before seat now
