use Rattle.std.specs.Prelude.{◌≡◌, ◌⊎◌, ℕ, ◌<◌, true, false, List, [], ◌∷◌, ◌++◌, length, slice_index, slice_set, Option}
use mathlib.Core.Option.{some}
use lib.ListN.{get_elem?}
use Rattle.atomic_table.specs.Table.{State, Act, Valid, stepped, carried_after}
use Rattle.lock_table.specs.declared.request.Request.{Request}
use Rattle.lock_table.specs.Content.{Content}
use Rattle.lock_world.specs.declared.events.Event.{Event}
use Rattle.lock_world.specs.declared.events.Step.{Step}
use Rattle.shared_rule.specs.declared.history.History.{History}
use Rattle.shared_rule.specs.declared.history.Mark.{Mark}
use Rattle.shared_rule.specs.declared.history.View.{View}
use Rattle.shared_rule.specs.declared.kept.Kept.{Kept}
use Rattle.shared_rule.specs.declared.rule.TableSizes.{TableSizes}
use Rattle.shared_rule.specs.History.{noting}
use Rattle.shared_rule.specs.Plays.{Side}
use Rattle.shared_rule.specs.Ruled.{Ruled}
use Rattle.shared_rule.specs.Tells.{is_of_seats}

-- What a step on the table may do: it keeps the rule, and goes on at the end of the run.

-- What a step makes of the seat's view and of the run: it changes neither, or is noted as a look, which is no
-- event, or is noted as the step of the seat's first session that the run ends with.
pub data GoesOn {T : Type 0} (before after : List Event) (view next : View T) : Type 0 where
  changes_nothing : next ≡ view → after ≡ before → GoesOn before after view next
  looks : (mark : Mark T) → next ≡ noting view mark → after ≡ before → GoesOn before after view next
  steps :
      (mark : Mark T) (first : History T) (others : List (History T)) (its : Step) → view.sessions ≡ first ∷ others
      → next ≡ noting view mark → is_of_seats its ≡ false
      → after ≡ before ++ record { session = first.number; step = its } ∷ [] → GoesOn before after view next

module _ {T : Type 0} (content : T → Content) (begun : T → Option Request) (sizes : TableSizes) where
  -- The rule holds after a step, and the run goes on from these events by that step.
  pub record RuledNext (before : List Event) (view next : View T) (state : State (Kept T) (View T)) : Type 0 where
    pub rule : Ruled content begun sizes state
    pub goes_on : GoesOn before rule.events view next

  -- Whatever the table is when the word at an index becomes so of what it was, the seat has a next view and
  -- an act on the shelves that keep the rule and go on at the end of the run, and `then` holds of the number
  -- found and of the seat after.
  abbrev pub AllowsStep : ℕ → ℕ → Side T → ℕ → (ℕ → ℕ) → (ℕ → Side T → Type 0) → Type 0
  AllowsStep slots id me i f then =
      (s : State (Kept T) (View T)) (r : Ruled content begun sizes s) → length s.homes ≡ slots
      → get_elem? s.views id ≡ some me.0 → slice_index s.words i < 18446744073709551616
      → (next : View T) × (act : Act (Kept T)) × Valid s.homes me.1 act
      × RuledNext r.events me.0 next (stepped s i (f (slice_index s.words i)) id me.1 next act)
      × then (slice_index s.words i) (next, carried_after me.1 act)

  -- The rule holds once a seat is cut in two or two are joined, and these events go on by one of seats, or
  -- not.
  pub record RuledSeats (before : List Event) (state : State (Kept T) (View T)) : Type 0 where
    pub rule : Ruled content begun sizes state
    pub goes_on :
        (rule.events ≡ before)
        ⊎ ((event : Event) × (is_of_seats event.step ≡ true) × (rule.events ≡ before ++ event ∷ []))

  -- The seat's view is cut in two, and a new seat has the second.
  abbrev pub SplitsSeat : ℕ → View T → View T → View T → Type 0
  SplitsSeat id view left right =
      (s : State (Kept T) (View T)) (r : Ruled content begun sizes s) → get_elem? s.views id ≡ some view
      → RuledSeats r.events (record {
        words = s.words;
        homes = s.homes;
        views = slice_set s.views id left ++ right ∷ [];
      })

  -- The seat takes in the view of another, which is spent.
  abbrev pub JoinsSeat : ℕ → View T → ℕ → View T → View T → View T → Type 0
  JoinsSeat id view other its both spent =
      (s : State (Kept T) (View T)) (r : Ruled content begun sizes s) → get_elem? s.views id ≡ some view
      → ¬ (other ≡ id) → get_elem? (slice_set s.views id both) other ≡ some its
      → RuledSeats r.events (record {
        words = s.words;
        homes = s.homes;
        views = slice_set (slice_set s.views id both) other spent;
      })
