use Rattle.std.proofs.Common.{◌≡◌, ℕ, false, ◌||◌, List, [], ◌∷◌, Option, Some, None, refl, ap, inl, inr}
use Rattle.modes_core.specs.declared.modes.Mode.{Mode}
use Rattle.modes_core.specs.declared.tags.Tag.{Tag}
use Rattle.modes_core.specs.Tag.{partition_of}
use Rattle.lock_table.specs.declared.moves.Move.{Move}
use Rattle.lock_table.specs.Content.{Content, empty_content}
use Rattle.lock_world.specs.declared.events.Event.{Event}
use Rattle.lock_world.specs.World.{World, opening}
use Rattle.lock_world.specs.Happens.{Next, RunsThrough}
use Rattle.lock_world.specs.SafeWorld.{SafeWorld}
use Rattle.lock_world.proofs.Lemmas.Slots.Databases.{slot_holds-unused}
use Rattle.lock_world.proofs.Lemmas.SafeWorld.Runs.{Next-safe}
use Rattle.one_list.specs.OneList.{list_of, Does, move_of_step, IsStepOfList, IsRunOfList}
use Rattle.one_list.specs.Requests.{AnswersAlike}
use Rattle.one_list.proofs.Lemmas.Over.{ClashIs-over, WaitingAnswer-over}
use Rattle.one_list.proofs.Lemmas.Slots.{shown_on, beside-done, beside-queue}
use Rattle.one_list.proofs.Lemmas.Steps.{step-moves}

-- Whole runs.

-- What a step does is a step of the list.
pub does-step : (done : Option Move) (before : Content) (s : ℕ) (after : Content) → Does done before s after → IsStepOfList s before after
does-step None before s after does = inl does
does-step (Some done) before s after does = inr (done, does.0, does.1)

pub next-step : (w v : World) (event : Event) → SafeWorld w → Next w event v → IsStepOfList event.session (list_of w) (list_of v)
next-step w v event safe (inl h) =
    does-step (move_of_step w event.session event.step) (list_of w) event.session (list_of v) (step-moves w safe event.session event.step v h)
next-step w v event safe (inr h) = inl (ap list_of h.1)

pub through : (w : World) (events : List Event) (worlds : List World) → SafeWorld w → RunsThrough w events worlds → IsRunOfList (list_of w) events worlds
through w [] [] safe run = tt
through w [] (v ∷ worlds) safe run = absurd run
through w (event ∷ events) [] safe run = absurd run
through w (event ∷ events) (v ∷ worlds) safe run = (next-step w v event safe run.0, through v events worlds (Next-safe w event v safe run.0) run.1)

-- The opening World shows the empty list.
pub opening-list : (limit groups : ℕ) → list_of (opening limit groups) ≡ empty_content
opening-list limit groups = λ i. record {
  holds = λ k o n. slot_holds-unused 0 (λ _. 0) (λ place within. refl) i o n || false;
  waits = λ o. [];
}

-- What the content of an object's partition answers, the list answers, where the mode is weak, or counted
-- past each session.
pub alike : (w : World) → SafeWorld w → (s : ℕ) (t : Tag) (m : Mode) → AnswersAlike w s t m (w.contents.now (partition_of t))
alike w safe s t m = record {
  clashes = λ cleared clash is.
      ClashIs-over (shown_on w safe t) t (w.contents.now (partition_of t)) (list_of w) (λ k n. refl) refl s m clash (beside-done w safe s t m cleared) is;
  answers = λ cleared answer is.
      WaitingAnswer-over (shown_on w safe t) t (w.contents.now (partition_of t)) (list_of w) (λ k n. refl) refl s m answer
      (beside-done w safe s t m cleared) (beside-queue w safe (partition_of t) t) is;
}
