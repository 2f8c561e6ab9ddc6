use Rattle.std.proofs.Common.{◌≡◌, ℕ, true, false, List, [], ◌∷◌, ◌++◌, refl, ap, ◌∙◌}
use Rattle.std.proofs.lemmas.List.{append-nil}
use Rattle.std.proofs.lemmas.List.Elements.{filter-append}
use mathlib.Core.Bool.{cond}
use Rattle.lock_world.specs.declared.events.Event.{Event}
use Rattle.lock_world.specs.Wakes.{Turn, happened, saw_list_locked, saw_held, called_waiter, called_sleeper, parks_waiting, parks_asleep}
use Rattle.shared_rule.specs.declared.history.Mark.{Mark}
use Rattle.shared_rule.specs.Tells.{TellsTurn, AreTurnsTold, events_of, is_turn_of, turns_of}

-- Turns go on by one more.

pub events-push : (turns : List Turn) (event : Event) → events_of (turns ++ happened event ∷ []) ≡ events_of turns ++ event ∷ []
events-push [] event = refl
events-push (happened first ∷ turns) event = ap (λ events. first ∷ events) (events-push turns event)
events-push (saw_list_locked s lock ∷ turns) event = events-push turns event
events-push (saw_held s lock ∷ turns) event = events-push turns event
events-push (called_waiter s other ∷ turns) event = events-push turns event
events-push (called_sleeper s other ∷ turns) event = events-push turns event
events-push (parks_waiting s shown ∷ turns) event = events-push turns event
events-push (parks_asleep s shown ∷ turns) event = events-push turns event

-- A turn that is no event leaves the events.
pub events-look : (turns : List Turn) (turn : Turn) → events_of (turn ∷ []) ≡ [] → events_of (turns ++ turn ∷ []) ≡ events_of turns
events-look [] turn none = none
events-look (happened first ∷ turns) turn none = ap (λ events. first ∷ events) (events-look turns turn none)
events-look (saw_list_locked s lock ∷ turns) turn none = events-look turns turn none
events-look (saw_held s lock ∷ turns) turn none = events-look turns turn none
events-look (called_waiter s other ∷ turns) turn none = events-look turns turn none
events-look (called_sleeper s other ∷ turns) turn none = events-look turns turn none
events-look (parks_waiting s shown ∷ turns) turn none = events-look turns turn none
events-look (parks_asleep s shown ∷ turns) turn none = events-look turns turn none

-- The turns of a session after one more: with it, where it is the session's, and else as they were.
turns-own : (number : ℕ) (turns : List Turn) (turn : Turn) → is_turn_of number turn ≡ true → turns_of number (turns ++ turn ∷ []) ≡ turns_of number turns ++ turn ∷ []
turns-own number turns turn own =
    filter-append (is_turn_of number) turns (turn ∷ []) ∙ ap (λ b. turns_of number turns ++ cond b (turn ∷ []) []) own

pub turns-beside : (number : ℕ) (turns : List Turn) (turn : Turn) → is_turn_of number turn ≡ false → turns_of number (turns ++ turn ∷ []) ≡ turns_of number turns
turns-beside number turns turn beside =
    filter-append (is_turn_of number) turns (turn ∷ []) ∙ ap (λ b. turns_of number turns ++ cond b (turn ∷ []) []) beside ∙ append-nil (turns_of number turns)

pub turns-push : {T : Type 0} (number : ℕ) (marks : List (Mark T)) (turns : List Turn) (mark : Mark T) (turn : Turn) → is_turn_of number turn ≡ true → TellsTurn number mark turn
    → AreTurnsTold number marks (turns_of number turns) → AreTurnsTold number (mark ∷ marks) (turns_of number (turns ++ turn ∷ []))
turns-push number marks turns mark turn own tells told = (turns_of number turns, turn, turns-own number turns turn own, tells, told)
