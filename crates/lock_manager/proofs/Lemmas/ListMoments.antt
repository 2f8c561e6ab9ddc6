use Rattle.std.proofs.Common.{◌≡◌, ◌⊎◌, ℕ, ◌==◌, true, false, List, [], ◌∷◌, ◌++◌, map, refl, sym, ap, ◌∙◌, subst, inl, inr, append_assoc}
use Rattle.std.specs.Prelude.{not}
use Rattle.std.specs.List.{filter}
use Rattle.std.proofs.lemmas.Bool.{cases_Bool, eqb-true}
use Rattle.modes_core.proofs.Lemmas.Conflicts.{both_true}
use mathlib.Core.Bool.{cond}
use Rattle.lock_world.specs.declared.events.Event.{Event}
use Rattle.lock_world.specs.declared.events.Step.{Step}
use Rattle.lock_world.specs.Happens.{Happens}
use Rattle.lock_world.specs.World.{World}
use Rattle.lock_world.specs.SafeWorld.{SafeWorld}
use Rattle.lock_world.proofs.Lemmas.SafeWorld.Runs.{Runs-safe}
use Rattle.one_list.proofs.Lemmas.Steps.{step-moves}
use Rattle.shared_rule.specs.declared.history.Mark.{Mark}
use Rattle.shared_rule.specs.Tells.{Tells, AreTold, Leads, LooksOnly, is_of_seats, is_step_of, steps_of}
use Rattle.shared_rule.proofs.Lemmas.Told.{leads-runs}
use Rattle.lock_manager.specs.ListMoments.{HasItsMoment}

-- Each mark of a history that tells a step has its event in the run.

-- the steps with this one among them, that the mark tells, behind those that the older marks tell
abbrev ToldAmong : {T : Type 0} → ℕ → Mark T → List (Mark T) → List Step → Type 0
ToldAmong number mark older steps =
    (before : List Step) × (its : Step) × (after : List Step) × (steps ≡ before ++ its ∷ after) × Tells number mark its × AreTold number older before

module _ {T : Type 0} (number : ℕ) (mark : Mark T) (older : List (Mark T)) where
  pub told-among : (newer : List (Mark T)) (steps : List Step) → AreTold number (newer ++ mark ∷ older) steps → LooksOnly mark ⊎ ToldAmong number mark older steps
  told-among [] steps (inl told) = inr (told.0, told.1, [], told.2, told.3, told.4)
  told-among [] steps (inr looks) = inl looks.0
  told-among (m ∷ newer) steps (inl told) =
      elim (told-among newer told.0 told.4) [
        | inl looks ↦ inl looks
        | inr among ↦ inr (
          among.0,
          among.1,
          among.2 ++ told.1 ∷ [],
          told.2 ∙ ap (λ all. all ++ told.1 ∷ []) among.3 ∙ append_assoc among.0 (among.1 ∷ among.2) (told.1 ∷ []),
          among.4,
          among.5,
        )
      ]
  told-among (m ∷ newer) steps (inr looks) = told-among newer steps looks.1

-- A step of the session among its steps is an event among all.
abbrev EventAmong : ℕ → List Event → List Step → Step → Type 0
EventAmong number events steps its =
    (before : List Event) × (after : List Event) × (events ≡ before ++ record { session = number; step = its } ∷ after) × (steps_of number before ≡ steps)

steps-with : (number : ℕ) (event : Event) (events : List Event) → is_step_of number event ≡ true → steps_of number (event ∷ events) ≡ event.step ∷ steps_of number events
steps-with number event events own = ap (λ b. map (λ (e : Event). e.step) (cond b (event ∷ filter (is_step_of number) events) (filter (is_step_of number) events))) own

steps-without : (number : ℕ) (event : Event) (events : List Event) → is_step_of number event ≡ false → steps_of number (event ∷ events) ≡ steps_of number events
steps-without number event events other = ap (λ b. map (λ (e : Event). e.step) (cond b (event ∷ filter (is_step_of number) events) (filter (is_step_of number) events))) other

-- The first of the events, where it is the session's.
event-here : (number : ℕ) (event : Event) (events : List Event) (its : Step) (after : List Step)
    → ((before : List Step) → steps_of number events ≡ before ++ its ∷ after → EventAmong number events before its) → (before : List Step)
    → event.step ∷ steps_of number events ≡ before ++ its ∷ after → is_step_of number event ≡ true → EventAmong number (event ∷ events) before its
event-here number event events its after others [] same own =
    let session : event.session ≡ number = eqb-true event.session number (both_true (event.session == number) (not (is_of_seats event.step)) own).0 in
    let step : event.step ≡ its = cc (same) in
    ([], events, (λ i. record { session = session i; step = step i } ∷ events), refl)
event-here number event events its after others (x ∷ before) same own =
    let step : event.step ≡ x = cc (same) in
    let left : steps_of number events ≡ before ++ its ∷ after = cc (same) in
    let rest = others before left in
    (event ∷ rest.0, rest.1, ap (λ all. event ∷ all) rest.2, steps-with number event rest.0 own ∙ (λ i. step i ∷ rest.3 i))

pub event-among : (number : ℕ) (events : List Event) (before : List Step) (its : Step) (after : List Step) → steps_of number events ≡ before ++ its ∷ after → EventAmong number events before its
event-among number [] [] its after is = absurd (cc)
event-among number [] (x ∷ before) its after is = absurd (cc)
event-among number (event ∷ events) before its after is =
    elim (cases_Bool (is_step_of number event)) [
      | inl own ↦ event-here number event events its after (λ left at. event-among number events left its after at) before (sym (steps-with number event events own) ∙ is) own
      | inr other ↦
          let rest = event-among number events before its after (sym (steps-without number event events other) ∙ is) in
          (event ∷ rest.0, rest.1, ap (λ all. event ∷ all) rest.2, steps-without number event rest.0 other ∙ rest.3)
    ]

-- Events that lead from one World to another go by those before and after each of them.
abbrev LeadsBy : World → List Event → Event → List Event → World → Type 0
LeadsBy w before event after v = (u : World) × (next : World) × Leads w before u × Happens u event next × Leads next after v

leads-by : (w : World) (before : List Event) (event : Event) (after : List Event) (v : World) → Leads w (before ++ event ∷ after) v → LeadsBy w before event after v
leads-by w [] event after v leads = (w, leads.0, refl, leads.1, leads.2)
leads-by w (first ∷ before) event after v leads =
    let rest = leads-by leads.0 before event after v leads.2 in
    (rest.0, rest.1, (leads.0, leads.1, rest.2), rest.3, rest.4)

module _ {T : Type 0} (w : World) (safe : SafeWorld w) (events : List Event) (v : World) (leads : Leads w events v) (number : ℕ) (mark : Mark T) (older : List (Mark T)) where
  pub moment : (newer : List (Mark T)) → AreTold number (newer ++ mark ∷ older) (steps_of number events) → LooksOnly mark ⊎ HasItsMoment w events v number mark older
  moment newer told = elim (told-among number mark older newer (steps_of number events) told) [
    | inl looks ↦ inl looks
    | inr among ↦ inr (
        let at = event-among number events among.0 among.1 among.2 among.3 in
        let by = leads-by w at.0 (record { session = number; step = among.1 }) at.1 v (subst (λ all. Leads w all v) at.2 leads) in
        record {
          step = among.1;
          before = at.0;
          after = at.1;
          all = at.2;
          tells = among.4;
          older_steps = subst (AreTold number older) (sym at.3) among.5;
          world = by.0;
          next = by.1;
          led = by.2;
          happens = by.3;
          leads = by.4;
          moves = step-moves by.0 (Runs-safe w at.0 by.0 safe (leads-runs w at.0 by.0 by.2)) number among.1 by.1 by.3;
        })
  ]
