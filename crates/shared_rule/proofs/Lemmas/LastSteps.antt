use Rattle.std.proofs.Common.{◌≡◌, ◌⊎◌, ℕ, ◌+◌, ◌≤◌, arith, Bool, true, false, cond, List, [], ◌∷◌, ◌++◌, Option, Some, refl, sym, ap, ◌∙◌, inl, inr}
use Rattle.std.specs.Prelude.{◌&&◌, not}
use Rattle.std.proofs.lemmas.Bool.{cases_Bool, eq-eqb}
use Rattle.lock_world.specs.declared.events.Event.{Event}
use Rattle.lock_world.specs.declared.events.Step.{Step}
use Rattle.shared_rule.specs.Places.{is_step, steps_made, IsLastStep, IsPlaced}
use Rattle.shared_rule.specs.Tells.{is_of_seats, is_step_of, steps_of}
use Rattle.shared_rule.proofs.Lemmas.NoLie.{own-or-not, first-own, first-not}
use Rattle.shared_rule.proofs.Lemmas.Told.{of_seats}

-- The last step of each session, by its place in the run, and the run's last.

pub some-get : {A : Type 0} {x y : A} → ◌≡◌ {A = Option A} (Some x) (Some y) → x ≡ y
some-get {A} {x} {y} same = cc (same)

-- How many steps are made by one event more.
pub made-cons : (event : Event) (events : List Event) → steps_made (event ∷ events) ≡ cond (is_step event) 1 0 + steps_made events
made-cons event events = refl

pub made-step : (event : Event) (events : List Event) → is_step event ≡ true → steps_made (event ∷ events) ≡ 1 + steps_made events
made-step event events is = made-cons event events ∙ ap (λ b. cond b 1 0 + steps_made events) is

pub made-none : (event : Event) (events : List Event) → is_step event ≡ false → steps_made (event ∷ events) ≡ steps_made events
made-none event events is = made-cons event events ∙ ap (λ b. cond b 1 0 + steps_made events) is ∙ omega arith

pub made-both : (before after : List Event) → steps_made (before ++ after) ≡ steps_made before + steps_made after
made-both [] after = omega arith
made-both (event ∷ before) after =
    let rest = made-both before after in
    let one = made-cons event (before ++ after) in
    let other = made-cons event before in
    one ∙ ap (λ n. cond (is_step event) 1 0 + n) rest ∙ omega arith ∙ ap (λ n. n + steps_made after) (sym other)

pub seats-or-step : (event : Event) → (is_of_seats event.step ≡ true) ⊎ (is_step event ≡ true)
seats-or-step event = elim (cases_Bool (is_of_seats event.step)) [
  | inl seats ↦ inl seats
  | inr none ↦ inr (ap not none)
]

pub seats-none : (event : Event) → is_of_seats event.step ≡ true → is_step event ≡ false
seats-none event seats = ap not seats

pub not-not : (b : Bool) → not b ≡ true → b ≡ false
not-not true is = absurd (cc (is))
not-not false is = refl

pub own-step : (number : ℕ) (its : Step) → is_of_seats its ≡ false → is_step_of number (record { session = number; step = its }) ≡ true
own-step number its is = λ i. eq-eqb number number refl i && not (is i)

pub rest-none : (number : ℕ) (event : Event) (events : List Event) → steps_of number (event ∷ events) ≡ [] → steps_of number events ≡ []
rest-none number event events none = elim (own-or-not number event) [
  | inl own ↦ absurd (cc (sym (first-own number event events own) ∙ none))
  | inr other ↦ sym (first-not number event events other) ∙ none
]

pub never-none : (number : ℕ) (before : List Event) (its : Step) (after : List Event) → is_of_seats its ≡ false
    → steps_of number (before ++ record { session = number; step = its } ∷ after) ≡ [] → ⊥
never-none number [] its after is none = cc (sym (first-own number (record { session = number; step = its }) after (own-step number its is)) ∙ none)
never-none number (event ∷ before) its after is none =
    never-none number before its after is (rest-none number event (before ++ record { session = number; step = its } ∷ after) none)

-- Where no step is made, nobody makes one.
pub none-made : (number : ℕ) (events : List Event) → steps_made events ≡ 0 → steps_of number events ≡ []
none-made number [] none = refl
none-made number (event ∷ events) none = elim (seats-or-step event) [
  | inl seats ↦ first-not number event events (of_seats number event seats) ∙ none-made number events (sym (made-none event events (seats-none event seats)) ∙ none)
  | inr is ↦ absurd (let some = made-step event events is in omega (arith, some, none))
]

-- One session's last step is in one place.
pub one-place : (number : ℕ) (before after : List Event) (its : Step) (before' after' : List Event) (its' : Step)
    → before ++ record { session = number; step = its } ∷ after ≡ before' ++ record { session = number; step = its' } ∷ after'
    → is_of_seats its ≡ false → is_of_seats its' ≡ false → steps_of number after ≡ [] → steps_of number after' ≡ []
    → steps_made before ≡ steps_made before'
one-place number [] after its [] after' its' same is is' none none' = refl
one-place number [] after its (x ∷ before') after' its' same is is' none none' =
    let tails : after ≡ before' ++ record { session = number; step = its' } ∷ after' = cc (same) in
    absurd (never-none number before' its' after' is' (ap (steps_of number) (sym tails) ∙ none))
one-place number (x ∷ before) after its [] after' its' same is is' none none' =
    let tails : before ++ record { session = number; step = its } ∷ after ≡ after' = cc (same) in
    absurd (never-none number before its after is (ap (steps_of number) tails ∙ none'))
one-place number (x ∷ before) after its (y ∷ before') after' its' same is is' none none' =
    let heads : x ≡ y = cc (same) in
    let tails : before ++ record { session = number; step = its } ∷ after ≡ before' ++ record { session = number; step = its' } ∷ after' = cc (same) in
    made-cons x before
    ∙ (λ i. cond (is_step (heads i)) 1 0 + one-place number before after its before' after' its' tails is is' none none' i)
    ∙ sym (made-cons y before')

pub last-one : (number place other : ℕ) (events : List Event) → IsLastStep number place events → IsLastStep number other events → place ≡ other
last-one number place other events one two =
    one.at_place
    ∙ ap (λ n. n + 1) (one-place number one.before one.after one.its two.before two.after two.its (sym one.all ∙ two.all) one.is_own two.is_own one.none_later two.none_later)
    ∙ sym two.at_place

pub placed-last : (number place other : ℕ) (events : List Event) → IsPlaced number place events → IsLastStep number other events → place ≡ other
placed-last number place other events (inl none) last = absurd (never-none number last.before last.its last.after last.is_own (ap (steps_of number) (sym last.all) ∙ none.1))
placed-last number place other events (inr one) last = last-one number place other events one last

-- No place is beyond the last.
pub placed-most : (number place : ℕ) (events : List Event) → IsPlaced number place events → place ≤ steps_made events
placed-most number place events (inl none) = let is = none.0 in omega (arith, is)
placed-most number place events (inr one) =
    let all : steps_made events ≡ steps_made one.before + steps_made (record { session = number; step = one.its } ∷ one.after) =
    ap steps_made one.all ∙ made-both one.before (record { session = number; step = one.its } ∷ one.after) in
    let step : steps_made (record { session = number; step = one.its } ∷ one.after) ≡ 1 + steps_made one.after =
    made-step (record { session = number; step = one.its }) one.after (ap not one.is_own) in
    let at = one.at_place in
    omega (arith, all, step, at)

-- The last of all steps is somebody's last.
pub last-made : (events : List Event) → (steps_made events ≡ 0) ⊎ ((number : ℕ) × IsLastStep number (steps_made events) events)
last-made [] = inl refl
last-made (event ∷ events) = elim (last-made events) [
  | inr later ↦
      let it = later.1 in
      inr (
        later.0,
        record {
          before = event ∷ it.before;
          its = it.its;
          after = it.after;
          all = ap (λ es. event ∷ es) it.all;
          is_own = it.is_own;
          at_place =
              let one = made-cons event events in
              let other = made-cons event it.before in
              let at = it.at_place in
              omega (arith, one, other, at);
          none_later = it.none_later;
        },
      )
  | inl none ↦ elim (seats-or-step event) [
    | inl seats ↦ inl (made-none event events (seats-none event seats) ∙ none)
    | inr is ↦ inr (
      event.session,
      record {
        before = [];
        its = event.step;
        after = events;
        all = refl;
        is_own = not-not (is_of_seats event.step) is;
        at_place = made-step event events is ∙ ap (λ n. 1 + n) none;
        none_later = none-made event.session events none;
      },
    )
  ]
]
