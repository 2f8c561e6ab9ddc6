use Rattle.std.proofs.Common.{◌≡◌, ◌≢◌, ◌⊎◌, ℕ, ◌<◌, arith, Bool, true, false, List, [], ◌∷◌, ◌++◌, map, Option, Some, None, refl, sym, ap, ◌∙◌, subst, inl, inr}
use Rattle.std.specs.Prelude.{◌&&◌, not, slice_index}
use Rattle.std.proofs.lemmas.Bool.{cases_Bool, cases_eq, cases_lt, both_ways, eq-eqb}
use Rattle.std.specs.List.{filter}
use mathlib.Core.Bool.{cond}
use Rattle.lock_world.specs.declared.events.Event.{Event}
use Rattle.lock_world.specs.declared.events.Step.{Step}
use Rattle.lock_world.specs.declared.events.Step.TheVariants.{SplitSeat, JoinSeat, LoadStrong}
use Rattle.lock_world.specs.World.{World, Words, opening}
use Rattle.lock_world.specs.Happens.{HappensStep}
use Rattle.lock_table.specs.declared.request.Request.{Request}
use Rattle.lock_table.specs.Content.{Content}
use Rattle.atomic_table.specs.Table.{State}
use Rattle.lock_world.specs.declared.events.Word.TheVariants.{Strong}
use Rattle.shared_rule.specs.declared.history.Mark.{Mark}
use Rattle.shared_rule.specs.declared.history.History.{History}
use Rattle.shared_rule.specs.declared.history.View.{View}
use Rattle.shared_rule.specs.declared.kept.Kept.{Kept}
use Rattle.shared_rule.specs.declared.rule.TableSizes.{TableSizes}
use Rattle.shared_rule.specs.Layout.{index_of_word}
use Rattle.shared_rule.specs.Marks.{LoadedStrong}
use Rattle.shared_rule.specs.Tells.{is_of_seats, is_step_of, steps_of, AreTold, LooksOnly, at_list, at_lock, calls_waiter, calls_sleeper, at_wait, at_sleep, Leads}
use Rattle.shared_rule.specs.Ruled.{StandsAtSeat, NobodyElse, Ruled}
use Rattle.shared_rule.proofs.Lemmas.GivenOut.{has-history}

-- Where nobody else has made a step, a load that a session made last shows what its word shows.

-- A load is no look, and no call.
no-look : {T : Type 0} (index shown : ℕ) → LooksOnly (LoadedStrong {T = T} index shown) → ⊥
no-look index shown (at_list lock is) = cc (is)
no-look index shown (at_lock lock showed is) = cc (is)
no-look index shown (calls_waiter other is) = cc (is)
no-look index shown (calls_sleeper other is) = cc (is)
no-look index shown (at_wait showed is) = cc (is)
no-look index shown (at_sleep showed is) = cc (is)

-- Steps of seats leave all words as they are.
pub seats-words : (w : World) (s : ℕ) (its : Step) (v : World) → is_of_seats its ≡ true → HappensStep w s its v → v.words ≡ w.words
seats-words w s SplitSeat v seats (inl issued) = ap (λ (z : World). z.words) issued.1
seats-words w s SplitSeat v seats (inr goes_on) = ap (λ (z : World). z.words) goes_on.1
seats-words w s (JoinSeat None) v seats happens = ap (λ (z : World). z.words) happens.1
seats-words w s (JoinSeat (Some joiner)) v seats happens = ap (λ (z : World). z.words) happens.1
seats-words w s its v seats happens = absurd (cc (seats))

-- The first event of a list is of seats, or the session's own, or another's.
pub own-or-not : (number : ℕ) (event : Event) → (is_step_of number event ≡ true) ⊎ (is_step_of number event ≡ false)
own-or-not number event = cases_Bool (is_step_of number event)

pub first-own : (number : ℕ) (event : Event) (events : List Event) → is_step_of number event ≡ true → steps_of number (event ∷ events) ≡ event.step ∷ steps_of number events
first-own number event events own = ap (λ b. map (λ (e : Event). e.step) (cond b (event ∷ filter (is_step_of number) events) (filter (is_step_of number) events))) own

pub first-not : (number : ℕ) (event : Event) (events : List Event) → is_step_of number event ≡ false → steps_of number (event ∷ events) ≡ steps_of number events
first-not number event events not_own = ap (λ b. map (λ (e : Event). e.step) (cond b (event ∷ filter (is_step_of number) events) (filter (is_step_of number) events))) not_own

-- What is not a step of its own session is of seats.
not-own-seats : (event : Event) → is_step_of event.session event ≡ false → is_of_seats event.step ≡ true
not-own-seats event not_own = go (is_of_seats event.step) refl where
  go : (b : Bool) → is_of_seats event.step ≡ b → is_of_seats event.step ≡ true
  go true is = is
  go false is = absurd (both_ways (is_step_of event.session event) not_own (λ i. eq-eqb event.session event.session refl i && not (is i)))

-- The events have no step but of one session.
abbrev pub NoOther : ℕ → List Event → Type 0
NoOther k events = (number : ℕ) → number ≢ k → steps_of number events ≡ []

no-other-rest : (k : ℕ) (event : Event) (events : List Event) → NoOther k (event ∷ events) → NoOther k events
no-other-rest k event events none number other = elim (own-or-not number event) [
  | inl own ↦ absurd (cc (sym (first-own number event events own) ∙ none number other))
  | inr not_own ↦ sym (first-not number event events not_own) ∙ none number other
]

-- An event that is no step of the session's is of seats then.
not-its-seats : (k : ℕ) (event : Event) (events : List Event) → NoOther k (event ∷ events) → is_step_of k event ≡ false → is_of_seats event.step ≡ true
not-its-seats k event events none not_its = not-own-seats event (elim (cases_eq event.session k) [
  | inl same ↦ subst (λ n. is_step_of n event ≡ false) (sym same) not_its
  | inr other ↦ elim (own-or-not event.session event) [
    | inl own ↦ absurd (cc (sym (first-own event.session event events own) ∙ none event.session other))
    | inr not_own ↦ not_own
  ]
])

-- With no step of anybody all words stay.
idle-words : (k : ℕ) (w : World) (events : List Event) (v : World) → Leads w events v → NoOther k events → steps_of k events ≡ [] → v.words ≡ w.words
idle-words k w [] v run none idle = ap (λ (z : World). z.words) run
idle-words k w (event ∷ events) v run none idle = elim (own-or-not k event) [
  | inl own ↦ absurd (cc (sym (first-own k event events own) ∙ idle))
  | inr not_own ↦
      idle-words k run.0 events v run.2 (no-other-rest k event events none) (sym (first-not k event events not_own) ∙ idle)
      ∙ seats-words w event.session event.step run.0 (not-its-seats k event events none not_own) run.1
]

-- What stands last in a list.
last-one : {A : Type 0} (x : A) (before : List A) (last : A) → x ∷ [] ≡ before ++ last ∷ [] → x ≡ last
last-one x [] last same = cc (same)
last-one x (y ∷ []) last same = absurd (cc (same))
last-one x (y ∷ z ∷ before) last same = absurd (cc (same))

last-later : {A : Type 0} (x y : A) (others before : List A) (last : A) → x ∷ y ∷ others ≡ before ++ last ∷ [] → (rest : List A) × (y ∷ others ≡ rest ++ last ∷ [])
last-later x y others [] last same = absurd (cc (same))
last-later x y others (z ∷ before) last same = (before, cc (same))

-- The first event is the session's own: that load, or, with another step of the session behind it, one before
-- it.
last-step : (k : ℕ) (w : World) (event : Event) (events : List Event) (v : World) (index shown : ℕ) (before : List Step) → Leads w (event ∷ events) v
    → NoOther k (event ∷ events) → steps_of k (event ∷ events) ≡ before ++ LoadStrong index shown ∷ [] → is_step_of k event ≡ true
    → ((rest : List Step) → steps_of k events ≡ rest ++ LoadStrong index shown ∷ [] → shown ≡ v.words.strong index) → shown ≡ v.words.strong index
last-step k w event events v index shown before run none steps own again = go (steps_of k events) refl where
  go : (rest : List Step) → steps_of k events ≡ rest → shown ≡ v.words.strong index
  go [] idle =
      let is : event.step ≡ LoadStrong index shown = last-one event.step before (LoadStrong index shown) (ap (λ rest. event.step ∷ rest) (sym idle) ∙ sym (first-own k event events own) ∙ steps) in
      let happens : HappensStep w event.session (LoadStrong index shown) run.0 = subst (λ its. HappensStep w event.session its run.0) is run.1 in
      happens.0.is_shown ∙ ap (λ (z : World). z.words.strong index) (sym happens.1)
      ∙ ap (λ (words : Words). words.strong index) (sym (idle-words k run.0 events v run.2 (no-other-rest k event events none) idle))
  go (y ∷ others) is =
      let later = last-later event.step y others before (LoadStrong index shown) (ap (λ rest. event.step ∷ rest) (sym is) ∙ sym (first-own k event events own) ∙ steps) in
      again later.0 (is ∙ later.1)

-- The load that was made last shows the word.
pub last-load : (k : ℕ) (w : World) (events : List Event) (v : World) (index shown : ℕ) (before : List Step) → Leads w events v → NoOther k events
    → steps_of k events ≡ before ++ LoadStrong index shown ∷ [] → shown ≡ v.words.strong index
last-load k w [] v index shown before run none steps = absurd (never before steps) where
  never : (before : List Step) → [] ≡ before ++ LoadStrong index shown ∷ [] → ⊥
  never [] same = cc (same)
  never (x ∷ before) same = cc (same)
last-load k w (event ∷ events) v index shown before run none steps = elim (own-or-not k event) [
  | inr not_own ↦ last-load k run.0 events v index shown before run.2 (no-other-rest k event events none) (sym (first-not k event events not_own) ∙ steps)
  | inl own ↦ last-step k w event events v index shown before run none steps own
      (λ rest is. last-load k run.0 events v index shown rest run.2 (no-other-rest k event events none) is)
]

-- Where nobody else has made a step, the load that its history has last shows the word of the World.
module _ {T : Type 0} (content : T → Content) (begun : T → Option Request) (sizes : TableSizes) (s : State (Kept T) (View T)) (r : Ruled content begun sizes s)
    (number index shown : ℕ) (marks : List (Mark T)) (stands : StandsAtSeat s.views (record { number = number; marks = LoadedStrong index shown ∷ marks })) (within : index < 1024)
    (idle : NobodyElse s.views number) where
  none-told : (history : History T) → history.marks ≡ [] → AreTold history.number history.marks (steps_of history.number r.events) → steps_of history.number r.events ≡ []
  none-told history none told = subst (λ (marks : List (Mark T)). AreTold history.number marks (steps_of history.number r.events)) none told

  no-other : NoOther number r.events
  no-other other apart = elim (cases_lt other r.world.numbers.issued) [
    | inl given ↦ elim (has-history content s.views r.world.numbers r.steps.opener r.closed
        (λ history there. r.seats.closed there.seat there.place there.view history there.there there.stands) r.steps.live other given) [
          | inl seat ↦
              subst (λ n. steps_of n r.events ≡ []) seat.number_
              (none-told seat.history (idle.at_seat seat.history seat.stands (λ e. apart (sym seat.number_ ∙ e))) (r.steps.at_seat seat.history seat.stands))
          | inr closed ↦
              subst (λ n. steps_of n r.events ≡ []) closed.number_
              (none-told closed.history (idle.closed closed.history closed.stands (λ e. apart (sym closed.number_ ∙ e))) (r.steps.closed closed.history closed.stands))
        ]
    | inr young ↦ r.steps.none other (omega (arith, young))
  ]

  pub load-shows : shown ≡ slice_index s.words (index_of_word sizes.sessions (Strong index))
  load-shows = elim (r.steps.at_seat (record { number = number; marks = LoadedStrong index shown ∷ marks }) stands) [
    | inl told ↦
        last-load number (opening sizes.sessions sizes.groups) r.events r.world index shown told.0 r.run no-other (told.2 ∙ ap (λ last. told.0 ++ last ∷ []) told.3)
        ∙ sym (r.shown.of_words.word (Strong index) (within, tt))
    | inr looked ↦ absurd (no-look index shown looked.0)
  ]
