use Rattle.std.proofs.Common.{◌≡◌, ◌⊎◌, ℕ, zero, suc, ◌+◌, ◌≤◌, ◌==◌, arith, Bool, true, false, cond, List, [], ◌∷◌, ◌++◌, map, Option, Some, None, refl, sym, ap, ◌∙◌, subst, inl, inr}
use Rattle.std.specs.Prelude.{not, slice_get, slice_index}
use Rattle.std.proofs.lemmas.Bool.{cases_lt}
use mathlib.Core.Option.{some, some-ne-none, some-injective}
use lib.ListN.{get_elem?}
use Rattle.atomic_table.specs.Table.{State}
use Rattle.atomic_table.proofs.Lists.{at_map}
use Rattle.lock_table.specs.declared.request.Request.{Request}
use Rattle.lock_table.specs.Content.{Content}
use Rattle.lock_world.specs.declared.events.Event.{Event}
use Rattle.lock_world.specs.declared.events.Step.{Step}
use Rattle.lock_world.specs.declared.events.Word.{Word}
use Rattle.lock_world.specs.declared.events.Word.TheVariants.{Fast, Database, Slot, Wait, Strong, Sleep}
use Rattle.lock_world.specs.World.{World, Words, word_in, opening}
use Rattle.lock_world.specs.Happens.{Happens, HappensStep}
use Rattle.lock_world.specs.Happens.Lists.{sleepers}
use Rattle.lock_world.specs.WaitLists.{after_seeing_none}
use Rattle.shared_rule.specs.declared.history.History.{History}
use Rattle.shared_rule.specs.declared.history.Mark.{Mark}
use Rattle.shared_rule.specs.declared.history.Mark.TheVariants as marks
use Rattle.shared_rule.specs.declared.history.PlacedView.{PlacedView}
use Rattle.shared_rule.specs.declared.history.View.{View}
use Rattle.shared_rule.specs.declared.history.WordMark.{WordMark}
use Rattle.shared_rule.specs.declared.history.WordMark.TheVariants as words
use Rattle.shared_rule.specs.declared.kept.Kept.{Kept}
use Rattle.shared_rule.specs.declared.rule.TableSizes.{TableSizes}
use Rattle.shared_rule.specs.Layout.{index_of_word, IsInTable}
use Rattle.shared_rule.specs.Places.{steps_made, place_of, IsLastStep, IsPlaced, without_places, RuledInOrder, word_loaded, word_loaded_by, NoneIsLater}
use Rattle.shared_rule.specs.Tells.{is_of_seats, is_step_of, steps_of, Tells, AreTold, LooksOnly, at_list, at_lock, calls_waiter, calls_sleeper, at_wait, at_sleep, Leads}
use Rattle.shared_rule.specs.Ruled.{StandsAtSeat, StandsClosed, HasSeat, HasClosedHistory, Ruled}
use Rattle.shared_rule.proofs.Lemmas.GivenOut.{has-history}
use Rattle.shared_rule.proofs.Lemmas.NoLie.{seats-words, own-or-not, first-own, first-not}
use Rattle.shared_rule.proofs.Lemmas.LastSteps.{some-get, made-step, made-none, made-both, seats-or-step, seats-none, own-step, never-none, placed-last, last-made}

-- A load that is the last step of the run shows the word as it is.

-- A run by one of its events.
leads-cut : (w : World) (before : List Event) (event : Event) (after : List Event) (v : World) → Leads w (before ++ event ∷ after) v
    → (u : World) × (next : World) × Happens u event next × Leads next after v
leads-cut w [] event after v run = (w, run.0, run.1, run.2)
leads-cut w (first ∷ before) event after v run = leads-cut run.0 before event after v run.2

-- Where no step is made all words stay.
still-words : (w : World) (events : List Event) (v : World) → Leads w events v → steps_made events ≡ 0 → v.words ≡ w.words
still-words w [] v run none = ap (λ (z : World). z.words) run
still-words w (event ∷ events) v run none = elim (seats-or-step event) [
  | inl seats ↦
      still-words run.0 events v run.2 (sym (made-none event events (seats-none event seats)) ∙ none)
      ∙ seats-words w event.session event.step run.0 seats run.1
  | inr is ↦ absurd (let some = made-step event events is in omega (arith, some, none))
]

-- A load shows the word, and leaves it.
sleeps-same : (w : World) (session number : ℕ) (b : Bool) → (cond b (after_seeing_none (sleepers w) session) (sleepers w)).sleep number ≡ w.words.sleep number
sleeps-same w session number true = refl
sleeps-same w session number false = refl

module _ (number : ℕ) (its : Step) (u v : World) (happens : HappensStep u number its v) where
  abbrev Shows : Word × ℕ → Type 0
  Shows said = said.1 ≡ word_in v.words said.0

  -- the words after are those before, which it showed
  as-before : (word : Word) (shown : ℕ) → shown ≡ word_in u.words word → (after : World) → v ≡ after → word_in after.words word ≡ word_in u.words word → Shows (word, shown)
  as-before word shown is after same words_same = is ∙ sym words_same ∙ ap (λ (z : World). word_in z.words word) (sym same)

  load-told : (mark : WordMark) (said : Word × ℕ) → word_loaded_by number mark ≡ Some said → Rattle.shared_rule.specs.Tells.WordsTell number mark its → Shows said
  load-told (words.LoadedWait shown) said says tells =
      let it = subst (λ s. HappensStep u number s v) tells happens in
      subst Shows (some-get says) (as-before (Wait number) shown it.0.is_word _ it.1 refl)
  load-told (words.LoadedDatabase owner shown) said says tells =
      let it = subst (λ s. HappensStep u number s v) tells happens in
      subst Shows (some-get says) (as-before (Database owner) shown it.0.is_shown _ it.1 refl)
  load-told (words.LoadedSlot owner slot shown) said says tells =
      let it = subst (λ s. HappensStep u number s v) tells happens in
      subst Shows (some-get says) (as-before (Slot owner slot) shown it.0.is_shown _ it.1 refl)
  load-told (words.LoadedFast shown) said says tells =
      let it = subst (λ s. HappensStep u number s v) tells happens in
      subst Shows (some-get says) (as-before (Fast number) shown it.1.is_shown _ it.2 refl)
  load-told (words.LoadedStrong index shown) said says tells =
      let it = subst (λ s. HappensStep u number s v) tells happens in
      subst Shows (some-get says) (as-before (Strong index) shown it.0.is_shown _ it.1 refl)
  load-told (words.LoadedSleep shown) said says tells =
      let it = subst (λ s. HappensStep u number s v) tells happens in
      subst Shows (some-get says) (as-before (Sleep number) shown it.0.is_word _ it.1 (sleeps-same u number number (shown == 0)))
  load-told (words.TookFast owner database shown) said says tells = absurd (cc (says))
  load-told (words.PutFast owner found) said says tells = absurd (cc (says))
  load-told (words.SharedFast owner database shown) said says tells = absurd (cc (says))
  load-told (words.UnsharedFast owner found) said says tells = absurd (cc (says))
  load-told (words.Passed owner tag mode found) said says tells = absurd (cc (says))
  load-told (words.Counted tag mode) said says tells = absurd (cc (says))
  load-told (words.Uncounted tag mode) said says tells = absurd (cc (says))
  load-told (words.Asked other before) said says tells = absurd (cc (says))
  load-told words.ClearedWait said says tells = absurd (cc (says))
  load-told (words.SetSlot slot tag mode) said says tells = absurd (cc (says))
  load-told (words.ClearedSlot slot tag mode) said says tells = absurd (cc (says))
  load-told (words.TransferredSlot owner slot tag mode) said says tells = absurd (cc (says))
  load-told (words.StoredDatabase database) said says tells = absurd (cc (says))
  load-told (words.LockedList lock waiters) said says tells = absurd (cc (says))
  load-told words.UnlockedList said says tells = absurd (cc (says))
  load-told (words.JoinedList mode) said says tells = absurd (cc (says))
  load-told words.LeftList said says tells = absurd (cc (says))
  load-told (words.TookOff other) said says tells = absurd (cc (says))
  load-told (words.Told other) said says tells = absurd (cc (says))
  load-told (words.SetReleaseOk lock) said says tells = absurd (cc (says))
  load-told (words.SetHasWaiters lock) said says tells = absurd (cc (says))
  load-told (words.SawListLocked lock) said says tells = absurd (cc (says))
  load-told (words.SawHeld lock shown) said says tells = absurd (cc (says))
  load-told (words.CalledWaiter other) said says tells = absurd (cc (says))
  load-told (words.CalledSleeper other) said says tells = absurd (cc (says))
  load-told (words.ParksWaiting shown) said says tells = absurd (cc (says))
  load-told (words.ParksAsleep shown) said says tells = absurd (cc (says))

  loaded-shows : {T : Type 0} (mark : Mark T) (said : Word × ℕ) → word_loaded number mark ≡ Some said → Tells number mark its → Shows said
  loaded-shows (marks.OfWords mark) said says tells = load-told mark said says tells
  loaded-shows (marks.TookPart part taken) said says tells = absurd (cc (says))
  loaded-shows (marks.PutPart part done put found) said says tells = absurd (cc (says))
  loaded-shows (marks.SetWaiting tag mode now) said says tells = absurd (cc (says))
  loaded-shows (marks.MarkedGranted part other done woken now) said says tells = absurd (cc (says))
  loaded-shows (marks.LeftQueue woken now) said says tells = absurd (cc (says))

-- A load is no look.
loads-look : {T : Type 0} (number : ℕ) (mark : Mark T) (said : Word × ℕ) → word_loaded number mark ≡ Some said → LooksOnly mark → ⊥
loads-look number mark said says (at_list lock same) = let never : ◌≡◌ {A = Option (Word × ℕ)} None (Some said) = ap (word_loaded number) (sym same) ∙ says in cc (never)
loads-look number mark said says (at_lock lock showed same) = let never : ◌≡◌ {A = Option (Word × ℕ)} None (Some said) = ap (word_loaded number) (sym same) ∙ says in cc (never)
loads-look number mark said says (calls_waiter other same) = let never : ◌≡◌ {A = Option (Word × ℕ)} None (Some said) = ap (word_loaded number) (sym same) ∙ says in cc (never)
loads-look number mark said says (calls_sleeper other same) = let never : ◌≡◌ {A = Option (Word × ℕ)} None (Some said) = ap (word_loaded number) (sym same) ∙ says in cc (never)
loads-look number mark said says (at_wait showed same) = let never : ◌≡◌ {A = Option (Word × ℕ)} None (Some said) = ap (word_loaded number) (sym same) ∙ says in cc (never)
loads-look number mark said says (at_sleep showed same) = let never : ◌≡◌ {A = Option (Word × ℕ)} None (Some said) = ap (word_loaded number) (sym same) ∙ says in cc (never)

-- The last of a list.
last-same : {A : Type 0} (xs ys : List A) (x y : A) → xs ++ x ∷ [] ≡ ys ++ y ∷ [] → x ≡ y
last-same [] [] x y same = cc (same)
last-same [] (z ∷ []) x y same = absurd (cc (same))
last-same [] (z ∷ z' ∷ ys) x y same = absurd (cc (same))
last-same (z ∷ []) [] x y same = absurd (cc (same))
last-same (z ∷ z' ∷ xs) [] x y same = absurd (cc (same))
last-same (z ∷ xs) (z' ∷ ys) x y same = let tails : xs ++ x ∷ [] ≡ ys ++ y ∷ [] = cc (same) in last-same xs ys x y tails

-- The steps of a session end with the one at its place.
steps-end : (number : ℕ) (before : List Event) (its : Step) (after : List Event) → is_of_seats its ≡ false → steps_of number after ≡ []
    → (earlier : List Step) × (steps_of number (before ++ record { session = number; step = its } ∷ after) ≡ earlier ++ its ∷ [])
steps-end number [] its after is none =
    ([], first-own number (record { session = number; step = its }) after (own-step number its is) ∙ ap (λ steps. its ∷ steps) none)
steps-end number (event ∷ before) its after is none =
    let rest = steps-end number before its after is none in
    elim (own-or-not number event) [
      | inl own ↦ (
        event.step ∷ rest.0,
        first-own number event (before ++ record { session = number; step = its } ∷ after) own ∙ ap (λ steps. event.step ∷ steps) rest.1,
      )
      | inr other ↦ (rest.0, first-not number event (before ++ record { session = number; step = its } ∷ after) other ∙ rest.1)
    ]

module _ {T : Type 0} (content : T → Content) (begun : T → Option Request) (sizes : TableSizes) (s : State (Kept T) (PlacedView T)) (order : RuledInOrder content begun sizes s) where
  abbrev r : Ruled content begun sizes (without_places s)
  r = order.rule

  -- a view without its places is that of a seat
  pub placed-there : (these : View T → List (History T)) (history : History T) → Rattle.shared_rule.specs.Ruled.StandsAmong these (without_places s).views history
      → (seat at : ℕ) × (placed : PlacedView T) × (get_elem? s.views seat ≡ some placed) × (slice_get (these placed.view) at ≡ Some history)
  placed-there these history stands =
      let there = from s.views stands.seat stands.view stands.there in
      (stands.seat, stands.place, there.0, there.1, ap (λ (v : View T). slice_get (these v) stands.place) there.2 ∙ stands.stands) where
        from : (views : List (PlacedView T)) (seat : ℕ) (view : View T) → get_elem? (map (λ (p : PlacedView T). p.view) views) seat ≡ some view
            → (placed : PlacedView T) × (get_elem? views seat ≡ some placed) × (placed.view ≡ view)
        from [] seat view there = absurd (some-ne-none view (sym there))
        from (x ∷ views) zero view there = (x, refl, some-injective x.view view there)
        from (x ∷ views) (suc seat) view there = from views seat view there

  -- Each session that made a step was given out, and has its history.
  pub each-has : (number place : ℕ) → IsLastStep number place r.events → HasSeat (without_places s).views number ⊎ HasClosedHistory (without_places s).views number
  each-has number place last = elim (cases_lt number r.world.numbers.issued) [
    | inl given ↦ has-history content (without_places s).views r.world.numbers r.steps.opener r.closed
        (λ history there. r.seats.closed there.seat there.place there.view history there.there there.stands) r.steps.live number given
    | inr young ↦ absurd (never-none number last.before last.its last.after last.is_own (ap (steps_of number) (sym last.all) ∙ r.steps.none number (omega (arith, young))))
  ]

  -- Where nobody is later than a place, the run has no more steps.
  pub none-later : (place : ℕ) → NoneIsLater s.views place → steps_made r.events ≤ place
  none-later place none = elim (last-made r.events) [
    | inl nothing ↦ omega (arith, nothing)
    | inr last ↦ elim (each-has last.0 (steps_made r.events) last.1) [
      | inl seat ↦
          let there = placed-there (λ view. view.sessions) seat.history seat.stands in
          let most = none.at_seat there.0 there.1 there.2 seat.history there.3 there.4 in
          let its = placed-last seat.history.number (place_of there.2.places seat.history.number) (steps_made r.events) r.events
          (order.placed.at_seat there.0 there.1 there.2 seat.history there.3 there.4) (subst (λ n. IsLastStep n (steps_made r.events) r.events) (sym seat.number_) last.1) in
          subst (λ n. n ≤ place) its most
      | inr closed ↦
          let there = placed-there (λ view. view.closed) closed.history closed.stands in
          let most = none.closed there.0 there.1 there.2 closed.history there.3 there.4 in
          let its = placed-last closed.history.number (place_of there.2.places closed.history.number) (steps_made r.events) r.events
          (order.placed.closed there.0 there.1 there.2 closed.history there.3 there.4) (subst (λ n. IsLastStep n (steps_made r.events) r.events) (sym closed.number_) last.1) in
          subst (λ n. n ≤ place) its most
    ]
  ]

  -- A load that is the run's last step shows the word.
  pub last-load-shows : (seat at : ℕ) (placed : PlacedView T) (number : ℕ) (mark : Mark T) (others : List (Mark T)) → get_elem? s.views seat ≡ some placed
      → slice_get placed.view.sessions at ≡ Some (record { number = number; marks = mark ∷ others }) → (word : Word) (shown : ℕ) → word_loaded number mark ≡ Some (word, shown)
      → IsInTable sizes word → NoneIsLater s.views (place_of placed.places number) → shown ≡ slice_index s.words (index_of_word sizes.sessions word)
  last-load-shows seat at placed number mark others there stands word shown says exists none =
      elim (r.steps.at_seat (record { number = number; marks = mark ∷ others }) (record {
        seat = seat;
        place = at;
        view = placed.view;
        there = at_map (λ (p : PlacedView T). p.view) s.views seat placed there;
        stands = stands;
      })) [
        | inr looked ↦ absurd (loads-look number mark (word, shown) says looked.0)
        | inl told ↦ by told.0 told.1 told.2 told.3 (order.placed.at_seat seat at placed (record { number = number; marks = mark ∷ others }) there stands)
      ] where
        most : steps_made r.events ≤ place_of placed.places number
        most = none-later (place_of placed.places number) none

        by : (earlier : List Step) (last : Step) → steps_of number r.events ≡ earlier ++ last ∷ [] → Tells number mark last → IsPlaced number (place_of placed.places number) r.events
            → shown ≡ slice_index s.words (index_of_word sizes.sessions word)
        by earlier last steps tells (inl nothing) = absurd (none-last earlier (sym nothing.1 ∙ steps)) where
          none-last : (earlier : List Step) → [] ≡ earlier ++ last ∷ [] → ⊥
          none-last [] same = cc (same)
          none-last (x ∷ earlier) same = cc (same)
        by earlier last steps tells (inr it) =
            let event : Event = record { session = number; step = it.its } in
            let all : steps_made r.events ≡ steps_made it.before + steps_made (event ∷ it.after) = ap steps_made it.all ∙ made-both it.before (event ∷ it.after) in
            let step : steps_made (event ∷ it.after) ≡ 1 + steps_made it.after = made-step event it.after (ap not it.is_own) in
            let place = it.at_place in
            let end : steps_made it.after ≡ 0 = omega (arith, all, step, place, most) in
            let its = steps-end number it.before it.its it.after it.is_own it.none_later in
            let same : last ≡ it.its = last-same earlier its.0 last it.its (sym steps ∙ ap (steps_of number) it.all ∙ its.1) in
            let cut = leads-cut (opening sizes.sessions sizes.groups) it.before event it.after r.world (subst (λ es. Leads (opening sizes.sessions sizes.groups) es r.world) it.all r.run) in
            loaded-shows number it.its cut.0 cut.1 cut.2 mark (word, shown) says (subst (Tells number mark) same tells)
            ∙ ap (λ (ws : Words). word_in ws word) (sym (still-words cut.1 it.after r.world cut.3 end))
            ∙ sym (r.shown.of_words.word word exists)
