use Rattle.std.proofs.Common.{◌≡◌, ◌≢◌, ◌⊎◌, ℕ, zero, suc, ◌+◌, true, false, List, [], ◌∷◌, ◌++◌, length, map, Option, Some, refl, sym, ap, ◌∙◌, subst, inl, inr, ◌==◌}
use Rattle.std.specs.Prelude.{slice_get, slice_set, slice_index}
use Rattle.std.proofs.lemmas.Bool.{cases_eq, eq-eqb, ne_eqb, cond-true, cond-false, both_ways}
use Rattle.std.proofs.lemmas.List.{append_assoc, map-append}
use mathlib.Core.Option.{some}
use mathlib.Core.Option as maybe
use lib.ListN.{get_elem?}
use Rattle.atomic_table.specs.Table.{State, Me, homes_after, Allows, Splits, Joins}
use Rattle.atomic_table.proofs.Lists.{at_set, at_map, at_last, set_else}
use Rattle.lock_table.specs.declared.request.Request.{Request}
use Rattle.lock_table.specs.Content.{Content}
use Rattle.lock_world.specs.declared.events.Event.{Event}
use Rattle.lock_world.specs.declared.events.Step.{Step}
use Rattle.shared_rule.specs.declared.history.History.{History}
use Rattle.shared_rule.specs.declared.history.Mark.{Mark}
use Rattle.shared_rule.specs.declared.history.PlacedView.{PlacedView}
use Rattle.shared_rule.specs.declared.history.View.{View}
use Rattle.shared_rule.specs.declared.kept.Kept.{Kept}
use Rattle.shared_rule.specs.declared.rule.TableSizes.{TableSizes}
use Rattle.shared_rule.specs.Allowed.{GoesOn, changes_nothing, looks, steps, AllowsStep, SplitsSeat, JoinsSeat}
use Rattle.shared_rule.specs.History.{lone, noting, noting_first, first_number}
use Rattle.shared_rule.specs.Places.{steps_made, place_of, IsPlaced, AreInPlace, ArePlaced, unplaced, without_places, RuledInOrder, opened_in_place, newcomer_in_place, parted_in_place, handed_back_in_place, taking_place, with_closed_in_place, met_in_place, spent_in_place}
use Rattle.shared_rule.specs.Plays.{Side, side_in}
use Rattle.shared_rule.specs.Ruled.{Ruled}
use Rattle.shared_rule.specs.Seats.{IsForOne, all_but_last, last_of, number_in, opened, newcomer, with_closed, met, parted, handed_back}
use Rattle.shared_rule.specs.Tells.{is_of_seats, is_step_of}
use Rattle.shared_rule.proofs.Lemmas.Standing.{there-snoc}
use Rattle.shared_rule.proofs.Lemmas.Told.{another's, of_seats, steps-beside}

-- The rule holds in order after a step that keeps it and goes on at the end of the run: the step's own place
-- is the last, and all others are as they were.

pub map-set : {A B : Type 0} (f : A → B) (xs : List A) (i : ℕ) (x : A) → map f (slice_set xs i x) ≡ slice_set (map f xs) i (f x)
map-set f [] i x = refl
map-set f (y ∷ ys) zero x = refl
map-set f (y ∷ ys) (suc i) x = ap (λ zs. f y ∷ zs) (map-set f ys i x)

some-get : {A : Type 0} {x y : A} → ◌≡◌ {A = Option A} (Some x) (Some y) → x ≡ y
some-get {A} {x} {y} same = cc (same)

-- The place of a session, where it is the first of these, and where it is not.
place-here : (number place : ℕ) (places : List (ℕ × ℕ)) (k : ℕ) → k ≡ number → place_of ((number, place) ∷ places) k ≡ place
place-here number place places k same = cond-true (number == k) place (place_of places k) (eq-eqb number k (sym same))

place-else : (number place : ℕ) (places : List (ℕ × ℕ)) (k : ℕ) → k ≢ number → place_of ((number, place) ∷ places) k ≡ place_of places k
place-else number place places k other = cond-false (number == k) place (place_of places k) (ne_eqb number k (λ e. other (sym e)))

-- A session's last step stays in its place where another's event follows, or one of seats,
placed-beside : (number place : ℕ) (events : List Event) (event : Event) → is_step_of number event ≡ false → IsPlaced number place events → IsPlaced number place (events ++ event ∷ [])
placed-beside number place events event beside (inl none) = inl (none.0, steps-beside number events event beside ∙ none.1)
placed-beside number place events event beside (inr it) = inr (record {
  before = it.before;
  its = it.its;
  after = it.after ++ event ∷ [];
  all = ap (λ all. all ++ event ∷ []) it.all ∙ append_assoc it.before (record { session = number; step = it.its } ∷ it.after) (event ∷ []);
  is_own = it.is_own;
  at_place = it.at_place;
  none_later = steps-beside number it.after event beside ∙ it.none_later;
})

-- and its own step is the last then.
placed-own : (number : ℕ) (events : List Event) (its : Step) → is_of_seats its ≡ false → IsPlaced number (steps_made events + 1) (events ++ record { session = number; step = its } ∷ [])
placed-own number events its is = inr (record { before = events; its = its; after = []; all = refl; is_own = is; at_place = refl; none_later = refl })

placed-as : (number number' place place' : ℕ) (events : List Event) → number ≡ number' → place ≡ place' → IsPlaced number place events → IsPlaced number' place' events
placed-as number number' place place' events same same_place placed = subst (λ n. IsPlaced n place' events) same (subst (λ p. IsPlaced number p events) same_place placed)

-- Events that go on by one of seats, or not.
placed-seated : (number place : ℕ) (events after : List Event) → (after ≡ events) ⊎ ((event : Event) × (is_of_seats event.step ≡ true) × (after ≡ events ++ event ∷ []))
    → IsPlaced number place events → IsPlaced number place after
placed-seated number place events after (inl same) placed = subst (IsPlaced number place) (sym same) placed
placed-seated number place events after (inr more) placed =
    subst (IsPlaced number place) (sym more.2) (placed-beside number place events more.0 (of_seats number more.0 more.1) placed)

module _ {T : Type 0} where
  -- Another mark leaves the numbers as they were.
  number-noted : (sessions : List (History T)) (mark : Mark T) (j : ℕ) (y : History T) → slice_get (noting_first sessions mark) j ≡ Some y
      → (h : History T) × (slice_get sessions j ≡ Some h) × (h.number ≡ y.number)
  number-noted [] mark j y get = (y, get, refl)
  number-noted (x ∷ others) mark zero y get = (x, refl, ap (λ (h : History T). h.number) (some-get get))
  number-noted (x ∷ others) mark (suc j) y get = (y, get, refl)

  -- What stands among all but the last stands among all, and so does the last.
  all_but_last-get : (sessions : List (History T)) (j : ℕ) (y : History T) → slice_get (all_but_last sessions) j ≡ Some y → (k : ℕ) × (slice_get sessions k ≡ Some y)
  all_but_last-get [] j y get = absurd (cc (get))
  all_but_last-get (x ∷ []) j y get = absurd (cc (get))
  all_but_last-get (x ∷ z ∷ others) zero y get = (zero, get)
  all_but_last-get (x ∷ z ∷ others) (suc j) y get = let there = all_but_last-get (z ∷ others) j y get in (suc there.0, there.1)

  last_of-get : (sessions : List (History T)) (j : ℕ) (y : History T) → slice_get (last_of sessions) j ≡ Some y → (k : ℕ) × (slice_get sessions k ≡ Some y)
  last_of-get [] j y get = absurd (cc (get))
  last_of-get (x ∷ []) j y get = (j, get)
  last_of-get (x ∷ z ∷ others) j y get = let there = last_of-get (z ∷ others) j y get in (suc there.0, there.1)

  -- What stands in two lists stands in one of them.
  both-get : (xs ys : List (History T)) (j : ℕ) (y : History T) → slice_get (xs ++ ys) j ≡ Some y → ((k : ℕ) × (slice_get xs k ≡ Some y)) ⊎ ((k : ℕ) × (slice_get ys k ≡ Some y))
  both-get [] ys j y get = inr (j, get)
  both-get (x ∷ xs) ys zero y get = inl (zero, get)
  both-get (x ∷ xs) ys (suc j) y get = elim (both-get xs ys j y get) [
    | inl here ↦ inl (suc here.0, here.1)
    | inr there ↦ inr there
  ]

  one-number : (number : ℕ) (marks : List (Mark T)) (j : ℕ) (y : History T) → slice_get (lone number marks).sessions j ≡ Some y → y.number ≡ number
  one-number number marks zero y get = ap (λ (h : History T). h.number) (sym (some-get get))
  one-number number marks (suc j) y get = absurd (cc (get))

  abbrev view-of : PlacedView T → View T
  view-of placed = placed.view

  in-order : (content : T → Content) (begun : T → Option Request) (sizes : TableSizes) (words : List ℕ) (homes : List (maybe.Option (Kept T))) (views : List (PlacedView T)) (plain : List (View T))
      → unplaced views ≡ plain → (rule : Ruled content begun sizes (record { words = words; homes = homes; views = plain })) → ArePlaced views rule.events
      → RuledInOrder content begun sizes (record { words = words; homes = homes; views = views })
  in-order content begun sizes words homes views plain same rule placed =
      let both = subst (λ (all : List (View T)). (its : Ruled content begun sizes (record { words = words; homes = homes; views = all })) × ArePlaced views its.events) (sym same) (rule, placed) in
      record { rule = both.0; placed = both.1 }

module _ {T : Type 0} (content : T → Content) (begun : T → Option Request) (sizes : TableSizes) (s : State (Kept T) (PlacedView T)) (order : RuledInOrder content begun sizes s)
    (id : ℕ) (placed : PlacedView T) (at : get_elem? s.views id ≡ some placed) where
  abbrev r : Ruled content begun sizes (without_places s)
  r = order.rule

  pub next-places : (after : List Event) (next : View T) → GoesOn r.events after placed.view next → List (ℕ × ℕ)
  next-places after next (changes_nothing same events) = placed.places
  next-places after next (looks mark same events) = placed.places
  next-places after next (steps mark first others its is same step events) = (first.number, steps_made r.events + 1) ∷ placed.places

  module _ (these : View T → List (History T)) (was : AreInPlace these s.views r.events) where
    -- the places stay where no event follows
    same-place : (next : View T) → ((j : ℕ) (y : History T) → slice_get (these next) j ≡ Some y → (h : History T) × (slice_get (these placed.view) j ≡ Some h) × (h.number ≡ y.number))
        → AreInPlace these (slice_set s.views id (record { view = next; places = placed.places })) r.events
    same-place next back seat j p y there get = elim (at_set s.views id seat (record { view = next; places = placed.places }) p there) [
      | inr else ↦ was seat j p y else.1 get
      | inl here ↦
          let old = back j y (ap (λ (z : PlacedView T). slice_get (these z.view) j) here.1 ∙ get) in
          placed-as old.0.number y.number (place_of placed.places old.0.number) (place_of p.places y.number) r.events old.2
          (ap (place_of placed.places) old.2 ∙ ap (λ (z : PlacedView T). place_of z.places y.number) here.1) (was id j placed old.0 at old.1)
    ]

    -- and where one follows it is the last step of its session
    step-place : (next : View T) (number : ℕ) (its : Step) → is_of_seats its ≡ false
        → ((j : ℕ) (y : History T) → slice_get (these next) j ≡ Some y → (h : History T) × (slice_get (these placed.view) j ≡ Some h) × (h.number ≡ y.number))
        → ((seat j : ℕ) (p : PlacedView T) (y : History T) → seat ≢ id → get_elem? s.views seat ≡ some p → slice_get (these p.view) j ≡ Some y → y.number ≢ number)
        → AreInPlace these (slice_set s.views id (record { view = next; places = (number, steps_made r.events + 1) ∷ placed.places })) (r.events ++ record { session = number; step = its } ∷ [])
    step-place next number its step back apart seat j p y there get =
        let event : Event = record { session = number; step = its } in
        let places : List (ℕ × ℕ) = (number, steps_made r.events + 1) ∷ placed.places in
        elim (at_set s.views id seat (record { view = next; places = places }) p there) [
          | inr else ↦ placed-beside y.number (place_of p.places y.number) r.events event (another's y.number event (apart seat j p y else.0 else.1 get)) (was seat j p y else.1 get)
          | inl here ↦
              let same_places : places ≡ p.places = ap (λ (z : PlacedView T). z.places) here.1 in
              elim (cases_eq y.number number) [
                | inl own ↦ placed-as number y.number (steps_made r.events + 1) (place_of p.places y.number) (r.events ++ event ∷ []) (sym own)
                    (sym (place-here number (steps_made r.events + 1) placed.places y.number own) ∙ ap (λ ps. place_of ps y.number) same_places) (placed-own number r.events its step)
                | inr other ↦
                    let old = back j y (ap (λ (z : PlacedView T). slice_get (these z.view) j) here.1 ∙ get) in
                    placed-beside y.number (place_of p.places y.number) r.events event (another's y.number event other)
                    (placed-as old.0.number y.number (place_of placed.places old.0.number) (place_of p.places y.number) r.events old.2
                    (ap (place_of placed.places) old.2 ∙ sym (place-else number (steps_made r.events + 1) placed.places y.number other) ∙ ap (λ ps. place_of ps y.number) same_places)
                    (was id j placed old.0 at old.1))
              ]
        ]

  -- Whoever stands at another seat is another session than the first, and so is whoever has closed.
  seat-apart : (first : History T) (others : List (History T)) → placed.view.sessions ≡ first ∷ others
      → (seat j : ℕ) (p : PlacedView T) (y : History T) → seat ≢ id → get_elem? s.views seat ≡ some p → slice_get p.view.sessions j ≡ Some y → y.number ≢ first.number
  seat-apart first others is seat j p y apart there get same =
      let its = r.seats.history seat j p.view y (at_map view-of s.views seat p there) get in
      let own = r.seats.history id 0 placed.view first (at_map view-of s.views id placed at) (ap (λ sessions. slice_get sessions 0) is) in
      apart (sym its.seat ∙ ap r.seats.seat_of same ∙ own.seat)

  closed-apart : (first : History T) (others : List (History T)) → placed.view.sessions ≡ first ∷ others
      → (seat j : ℕ) (p : PlacedView T) (y : History T) → seat ≢ id → get_elem? s.views seat ≡ some p → slice_get p.view.closed j ≡ Some y → y.number ≢ first.number
  closed-apart first others is seat j p y apart there get same =
      let closed = r.seats.closed seat j p.view y (at_map view-of s.views seat p there) get in
      let own = r.seats.history id 0 placed.view first (at_map view-of s.views id placed at) (ap (λ sessions. slice_get sessions 0) is) in
      both_ways (r.world.numbers.live first.number) (ap r.world.numbers.live (sym same) ∙ closed.1) own.live

  -- All are in their places after the step.
  pub next-placed : (after : List Event) (next : View T) (goes_on : GoesOn r.events after placed.view next)
      → ArePlaced (slice_set s.views id (record { view = next; places = next-places after next goes_on })) after
  unfolding next-places
  next-placed after next (changes_nothing same events) =
      subst (λ (v : View T). ArePlaced (slice_set s.views id (record { view = v; places = placed.places })) after) (sym same)
      (subst (λ es. ArePlaced (slice_set s.views id (record { view = placed.view; places = placed.places })) es) (sym events) (record {
        at_seat = same-place (λ view. view.sessions) order.placed.at_seat placed.view (λ j y get. (y, get, refl));
        closed = same-place (λ view. view.closed) order.placed.closed placed.view (λ j y get. (y, get, refl));
      }))
  next-placed after next (looks mark same events) =
      subst (λ (v : View T). ArePlaced (slice_set s.views id (record { view = v; places = placed.places })) after) (sym same)
      (subst (λ es. ArePlaced (slice_set s.views id (record { view = noting placed.view mark; places = placed.places })) es) (sym events) (record {
        at_seat = same-place (λ view. view.sessions) order.placed.at_seat (noting placed.view mark) (λ j y get. number-noted placed.view.sessions mark j y get);
        closed = same-place (λ view. view.closed) order.placed.closed (noting placed.view mark) (λ j y get. (y, get, refl));
      }))
  next-placed after next (steps mark first others its is same step events) =
      subst (λ (v : View T). ArePlaced (slice_set s.views id (record { view = v; places = (first.number, steps_made r.events + 1) ∷ placed.places })) after) (sym same)
      (subst (λ es. ArePlaced (slice_set s.views id (record { view = noting placed.view mark; places = (first.number, steps_made r.events + 1) ∷ placed.places })) es) (sym events) (record {
        at_seat = step-place (λ view. view.sessions) order.placed.at_seat (noting placed.view mark) first.number its step
            (λ j y get. number-noted placed.view.sessions mark j y get) (seat-apart first others is);
        closed = step-place (λ view. view.closed) order.placed.closed (noting placed.view mark) first.number its step (λ j y get. (y, get, refl)) (closed-apart first others is);
      }))

-- A step that keeps the rule, and goes on at the end of the run, keeps the rule in order.
pub allowed : {T : Type 0} (content : T → Content) (begun : T → Option Request) (sizes : TableSizes) (slots id : ℕ) (me : Me (Kept T) (PlacedView T)) (i : ℕ) (f : ℕ → ℕ) (tells : ℕ → Side T → Type 0)
    → AllowsStep content begun sizes slots id (side_in me) i f tells
    → Allows (RuledInOrder content begun sizes) slots id me i f (λ found after. tells found (side_in after))
allowed {T} content begun sizes slots id me i f tells allows s order many at below =
    let it = allows (without_places s) order.rule many (at_map view-of s.views id me.0 at) below in
    let places = next-places content begun sizes s order id me.0 at it.3.rule.events it.0 it.3.goes_on in
    let after : PlacedView T = record { view = it.0; places = places } in (
      after,
      it.1,
      it.2,
      in-order content begun sizes (slice_set s.words i (f (slice_index s.words i))) (homes_after s.homes me.1 it.1) (slice_set s.views id after) (slice_set (unplaced s.views) id it.0)
          (map-set view-of s.views id after) it.3.rule (next-placed content begun sizes s order id me.0 at it.3.rule.events it.0 it.3.goes_on),
      it.4,
    )

-- Seats that are cut in two and joined keep the rule in order.
module _ {T : Type 0} (content : T → Content) (begun : T → Option Request) (sizes : TableSizes) (id : ℕ) (placed : PlacedView T) where
  -- Who stands in a seat that is cut in two stood in it before, or has made no step.
  split-place : (these : View T → List (History T)) (s : State (Kept T) (PlacedView T)) (events after : List Event) → AreInPlace these s.views events → get_elem? s.views id ≡ some placed
      → (after ≡ events) ⊎ ((event : Event) × (is_of_seats event.step ≡ true) × (after ≡ events ++ event ∷ []))
      → (left right : View T) (new : List (ℕ × ℕ)) → ((j : ℕ) (y : History T) → slice_get (these left) j ≡ Some y → (k : ℕ) × (slice_get (these placed.view) k ≡ Some y))
      → ((j : ℕ) (y : History T) → slice_get (these right) j ≡ Some y → IsPlaced y.number (place_of new y.number) after)
      → AreInPlace these (slice_set s.views id (record { view = left; places = placed.places }) ++ record { view = right; places = new } ∷ []) after
  split-place these s events after was at goes_on left right new in_left in_right seat j p y there get =
      let cut : PlacedView T = record { view = left; places = placed.places } in
      let fresh : PlacedView T = record { view = right; places = new } in
      elim (there-snoc (slice_set s.views id cut) fresh p seat there) [
        | inr last ↦ subst (λ (z : PlacedView T). IsPlaced y.number (place_of z.places y.number) after) last.1 (in_right j y (ap (λ (z : PlacedView T). slice_get (these z.view) j) last.1 ∙ get))
        | inl old ↦ placed-seated y.number (place_of p.places y.number) events after goes_on (elim (at_set s.views id seat cut p old) [
          | inr else ↦ was seat j p y else.1 get
          | inl here ↦
              let stood = in_left j y (ap (λ (z : PlacedView T). slice_get (these z.view) j) here.1 ∙ get) in
              subst (λ (z : PlacedView T). IsPlaced y.number (place_of z.places y.number) events) here.1 (was id stood.0 placed y at stood.1)
        ])
      ]

  split-views : (views : List (PlacedView T)) (left right : PlacedView T) → unplaced (slice_set views id left ++ right ∷ []) ≡ slice_set (unplaced views) id left.view ++ right.view ∷ []
  split-views views left right = map-append view-of (slice_set views id left) (right ∷ []) ∙ ap (λ all. all ++ right.view ∷ []) (map-set view-of views id left)

  pub opens-in-order : SplitsSeat content begun sizes id placed.view (opened placed.view) (newcomer placed.view)
      → Splits (RuledInOrder content begun sizes) id placed (opened_in_place placed) (newcomer_in_place placed)
  opens-in-order splits s order at =
      let it = splits (without_places s) order.rule (at_map view-of s.views id placed at) in
      let left : PlacedView T = opened_in_place placed in
      let right : PlacedView T = newcomer_in_place placed in
      let new : History T = record { number = number_in placed.view.next; marks = [] } in
      in-order content begun sizes s.words s.homes (slice_set s.views id left ++ right ∷ []) (slice_set (unplaced s.views) id left.view ++ right.view ∷ [])
      (split-views s.views left right) it.rule (record {
        at_seat = split-place (λ view. view.sessions) s order.rule.events it.rule.events order.placed.at_seat at it.goes_on left.view right.view [] (λ j y get. (j, get)) (λ j y get.
            subst (λ (h : History T). IsPlaced h.number 0 it.rule.events) (one-new j y get) (inl (
              refl,
              it.rule.steps.at_seat new (record {
                seat = length (slice_set (unplaced s.views) id left.view);
                place = 0;
                view = right.view;
                there = at_last (slice_set (unplaced s.views) id left.view) right.view (length (slice_set (unplaced s.views) id left.view)) refl;
                stands = refl;
              }),
            )));
        closed = split-place (λ view. view.closed) s order.rule.events it.rule.events order.placed.closed at it.goes_on left.view right.view [] (λ j y get. (j, get)) (λ j y get. absurd (cc (get)));
      }) where
        one-new : (j : ℕ) (y : History T) → slice_get (newcomer placed.view).sessions j ≡ Some y → record { number = number_in placed.view.next; marks = [] } ≡ y
        one-new zero y get = some-get get
        one-new (suc j) y get = absurd (cc (get))

  pub hands-back-in-order : SplitsSeat content begun sizes id placed.view (parted placed.view) (handed_back placed.view)
      → Splits (RuledInOrder content begun sizes) id placed (parted_in_place placed) (handed_back_in_place placed)
  hands-back-in-order splits s order at =
      let it = splits (without_places s) order.rule (at_map view-of s.views id placed at) in
      let left : PlacedView T = parted_in_place placed in
      let right : PlacedView T = handed_back_in_place placed in
      in-order content begun sizes s.words s.homes (slice_set s.views id left ++ right ∷ []) (slice_set (unplaced s.views) id left.view ++ right.view ∷ [])
      (split-views s.views left right) it.rule (record {
        at_seat = split-place (λ view. view.sessions) s order.rule.events it.rule.events order.placed.at_seat at it.goes_on left.view right.view placed.places
            (λ j y get. all_but_last-get placed.view.sessions j y get)
            (λ j y get.
            let stood = last_of-get placed.view.sessions j y get in
            placed-seated y.number (place_of placed.places y.number) order.rule.events it.rule.events it.goes_on (order.placed.at_seat id stood.0 placed y at stood.1));
        closed = split-place (λ view. view.closed) s order.rule.events it.rule.events order.placed.closed at it.goes_on left.view right.view placed.places (λ j y get. (j, get)) (λ j y get. absurd (cc (get)));
      })

  -- Who stands in a seat that took another in stood in it before, or is the other's session.
  module _ (other : ℕ) (its : PlacedView T) (one : IsForOne its.view) (both : View T) where
    abbrev taken : PlacedView T
    taken = record { view = both; places = taking_place placed its }

    its-number : first_number its.view.sessions ≡ one.number
    its-number = ap (λ (view : View T). first_number view.sessions) one.one

    join-place : (these : View T → List (History T)) (s : State (Kept T) (PlacedView T)) (events after : List Event) → AreInPlace these s.views events
        → IsPlaced (first_number its.view.sessions) (place_of its.places (first_number its.view.sessions)) events
        → (after ≡ events) ⊎ ((event : Event) × (is_of_seats event.step ≡ true) × (after ≡ events ++ event ∷ [])) → get_elem? s.views id ≡ some placed
        → ((j : ℕ) (y : History T) → slice_get (these both) j ≡ Some y → ((k : ℕ) × (slice_get (these placed.view) k ≡ Some y)) ⊎ (y.number ≡ first_number its.view.sessions))
        → ((j : ℕ) (y : History T) → slice_get (these (spent_in_place {T = T}).view) j ≡ Some y → ⊥)
        → AreInPlace these (slice_set (slice_set s.views id taken) other spent_in_place) after
    join-place these s events after was own goes_on at in_both none seat j p y there get =
        placed-seated y.number (place_of p.places y.number) events after goes_on (elim (at_set (slice_set s.views id taken) other seat spent_in_place p there) [
          | inl spent ↦ absurd (none j y (ap (λ (z : PlacedView T). slice_get (these z.view) j) spent.1 ∙ get))
          | inr kept ↦ elim (at_set s.views id seat taken p kept.1) [
            | inr else ↦ was seat j p y else.1 get
            | inl here ↦ subst (λ (z : PlacedView T). IsPlaced y.number (place_of z.places y.number) events) here.1 (elim (cases_eq y.number (first_number its.view.sessions)) [
              | inl same ↦ placed-as (first_number its.view.sessions) y.number (place_of its.places (first_number its.view.sessions)) (place_of (taking_place placed its) y.number) events (sym same)
                  (sym (place-here (first_number its.view.sessions) (place_of its.places (first_number its.view.sessions)) placed.places y.number same)) own
              | inr another ↦ elim (in_both j y (ap (λ (z : PlacedView T). slice_get (these z.view) j) here.1 ∙ get)) [
                | inr same ↦ absurd (another same)
                | inl stood ↦ subst (λ n. IsPlaced y.number n events) (sym (place-else (first_number its.view.sessions) (place_of its.places (first_number its.view.sessions)) placed.places y.number another))
                    (was id stood.0 placed y at stood.1)
              ]
            ])
          ]
        ])

    joins : JoinsSeat content begun sizes id placed.view other its.view both (spent_in_place {T = T}).view
        → ((j : ℕ) (y : History T) → slice_get both.sessions j ≡ Some y → ((k : ℕ) × (slice_get placed.view.sessions k ≡ Some y)) ⊎ (y.number ≡ first_number its.view.sessions))
        → ((j : ℕ) (y : History T) → slice_get both.closed j ≡ Some y → ((k : ℕ) × (slice_get placed.view.closed k ≡ Some y)) ⊎ (y.number ≡ first_number its.view.sessions))
        → Joins (RuledInOrder content begun sizes) id placed other its taken spent_in_place
    joins allows in_sessions in_closed s order at apart there =
        let stands : get_elem? s.views other ≡ some its = sym (set_else s.views id other taken apart) ∙ there in
        let it = allows (without_places s) order.rule (at_map view-of s.views id placed at) apart
        (ap (λ (all : List (View T)). get_elem? all other) (sym (map-set view-of s.views id taken)) ∙ at_map view-of (slice_set s.views id taken) other its there) in
        let theirs : History T = record { number = one.number; marks = one.marks } in
        let own = placed-as one.number (first_number its.view.sessions) (place_of its.places one.number) (place_of its.places (first_number its.view.sessions)) order.rule.events (sym its-number)
        (ap (place_of its.places) (sym its-number)) (order.placed.at_seat other 0 its theirs stands (ap (λ (view : View T). slice_get view.sessions 0) one.one)) in
        in-order content begun sizes s.words s.homes (slice_set (slice_set s.views id taken) other spent_in_place) (slice_set (slice_set (unplaced s.views) id both) other (spent_in_place {T = T}).view)
        (map-set view-of (slice_set s.views id taken) other spent_in_place ∙ ap (λ (all : List (View T)). slice_set all other (spent_in_place {T = T}).view) (map-set view-of s.views id taken))
        it.rule (record {
          at_seat = join-place (λ view. view.sessions) s order.rule.events it.rule.events order.placed.at_seat own it.goes_on at in_sessions (λ j y get. absurd (cc (get)));
          closed = join-place (λ view. view.closed) s order.rule.events it.rule.events order.placed.closed own it.goes_on at in_closed (λ j y get. absurd (cc (get)));
        })

  pub closes-in-order : (other : ℕ) (its : PlacedView T) → IsForOne its.view
      → JoinsSeat content begun sizes id placed.view other its.view (with_closed placed.view its.view) (spent_in_place {T = T}).view
      → Joins (RuledInOrder content begun sizes) id placed other its (with_closed_in_place placed its) spent_in_place
  closes-in-order other its one allows =
      joins other its one (with_closed placed.view its.view) allows (λ j y get. inl (j, get)) (λ j y get. closed-from j y (ap (λ (view : View T). slice_get (with_closed placed.view view).closed j) (sym one.one) ∙ get)) where
        closed-from : (j : ℕ) (y : History T) → slice_get (record { number = one.number; marks = one.marks } ∷ placed.view.closed) j ≡ Some y
            → ((k : ℕ) × (slice_get placed.view.closed k ≡ Some y)) ⊎ (y.number ≡ first_number its.view.sessions)
        closed-from zero y get = inr (ap (λ (h : History T). h.number) (sym (some-get get)) ∙ sym (ap (λ (view : View T). first_number view.sessions) one.one))
        closed-from (suc j) y get = inl (j, get)

  pub keeps-apart-in-order : (other : ℕ) (its : PlacedView T) → IsForOne its.view
      → JoinsSeat content begun sizes id placed.view other its.view (met placed.view its.view) (spent_in_place {T = T}).view
      → Joins (RuledInOrder content begun sizes) id placed other its (met_in_place placed its) spent_in_place
  keeps-apart-in-order other its one allows =
      joins other its one (met placed.view its.view) allows (λ j y get. elim (both-get placed.view.sessions its.view.sessions j y get) [
        | inl stood ↦ inl stood
        | inr new ↦ inr (one-number one.number one.marks new.0 y (ap (λ (view : View T). slice_get view.sessions new.0) (sym one.one) ∙ new.1) ∙ sym (ap (λ (view : View T). first_number view.sessions) one.one))
      ]) (λ j y get. inl (j, get))
