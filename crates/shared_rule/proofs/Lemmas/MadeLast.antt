use Rattle.std.proofs.Common.{◌≡◌, ◌≢◌, ℕ, zero, suc, ◌+◌, ◌<◌, ◌≤◌, arith, true, false, List, [], ◌∷◌, ◌++◌, length, map, Option, Some, refl, sym, ap, ◌∙◌, subst, inl, inr}
use Rattle.std.specs.Prelude.{slice_get, slice_set}
use Rattle.std.proofs.lemmas.Bool.{cases_eq, cases_lt}
use Rattle.std.proofs.lemmas.List.{length-append}
use mathlib.Core.Option.{some}
use lib.ListN.{get_elem?}
use Rattle.atomic_table.specs.Table.{State}
use Rattle.atomic_table.proofs.Lists.{at_map, set_here, set_else}
use Rattle.lock_table.specs.declared.request.Request.{Request}
use Rattle.lock_table.specs.Content.{Content}
use Rattle.lock_table.specs.Put.{set_at}
use Rattle.lock_table.specs.Total.{total}
use Rattle.lock_table.proofs.Lemmas.Put.{set_at-here, set_at-else}
use Rattle.lock_table.proofs.Lemmas.Totals.{total-same, total-nothing, total-change}
use Rattle.lock_world.specs.declared.events.Event.{Event}
use Rattle.lock_world.specs.declared.events.Step.{Step}
use Rattle.shared_rule.specs.declared.history.History.{History}
use Rattle.shared_rule.specs.declared.history.Mark.{Mark}
use Rattle.shared_rule.specs.declared.history.PlacedView.{PlacedView}
use Rattle.shared_rule.specs.declared.history.View.{View}
use Rattle.shared_rule.specs.declared.kept.Kept.{Kept}
use Rattle.shared_rule.specs.declared.rule.TableSizes.{TableSizes}
use Rattle.shared_rule.specs.History.{noting_first}
use Rattle.shared_rule.specs.Places.{steps_made, place_of, IsLastStep, IsPlaced, without_places, RuledInOrder, NoneIsLater, AllAreEarlier, HasMadeStep}
use Rattle.shared_rule.specs.Tells.{is_of_seats, steps_of, Tells, AreTold, LooksOnly, at_list, at_lock, calls_waiter, calls_sleeper, at_wait, at_sleep}
use Rattle.shared_rule.specs.Ruled.{StandsAtSeat, Ruled}
use Rattle.shared_rule.proofs.Lemmas.GivenOut.{has-history}
use Rattle.shared_rule.proofs.Lemmas.NoLie.{first-own, first-not}
use Rattle.shared_rule.proofs.Lemmas.Placed.{map-set}
use Rattle.shared_rule.proofs.Lemmas.Standing.{there-within, there-one}
use Rattle.shared_rule.proofs.Lemmas.Told.{another's, of_seats}
use Rattle.shared_rule.proofs.Lemmas.LastSteps.{some-get, made-step, made-none, seats-or-step, seats-none, not-not, own-step, rest-none, never-none, placed-last, placed-most, last-made}
use Rattle.shared_rule.proofs.Lemmas.LastLoads.{placed-there}

-- Each step is the run's last, as it is made.

-- How many steps all have made is what each has made, together.
made-together : (limit : ℕ) (events : List Event) → ((number : ℕ) → limit ≤ number → steps_of number events ≡ []) → steps_made events ≡ total limit (λ number. length (steps_of number events))
made-together limit [] none = sym (total-nothing limit (λ number. 0) (λ number within. refl))
made-together limit (event ∷ events) none =
    let rest = made-together limit events (λ number later. rest-none number event events (none number later)) in
    elim (seats-or-step event) [
      | inl seats ↦
          made-none event events (seats-none event seats) ∙ rest
          ∙ total-same limit (λ number. length (steps_of number events)) (λ number. length (steps_of number (event ∷ events)))
          (λ number within. ap (λ (steps : List Step). length steps) (sym (first-not number event events (of_seats number event seats))))
      | inr is ↦
          let its : is_of_seats event.step ≡ false = not-not (is_of_seats event.step) is in
          let own = first-own event.session event events (own-step event.session event.step its) in
          let within : event.session < limit = elim (cases_lt event.session limit) [
            | inl below ↦ below
            | inr above ↦ absurd (cc (sym own ∙ none event.session (omega (arith, above))))
          ] in
          let was : ℕ → ℕ = λ number. length (steps_of number events) in
          let more = total-change limit was event.session (was event.session + 1) within in
          let same : total limit (set_at was event.session (was event.session + 1)) ≡ total limit (λ number. length (steps_of number (event ∷ events))) =
          total-same limit (set_at was event.session (was event.session + 1)) (λ number. length (steps_of number (event ∷ events))) (λ number _.
          elim (cases_eq number event.session) [
            | inl here ↦
                set_at-here was event.session (was event.session + 1) number here ∙ omega arith
                ∙ ap (λ (steps : List Step). length steps) (sym own) ∙ ap (λ n. length (steps_of n (event ∷ events))) (sym here)
            | inr other ↦
                set_at-else was event.session (was event.session + 1) number other
                ∙ ap (λ (steps : List Step). length steps) (sym (first-not number event events (another's number event other)))
          ]) in
          let one = made-step event events is in
          let before : steps_made events ≡ total limit was = rest in
          omega (arith, one, before, more) ∙ same
    ]

-- As many steps as are told are told by the same marks.
looks-tell : {T : Type 0} (number : ℕ) (mark : Mark T) (its : Step) → LooksOnly mark → Tells number mark its → ⊥
looks-tell number mark its (at_list lock same) tells = subst (λ m. Tells number m its) same tells
looks-tell number mark its (at_lock lock shown same) tells = subst (λ m. Tells number m its) same tells
looks-tell number mark its (calls_waiter other same) tells = subst (λ m. Tells number m its) same tells
looks-tell number mark its (calls_sleeper other same) tells = subst (λ m. Tells number m its) same tells
looks-tell number mark its (at_wait shown same) tells = subst (λ m. Tells number m its) same tells
looks-tell number mark its (at_sleep shown same) tells = subst (λ m. Tells number m its) same tells

length-more : {A : Type 0} (xs : List A) (x : A) → length (xs ++ x ∷ []) ≡ length xs + 1
length-more xs x = length-append xs (x ∷ [])

told-many : {T : Type 0} (number : ℕ) (told : List (Mark T)) (one other : List Step) → AreTold number told one → AreTold number told other → length one ≡ length other
told-many number [] one other is its = ap (λ (steps : List Step). length steps) (is ∙ sym its)
told-many number (mark ∷ told) one other (inl is) (inl its) =
    ap (λ (steps : List Step). length steps) is.2 ∙ length-more is.0 is.1 ∙ ap (λ n. n + 1) (told-many number told is.0 its.0 is.4 its.4)
    ∙ sym (length-more its.0 its.1) ∙ ap (λ (steps : List Step). length steps) (sym its.2)
told-many number (mark ∷ told) one other (inl is) (inr its) = absurd (looks-tell number mark is.1 its.0 is.3)
told-many number (mark ∷ told) one other (inr is) (inl its) = absurd (looks-tell number mark its.1 is.0 its.3)
told-many number (mark ∷ told) one other (inr is) (inr its) = told-many number told one other is.1 its.1

told-one_more : {T : Type 0} (number : ℕ) (mark : Mark T) (told : List (Mark T)) (one other : List Step) → (LooksOnly mark → ⊥) → AreTold number told one → AreTold number (mark ∷ told) other
    → length other ≡ length one + 1
told-one_more number mark told one other step is (inl its) =
    ap (λ (steps : List Step). length steps) its.2 ∙ length-more its.0 its.1 ∙ ap (λ n. n + 1) (told-many number told its.0 one its.4 is)
told-one_more number mark told one other step is (inr its) = absurd (step its.0)

-- A session that has made a step more than before made it after all that were made before.
module _ {T : Type 0} (content : T → Content) (begun : T → Option Request) (sizes : TableSizes) (s s' : State (Kept T) (PlacedView T)) (order : RuledInOrder content begun sizes s)
    (order' : RuledInOrder content begun sizes s') (id : ℕ) (x : History T) (mark : Mark T) (now : PlacedView T) (made : HasMadeStep s.views s'.views id x mark now) where
  abbrev before : Ruled content begun sizes (without_places s)
  before = order.rule

  abbrev after : Ruled content begun sizes (without_places s')
  after = order'.rule

  abbrev view-of : PlacedView T → View T
  view-of placed = placed.view

  abbrev marked : History T
  marked = record { number = x.number; marks = mark ∷ x.marks }

  -- where the seat's view was
  was-there : get_elem? (without_places s).views id ≡ some made.was.view
  was-there = at_map view-of s.views id made.was made.there

  x-there : slice_get made.was.view.sessions 0 ≡ Some x
  x-there = ap (λ sessions. slice_get sessions 0) made.sessions

  x-stands : StandsAtSeat (without_places s).views x
  x-stands = record { seat = id; place = 0; view = made.was.view; there = was-there; stands = x-there }

  x-live : before.world.numbers.live x.number ≡ true
  x-live = (before.seats.history id 0 made.was.view x was-there x-there).live

  -- the seat then
  now-there : get_elem? s'.views id ≡ some now
  now-there = ap (λ (views : List (PlacedView T)). get_elem? views id) made.views ∙ set_here s.views id now (there-within s.views id made.was made.there)

  now-sessions : now.view.sessions ≡ marked ∷ made.others
  now-sessions = ap (λ (v : View T). v.sessions) made.noted ∙ ap (λ sessions. noting_first sessions mark) made.sessions

  marked-stands : StandsAtSeat (without_places s').views marked
  marked-stands = record { seat = id; place = 0; view = now.view; there = at_map view-of s'.views id now now-there; stands = ap (λ sessions. slice_get sessions 0) now-sessions }

  -- any other seat is as it was
  else-there : (seat : ℕ) (placed : PlacedView T) → seat ≢ id → get_elem? s.views seat ≡ some placed → get_elem? s'.views seat ≡ some placed
  else-there seat placed other there = ap (λ (views : List (PlacedView T)). get_elem? views seat) made.views ∙ set_else s.views id seat now other ∙ there

  -- Whoever stands somewhere before stands there then, with its place, unless it is the session itself,
  behind-get : (at : ℕ) (y : History T) → y.number ≢ x.number → slice_get (x ∷ made.others) at ≡ Some y → slice_get (marked ∷ made.others) at ≡ Some y
  behind-get zero y other get = absurd (other (ap (λ (h : History T). h.number) (sym (some-get get))))
  behind-get (suc at) y other get = get

  stands-then : (seat at : ℕ) (placed : PlacedView T) (y : History T) → y.number ≢ x.number → get_elem? s.views seat ≡ some placed → slice_get placed.view.sessions at ≡ Some y
      → (then : PlacedView T) × (get_elem? s'.views seat ≡ some then) × (slice_get then.view.sessions at ≡ Some y) × (place_of then.places y.number ≡ place_of placed.places y.number)
  stands-then seat at placed y other there get = elim (cases_eq seat id) [
    | inr else ↦ (placed, else-there seat placed else there, get, refl)
    | inl same ↦
        let one : placed ≡ made.was = there-one s.views id placed made.was (ap (get_elem? s.views) (sym same) ∙ there) made.there in (
          now,
          ap (get_elem? s'.views) same ∙ now-there,
          ap (λ sessions. slice_get sessions at) now-sessions ∙ behind-get at y other (ap (λ sessions. slice_get sessions at) (sym made.sessions) ∙ ap (λ (p : PlacedView T). slice_get p.view.sessions at) (sym one) ∙ get),
          made.places y.number other ∙ ap (λ (p : PlacedView T). place_of p.places y.number) (sym one),
        )
  ]

  closed-then : (seat at : ℕ) (placed : PlacedView T) (y : History T) → y.number ≢ x.number → get_elem? s.views seat ≡ some placed → slice_get placed.view.closed at ≡ Some y
      → (then : PlacedView T) × (get_elem? s'.views seat ≡ some then) × (slice_get then.view.closed at ≡ Some y) × (place_of then.places y.number ≡ place_of placed.places y.number)
  closed-then seat at placed y other there get = elim (cases_eq seat id) [
    | inr else ↦ (placed, else-there seat placed else there, get, refl)
    | inl same ↦
        let one : placed ≡ made.was = there-one s.views id placed made.was (ap (get_elem? s.views) (sym same) ∙ there) made.there in (
          now,
          ap (get_elem? s'.views) same ∙ now-there,
          ap (λ (v : View T). slice_get v.closed at) made.noted ∙ ap (λ (p : PlacedView T). slice_get p.view.closed at) (sym one) ∙ get,
          made.places y.number other ∙ ap (λ (p : PlacedView T). place_of p.places y.number) (sym one),
        )
  ]

  -- as many were given out,
  plain-views : (without_places s').views ≡ slice_set (without_places s).views id now.view
  plain-views = ap (map view-of) made.views ∙ map-set view-of s.views id now

  same-issued : after.world.numbers.issued ≡ before.world.numbers.issued
  same-issued =
      let opener = before.steps.opener in
      elim (cases_eq opener.seat id) [
        | inr else ↦
            sym (after.seats.next opener.seat opener.view before.world.numbers.issued
            (ap (λ (all : List (View T)). get_elem? all opener.seat) plain-views ∙ set_else (without_places s).views id opener.seat now.view else ∙ opener.there) opener.next).1
        | inl same ↦
            let one : opener.view ≡ made.was.view = there-one (without_places s).views id opener.view made.was.view (ap (get_elem? (without_places s).views) (sym same) ∙ opener.there) was-there in
            sym (after.seats.next id now.view before.world.numbers.issued (at_map view-of s'.views id now now-there)
            (ap (λ (v : View T). v.next) made.noted ∙ ap (λ (v : View T). v.next) (sym one) ∙ opener.next)).1
      ]

  -- and every other session has made as many steps, and has its last one where it was.
  abbrev IsStill : ℕ → Type 0
  IsStill number =
      (length (steps_of number after.events) ≡ length (steps_of number before.events))
      × (IsLastStep number (steps_made after.events) after.events → steps_made after.events ≤ steps_made before.events)

  still : (number : ℕ) → number < before.world.numbers.issued → number ≢ x.number → IsStill number
  still number given other = elim (has-history content (without_places s).views before.world.numbers before.steps.opener before.closed
      (λ history there. before.seats.closed there.seat there.place there.view history there.there there.stands) before.steps.live number given) [
        | inl seat ↦
            let y = seat.history in
            let there = placed-there content begun sizes s order (λ view. view.sessions) y seat.stands in
            let then = stands-then there.0 there.1 there.2 y (λ e. other (sym seat.number_ ∙ e)) there.3 there.4 in
            subst IsStill seat.number_ (
              told-many y.number y.marks (steps_of y.number after.events) (steps_of y.number before.events)
                  (after.steps.at_seat y (record { seat = there.0; place = there.1; view = then.0.view; there = at_map view-of s'.views there.0 then.0 then.1; stands = then.2 }))
                  (before.steps.at_seat y seat.stands),
              λ last. subst (λ n. n ≤ steps_made before.events)
                  (sym then.3 ∙ placed-last y.number (place_of then.0.places y.number) (steps_made after.events) after.events (order'.placed.at_seat there.0 there.1 then.0 y then.1 then.2) last)
                  (placed-most y.number (place_of there.2.places y.number) before.events (order.placed.at_seat there.0 there.1 there.2 y there.3 there.4)),
            )
        | inr closed ↦
            let y = closed.history in
            let there = placed-there content begun sizes s order (λ view. view.closed) y closed.stands in
            let then = closed-then there.0 there.1 there.2 y (λ e. other (sym closed.number_ ∙ e)) there.3 there.4 in
            subst IsStill closed.number_ (
              told-many y.number y.marks (steps_of y.number after.events) (steps_of y.number before.events)
                  (after.steps.closed y (record { seat = there.0; place = there.1; view = then.0.view; there = at_map view-of s'.views there.0 then.0 then.1; stands = then.2 }))
                  (before.steps.closed y closed.stands),
              λ last. subst (λ n. n ≤ steps_made before.events)
                  (sym then.3 ∙ placed-last y.number (place_of then.0.places y.number) (steps_made after.events) after.events (order'.placed.closed there.0 there.1 then.0 y then.1 then.2) last)
                  (placed-most y.number (place_of there.2.places y.number) before.events (order.placed.closed there.0 there.1 there.2 y there.3 there.4)),
            )
      ]

  -- So one step more was made in all,
  made-before : ℕ → ℕ
  made-before number = length (steps_of number before.events)

  x-given : x.number < before.world.numbers.issued
  x-given = before.safe.but_slots.table.carriers.numbers.live_is_issued x.number x-live

  one-more : steps_made after.events ≡ steps_made before.events + 1
  unfolding made-before
  one-more =
      let issued : ℕ = before.world.numbers.issued in
      let all : steps_made before.events ≡ total issued made-before = made-together issued before.events before.steps.none in
      let then : steps_made after.events ≡ total issued (λ number. length (steps_of number after.events)) =
      made-together issued after.events (λ number later. after.steps.none number (subst (λ n. n ≤ number) (sym same-issued) later)) in
      let same : total issued (λ number. length (steps_of number after.events)) ≡ total issued (set_at made-before x.number (made-before x.number + 1)) =
      total-same issued (λ number. length (steps_of number after.events)) (set_at made-before x.number (made-before x.number + 1)) (λ number within.
      elim (cases_eq number x.number) [
        | inl here ↦
            ap (λ n. length (steps_of n after.events)) here
            ∙ told-one_more x.number mark x.marks (steps_of x.number before.events) (steps_of x.number after.events) made.step (before.steps.at_seat x x-stands) (after.steps.at_seat marked marked-stands)
            ∙ sym (set_at-here made-before x.number (made-before x.number + 1) number here)
        | inr other ↦ (still number within other).0 ∙ sym (set_at-else made-before x.number (made-before x.number + 1) number other)
      ]) in
      let change = total-change issued made-before x.number (made-before x.number + 1) x-given in
      omega (arith, all, then, same, change)

  -- and it is the last.
  now-last : place_of now.places x.number ≡ steps_made after.events
  now-last = elim (last-made after.events) [
    | inl none ↦ let more = one-more in absurd (omega (arith, none, more))
    | inr last ↦ elim (cases_eq last.0 x.number) [
      | inl own ↦ placed-last x.number (place_of now.places x.number) (steps_made after.events) after.events
          (order'.placed.at_seat id 0 now marked now-there (ap (λ sessions. slice_get sessions 0) now-sessions)) (subst (λ n. IsLastStep n (steps_made after.events) after.events) own last.1)
      | inr other ↦ absurd (elim (cases_lt last.0 before.world.numbers.issued) [
        | inl given ↦ let most = (still last.0 given other).1 last.1 in let more = one-more in omega (arith, most, more)
        | inr young ↦
            let its = last.1 in
            never-none last.0 its.before its.its its.after its.is_own
            (ap (steps_of last.0) (sym its.all) ∙ after.steps.none last.0 (subst (λ n. n ≤ last.0) (sym same-issued) (omega (arith, young))))
      ])
    ]
  ]

  pub made-last : AllAreEarlier s.views (place_of now.places x.number)
  made-last = record {
    at_seat = λ seat at placed history there stands.
        earlier history.number (place_of placed.places history.number) (order.placed.at_seat seat at placed history there stands);
    closed = λ seat at placed history there stands.
        earlier history.number (place_of placed.places history.number) (order.placed.closed seat at placed history there stands);
  } where
    earlier : (number place : ℕ) → IsPlaced number place before.events → place < place_of now.places x.number
    earlier number place placed =
        let most = placed-most number place before.events placed in
        let more = one-more in
        let last = now-last in
        omega (arith, most, more, last)

  -- Nobody's last step has a later place then.
  pub latest : NoneIsLater s'.views (place_of now.places x.number)
  latest = record {
    at_seat = λ seat at placed history there stands.
        subst (λ n. place_of placed.places history.number ≤ n) (sym now-last) (placed-most history.number (place_of placed.places history.number) after.events (order'.placed.at_seat seat at placed history there stands));
    closed = λ seat at placed history there stands.
        subst (λ n. place_of placed.places history.number ≤ n) (sym now-last) (placed-most history.number (place_of placed.places history.number) after.events (order'.placed.closed seat at placed history there stands));
  }
