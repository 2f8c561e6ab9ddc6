use Rattle.std.proofs.Common.{◌≡◌, ◌⊎◌, ℕ, zero, suc, ◌+◌, ◌<◌, ◌≤◌, ◌==◌, Bool, true, false, not, List, [], ◌∷◌, length, Option, Some, None, refl, sym, ap, ◌∙◌, inl, inr, arith}
use Rattle.std.specs.Prelude.{slice_get, slice_set, count_by, if◌then◌else◌}
use Rattle.std.proofs.lemmas.Bool.{cases_Bool, both_ways, cond-true, eq-eqb}
use mathlib.Core.Option.{some}
use lib.ListN.{get_elem?}
use Rattle.atomic_table.specs.Table.{State}
use Rattle.atomic_table.proofs.Lists.{at_set}
use Rattle.lock_table.specs.declared.request.Request.{Request}
use Rattle.lock_table.specs.Content.{Content}
use Rattle.lock_table.specs.Total.{total, how_many}
use Rattle.lock_table.proofs.Lemmas.HoldLists.{count_by-cons}
use Rattle.lock_world.specs.World.{Numbers}
use Rattle.shared_rule.specs.declared.history.History.{History}
use Rattle.shared_rule.specs.declared.history.Mark.{Mark}
use Rattle.shared_rule.specs.declared.history.View.{View}
use Rattle.shared_rule.specs.declared.kept.Kept.{Kept}
use Rattle.shared_rule.specs.declared.rule.TableSizes.{TableSizes}
use Rattle.shared_rule.specs.History.{lone, spent_view}
use Rattle.shared_rule.specs.Gatherings.{AreDistinct, gathered_in}
use Rattle.shared_rule.specs.Ruled.{IsClosed, ClosedAreCounted, OpenerHasClosed, HistoryIsShown, StandsClosed, HasSeat, HasClosedHistory, HasOpener, Ruled}
use Rattle.shared_rule.proofs.Lemmas.Told.{set-back, set-among}
use Rattle.shared_rule.proofs.Lemmas.Gathered.{find-among, not-among, none-else, AllPass}

-- Each number that was given out has its history.

-- Those that pass and those that don't are all.
passing-or-not : (limit : ℕ) (test : ℕ → Bool) → how_many limit test + how_many limit (λ k. not (test k)) ≡ limit
unfolding total
passing-or-not zero test = refl
passing-or-not (suc limit) test =
    let before : how_many limit test + how_many limit (λ k. not (test k)) ≡ limit = passing-or-not limit test in
    let one : (if test limit then 1 else 0) + (if not (test limit) then 1 else 0) ≡ 1 = either-way (test limit) in
    omega (arith, before, one) where
      either-way : (b : Bool) → (if b then 1 else 0) + (if not b then 1 else 0) ≡ 1
      either-way true = refl
      either-way false = refl

-- One that passes is counted.
some-counted : {X : Type 0} (test : X → Bool) (xs : List X) (place : ℕ) (x : X) → slice_get xs place ≡ Some x → test x ≡ true → 1 ≤ count_by test xs
some-counted test [] place x at passes = absurd (cc (at))
some-counted test (y ∷ ys) zero x at passes =
    let same : y ≡ x = cc (at) in
    let here : ◌≡◌ {A = ℕ} (if test y then 1 else 0) 1 = cond-true (test y) 1 0 (ap test same ∙ passes) in
    let all = count_by-cons test y ys in
    omega (arith, here, all)
some-counted test (y ∷ ys) (suc place) x at passes =
    let rest = some-counted test ys place x at passes in
    let all = count_by-cons test y ys in
    omega (arith, rest, all)

module _ {T : Type 0} (content : T → Content) where
  -- Numbers that each are there once are distinct.
  distinct-once : (limit : ℕ) (hs : List (History T)) → ((number : ℕ) → count_by (λ history. history.number == number) hs ≤ 1)
      → ((place : ℕ) (h : History T) → slice_get hs place ≡ Some h → h.number < limit) → AreDistinct limit (gathered_in content hs)
  distinct-once limit [] once below = tt
  distinct-once limit (h ∷ hs) once below = (
    below 0 h refl,
    not-among content hs h.number (λ place g at same.
        let here : ◌≡◌ {A = ℕ} (if h.number == h.number then 1 else 0) 1 = cond-true (h.number == h.number) 1 0 (eq-eqb h.number h.number refl) in
        let there = some-counted (λ (history : History T). history.number == h.number) hs place g at (eq-eqb g.number h.number same) in
        let all = count_by-cons (λ (history : History T). history.number == h.number) h hs in
        let most = once h.number in
        omega (arith, here, there, all, most)),
    distinct-once limit hs
        (λ number.
        let all = count_by-cons (λ (history : History T). history.number == number) h hs in
        let most = once number in
        omega (arith, all, most))
        (λ place g at. below (suc place) g at),
  )

  as_many : (hs : List (History T)) → length (gathered_in content hs) ≡ length hs
  as_many [] = refl
  as_many (h ∷ hs) = ap suc (as_many hs)

  all-pass : (test : ℕ → Bool) (hs : List (History T)) → ((place : ℕ) (h : History T) → slice_get hs place ≡ Some h → test h.number ≡ true) → AllPass test (gathered_in content hs)
  all-pass test [] each = tt
  all-pass test (h ∷ hs) each = (each 0 h refl, all-pass test hs (λ place g at. each (suc place) g at))

  -- Whoever was given out and is not live is among those that have closed.
  closed-there : (numbers : Numbers) (closed : List (History T)) (number : ℕ) → ClosedAreCounted numbers closed
      → ((place : ℕ) (h : History T) → slice_get closed place ≡ Some h → IsClosed numbers h.number) → number < numbers.issued → numbers.live number ≡ false
      → (place : ℕ) × (h : History T) × (slice_get closed place ≡ Some h) × (h.number ≡ number)
  closed-there numbers closed number counted each given dead = elim (find-among content closed number) [
    | inl found ↦ (found.place, found.history, found.there, found.number)
    | inr none ↦
        let both = passing-or-not numbers.issued numbers.live in
        let all = counted.all in
        let many = as_many closed in
        let dead_ones : how_many numbers.issued (λ k. not (numbers.live k)) ≡ length (gathered_in content closed) = omega (arith, both, all, many) in
        absurd (none-else numbers.issued (λ k. not (numbers.live k)) (gathered_in content closed)
        (distinct-once numbers.issued closed counted.once (λ place h at. (each place h at).0))
        (all-pass (λ k. not (numbers.live k)) closed (λ place h at. ap not (each place h at).1))
        dead_ones number given (ap not dead) none)
  ]

  pub has-history : (views : List (View T)) (numbers : Numbers) → HasOpener views numbers.issued → OpenerHasClosed views numbers
      → ((history : History T) → StandsClosed views history → IsClosed numbers history.number)
      → ((number : ℕ) → numbers.live number ≡ true → HasSeat views number)
      → (number : ℕ) → number < numbers.issued → HasSeat views number ⊎ HasClosedHistory views number
  has-history views numbers opener counted each live number given = elim (cases_Bool (numbers.live number)) [
    | inl alive ↦ inl (live number alive)
    | inr dead ↦
        let found = closed-there numbers opener.view.closed number (counted opener.seat opener.view numbers.issued opener.there opener.next)
        (λ place h at. each h (record { seat = opener.seat; place = place; view = opener.view; there = opener.there; stands = at })) given dead in
        inr (record {
          history = found.1;
          number_ = found.3;
          stands = record { seat = opener.seat; place = found.0; view = opener.view; there = opener.there; stands = found.2 };
        })
  ]

-- No seat vanishes.
module _ {T : Type 0} (content : T → Content) (begun : T → Option Request) (sizes : TableSizes) (s : State (Kept T) (View T)) (r : Ruled content begun sizes s)
    (id k : ℕ) (marks : List (Mark T)) (at : get_elem? s.views id ≡ some (lone k marks)) where
  abbrev without_it : List (View T)
  without_it = slice_set s.views id spent_view

  shown : HistoryIsShown content r.world r.seats.seat_of r.seats.place_in id 0 (record { number = k; marks = marks } ∷ []) (record { number = k; marks = marks })
  shown = r.seats.history id 0 (lone k marks) (record { number = k; marks = marks }) at refl

  -- The opener gives out the same number next.
  still-next : (issued : ℕ) → HasOpener without_it issued → issued ≡ r.world.numbers.issued
  still-next issued has = elim (at_set s.views id has.seat spent_view has.view has.there) [
    | inl here ↦ let never : ◌≡◌ {A = Option ℕ} None (Some issued) = ap (λ (z : View T). z.next) here.1 ∙ has.next in absurd (cc (never))
    | inr elsewhere ↦ (r.seats.next has.seat has.view issued elsewhere.1 has.next).1
  ]

  -- Nobody else has its number.
  no-other : HasSeat without_it k → ⊥
  no-other has = elim (set-back (λ (z : View T). z.sessions) s.views id (lone k marks) at spent_view has.history has.stands) [
    | inl here ↦ absurd (cc (here.1))
    | inr elsewhere ↦
        let there = r.seats.history elsewhere.0.seat elsewhere.0.place elsewhere.0.view has.history elsewhere.0.there elsewhere.0.stands in
        elsewhere.1 (sym there.seat ∙ ap r.seats.seat_of has.number_ ∙ shown.seat)
  ]

  not-closed : HasClosedHistory without_it k → ⊥
  not-closed has =
      let stood = set-among (λ (z : View T). z.closed) s.views id (lone k marks) at spent_view has.history (λ place get. (place, get)) has.stands in
      both_ways (r.world.numbers.live k)
      (ap r.world.numbers.live (sym has.number_) ∙ (r.seats.closed stood.seat stood.place stood.view has.history stood.there stood.stands).1) shown.live

  pub vanishes : Ruled content begun sizes (record { words = s.words; homes = s.homes; views = slice_set s.views id spent_view }) → ⊥
  vanishes gone =
      let next = still-next gone.world.numbers.issued gone.steps.opener in
      let young : k < r.world.numbers.issued = r.safe.but_slots.table.carriers.numbers.live_is_issued k shown.live in
      elim (has-history content without_it gone.world.numbers gone.steps.opener gone.closed
      (λ history stands. gone.seats.closed stands.seat stands.place stands.view history stands.there stands.stands) gone.steps.live k (omega (arith, next, young))) [
        | inl seat ↦ no-other seat
        | inr closed ↦ not-closed closed
      ]

pub no-seat_vanishes : {T : Type 0} (content : T → Content) (begun : T → Option Request) (sizes : TableSizes) (s : State (Kept T) (View T)) → Ruled content begun sizes s
    → (id k : ℕ) (marks : List (Mark T)) → get_elem? s.views id ≡ some (lone k marks)
    → Ruled content begun sizes (record { words = s.words; homes = s.homes; views = slice_set s.views id spent_view }) → ⊥
no-seat_vanishes content begun sizes s r id k marks at = vanishes content begun sizes s r id k marks at
