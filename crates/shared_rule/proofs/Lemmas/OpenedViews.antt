use Rattle.std.proofs.Common.{◌≡◌, ◌≢◌, ℕ, zero, suc, true, ◌+◌, ◌<◌, ◌≤◌, List, [], ◌∷◌, ◌++◌, length, Option, Some, None, refl, sym, ap, ◌∙◌, subst, inl, inr, arith, length-set}
use Rattle.std.specs.Prelude.{slice_get, slice_set}
use Rattle.std.proofs.lemmas.Bool.{cases_eq}
use mathlib.Core.Option.{some}
use lib.ListN.{get_elem?}
use Rattle.atomic_table.proofs.Lists.{at_set, set_here, set_else, at_longer}
use Rattle.lock_table.specs.Put.{set_at}
use Rattle.lock_table.specs.Content.{Content}
use Rattle.lock_table.proofs.Lemmas.Put.{set_at-here, set_at-else}
use Rattle.lock_world.specs.World.{World, Numbers}
use Rattle.lock_world.specs.Safe.{NumbersAreInOrder}
use Rattle.lock_world.specs.Happens.Seats.{after_issuing}
use Rattle.shared_rule.specs.declared.history.History.{History}
use Rattle.shared_rule.specs.declared.history.View.{View}
use Rattle.shared_rule.specs.History.{keeper, lone}
use Rattle.shared_rule.specs.Ruled.{IsClosed, HistoryIsShown, IsBehind, SeatsAreShown}
use Rattle.shared_rule.proofs.Lemmas.Standing.{there-within, there-one, there-snoc}

-- Views that are cut in two and joined show what the World after it has.

-- the World with other numbers
abbrev pub with_numbers : World → Numbers → World
with_numbers w numbers = record { words = w.words; contents = w.contents; sessions = w.sessions; numbers = numbers }

-- An option that is nothing in particular is none.
none-if : {A : Type 0} (o : Option A) → ((a : A) → o ≡ Some a → ⊥) → o ≡ None
none-if None never = refl
none-if (Some a) never = absurd (never a refl)

-- The only one in a list.
pub one-get : {A : Type 0} (x : A) (j : ℕ) (y : A) → slice_get (x ∷ []) j ≡ Some y → (j ≡ 0) × (y ≡ x)
one-get x zero y get = let same : x ≡ y = cc (get) in (refl, sym same)
one-get x (suc j) y get = absurd (cc (get))

module _ {T : Type 0} (content : T → Content) (w : World) (numbers : Numbers) (seat_of place_in seats places : ℕ → ℕ) where
  -- A history is shown as before.
  pub still-shown :
      (i j : ℕ) (sessions after : List (History T)) (y : History T) → numbers.live y.number ≡ w.numbers.live y.number → numbers.kept_by y.number ≡ w.numbers.kept_by y.number
      → seats y.number ≡ seat_of y.number → places y.number ≡ place_in y.number → keeper after j ≡ keeper sessions j
      → HistoryIsShown content w seat_of place_in i j sessions y → HistoryIsShown content (with_numbers w numbers) seats places i j after y
  still-shown i j sessions after y live kept_by seat place same old = record {
    account = old.account;
    live = live ∙ old.live;
    kept_by = kept_by ∙ old.kept_by ∙ sym same;
    seat = seat ∙ old.seat;
    place = place ∙ old.place;
  }

-- A session opens.
module _ {T : Type 0} (content : T → Content) (w : World) (views : List (View T)) (id : ℕ) (view : View T) (n : ℕ)
    (at : get_elem? views id ≡ some view) (gives : view.next ≡ Some n) (order : NumbersAreInOrder w.numbers) (seats : SeatsAreShown content views w) where
  abbrev left : View T
  left = record { next = Some (n + 1); closed = view.closed; sessions = view.sessions }

  abbrev new : History T
  new = record { number = n; marks = [] }

  opens_at : (id ≡ seats.opener) × (n ≡ w.numbers.issued)
  opens_at = seats.next id view n at gives

  is_next : n ≡ w.numbers.issued
  is_next = opens_at.1

  -- whoever is live has another number
  pub another : (k : ℕ) → w.numbers.live k ≡ true → k ≢ n
  another k alive e = let young = order.live_is_issued k alive in let same : k ≡ n = e in let next : n ≡ w.numbers.issued = is_next in omega (arith, young, same, next)

  abbrev pub seat_of : ℕ → ℕ
  seat_of = set_at seats.seat_of n (length views)

  abbrev pub place_in : ℕ → ℕ
  place_in = set_at seats.place_in n 0

  pub still : (i j : ℕ) (sessions : List (History T)) (y : History T) → HistoryIsShown content w seats.seat_of seats.place_in i j sessions y
      → HistoryIsShown content (after_issuing w n) seat_of place_in i j sessions y
  still i j sessions y old =
      let other = another y.number old.live in
      still-shown content w (after_issuing w n).numbers seats.seat_of seats.place_in seat_of place_in i j sessions sessions y (set_at-else w.numbers.live n true y.number other) refl
      (set_at-else seats.seat_of n (length views) y.number other) (set_at-else seats.place_in n 0 y.number other) refl old

  pub first : (y : History T) → y ≡ new → HistoryIsShown content (after_issuing w n) seat_of place_in (length views) 0 (new ∷ []) y
  first y same = subst (HistoryIsShown content (after_issuing w n) seat_of place_in (length views) 0 (new ∷ [])) (sym same) (record {
    account = let next : n ≡ w.numbers.issued = is_next in sym (seats.not_issued n (omega (arith, next)));
    live = set_at-here w.numbers.live n true n refl;
    kept_by = none-if (w.numbers.kept_by n) (λ j kept. another n (order.kept_is_live n j kept) refl);
    seat = set_at-here seats.seat_of n (length views) n refl;
    place = set_at-here seats.place_in n 0 n refl;
  })

  new_at : (i j : ℕ) (u : View T) (y : History T) → i ≡ length (slice_set views id left) → lone n [] ≡ u → slice_get u.sessions j ≡ Some y
      → HistoryIsShown content (after_issuing w n) seat_of place_in i j u.sessions y
  new_at i j u y last is get =
      let only = one-get new j y (ap (λ (z : View T). slice_get z.sessions j) is ∙ get) in
      let there : i ≡ length views = last ∙ length-set views id left in
      subst (λ k. HistoryIsShown content (after_issuing w n) seat_of place_in k j u.sessions y) (sym there)
      (subst (λ k. HistoryIsShown content (after_issuing w n) seat_of place_in (length views) k u.sessions y) (sym only.0)
      (subst (λ (z : View T). HistoryIsShown content (after_issuing w n) seat_of place_in (length views) 0 z.sessions y) is (first y only.1)))

  pub shown : (i j : ℕ) (u : View T) (y : History T) → get_elem? (slice_set views id left ++ lone n [] ∷ []) i ≡ some u → slice_get u.sessions j ≡ Some y
      → HistoryIsShown content (after_issuing w n) seat_of place_in i j u.sessions y
  shown i j u y there get =
      elim (there-snoc (slice_set views id left) (lone n []) u i there) [
        | inl old ↦ elim (at_set views id i left u old) [
          | inl here ↦
              subst (λ k. HistoryIsShown content (after_issuing w n) seat_of place_in k j u.sessions y) (sym here.0)
              (subst (λ (z : View T). HistoryIsShown content (after_issuing w n) seat_of place_in id j z.sessions y) here.1
              (still id j view.sessions y (seats.history id j view y at (ap (λ (z : View T). slice_get z.sessions j) here.1 ∙ get))))
          | inr else ↦ still i j u.sessions y (seats.history i j u y else.1 get)
        ]
        | inr last ↦ new_at i j u y last.0 last.1 get
      ]

  pub behind : (k by : ℕ) → w.numbers.kept_by k ≡ Some by → IsBehind content (slice_set views id left ++ lone n [] ∷ []) seat_of place_in k by
  behind k by kept =
      let old = seats.behind k by kept in
      let one = another k (order.kept_is_live k by kept) in
      let its = another by (order.joiner_is_live k by kept) in
      let seat = set_at-else seats.seat_of n (length views) by its in
      let place = set_at-else seats.place_in n 0 k one in
      let there : (z : View T) × (get_elem? (slice_set views id left) (seats.seat_of by) ≡ some z) × (z.sessions ≡ old.view.sessions) =
      elim (cases_eq (seats.seat_of by) id) [
        | inl same ↦ (
          left,
          ap (get_elem? (slice_set views id left)) same ∙ set_here views id left (there-within views id view at),
          ap (λ (z : View T). z.sessions) (there-one views id view old.view at (ap (get_elem? views) (sym same) ∙ old.there)),
        )
        | inr other ↦ (old.view, set_else views id (seats.seat_of by) left other ∙ old.there, refl)
      ] in
      record {
        view = there.0;
        there = ap (get_elem? (slice_set views id left ++ lone n [] ∷ [])) seat ∙ at_longer (slice_set views id left) (lone n [] ∷ []) (seats.seat_of by) there.0 there.1;
        same_seat = set_at-else seats.seat_of n (length views) k one ∙ old.same_seat ∙ sym seat;
        history = old.history;
        stands = ap (slice_get there.0.sessions) place ∙ ap (λ (z : List (History T)). slice_get z (seats.place_in k)) there.2 ∙ old.stands;
        whose = old.whose;
        behind = subst (λ (i : ℕ). i < place_in k) (sym (set_at-else seats.place_in n 0 by its)) (subst (λ (j : ℕ). seats.place_in by < j) (sym place) old.behind);
      }

  pub next : (i : ℕ) (u : View T) (m : ℕ) → get_elem? (slice_set views id left ++ lone n [] ∷ []) i ≡ some u → u.next ≡ Some m → (i ≡ seats.opener) × (m ≡ n + 1)
  next i u m there says =
      elim (there-snoc (slice_set views id left) (lone n []) u i there) [
        | inl old ↦ elim (at_set views id i left u old) [
          | inl here ↦
              let both : Some (n + 1) ≡ Some m = ap (λ (z : View T). z.next) here.1 ∙ says in
              let same : ◌≡◌ {A = ℕ} (n + 1) m = cc (both) in
              (here.0 ∙ opens_at.0, sym same)
          | inr else ↦ absurd (else.0 ((seats.next i u m else.1 says).0 ∙ sym opens_at.0))
        ]
        | inr last ↦ let never : ◌≡◌ {A = Option ℕ} None (Some m) = ap (λ (z : View T). z.next) last.1 ∙ says in absurd (cc (never))
      ]

  -- whoever has closed has another number
  still-closed : (m : ℕ) → IsClosed w.numbers m → IsClosed (after_issuing w n).numbers m
  still-closed m old =
      let young : m < w.numbers.issued = old.0 in
      let next : n ≡ w.numbers.issued = is_next in
      let within : m < n + 1 = omega (arith, young, next) in
      (within, set_at-else w.numbers.live n true m (λ e. let same : ◌≡◌ {A = ℕ} m n = e in omega (arith, young, same, next)) ∙ old.1)

  pub closed : (i j : ℕ) (u : View T) (y : History T) → get_elem? (slice_set views id left ++ lone n [] ∷ []) i ≡ some u → slice_get u.closed j ≡ Some y → IsClosed (after_issuing w n).numbers y.number
  closed i j u y there says =
      elim (there-snoc (slice_set views id left) (lone n []) u i there) [
        | inl old ↦ elim (at_set views id i left u old) [
          | inl here ↦ still-closed y.number (seats.closed id j view y at (ap (λ (z : View T). slice_get z.closed j) here.1 ∙ says))
          | inr else ↦ still-closed y.number (seats.closed i j u y else.1 says)
        ]
        | inr last ↦ let never : ◌≡◌ {A = Option (History T)} None (Some y) = ap (λ (z : View T). slice_get z.closed j) last.1 ∙ says in absurd (cc (never))
      ]

  pub seats-opened : SeatsAreShown content (slice_set views id (record { next = Some (n + 1); closed = view.closed; sessions = view.sessions }) ++ lone n [] ∷ []) (after_issuing w n)
  seats-opened = record {
    seat_of = seat_of;
    place_in = place_in;
    history = shown;
    behind = behind;
    opener = seats.opener;
    next = next;
    closed = closed;
    not_issued = λ m not_yet. let next : n ≡ w.numbers.issued = is_next in let later : n + 1 ≤ m = not_yet in seats.not_issued m (omega (arith, next, later));
  }
