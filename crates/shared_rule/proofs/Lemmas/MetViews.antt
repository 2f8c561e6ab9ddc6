use Rattle.std.proofs.Common.{◌≡◌, ◌≢◌, ◌⊎◌, ℕ, zero, suc, ◌<◌, List, [], ◌∷◌, ◌++◌, length, Option, Some, None, refl, sym, ap, ◌∙◌, subst, inl, inr, arith}
use Rattle.std.specs.Prelude.{slice_get, slice_set}
use Rattle.std.proofs.lemmas.Bool.{cases_eq}
use mathlib.Core.Option.{some}
use lib.ListN.{get_elem?}
use Rattle.atomic_table.proofs.Lists.{at_set, set_here, set_else}
use Rattle.lock_table.specs.Put.{set_at}
use Rattle.lock_table.specs.Content.{Content}
use Rattle.lock_table.proofs.Lemmas.Put.{set_at-here, set_at-else}
use Rattle.lock_world.specs.World.{World, Numbers}
use Rattle.shared_rule.specs.declared.history.Mark.{Mark}
use Rattle.shared_rule.specs.declared.history.History.{History}
use Rattle.shared_rule.specs.declared.history.View.{View}
use Rattle.shared_rule.specs.History.{keeper, lone, spent_view}
use Rattle.shared_rule.specs.Ruled.{IsClosed, HistoryIsShown, IsBehind, SeatsAreShown}
use Rattle.shared_rule.specs.Boards.{first_marks}
use Rattle.shared_rule.specs.Seats.{all_but_last, last_of, handed_back}
use Rattle.shared_rule.proofs.Lemmas.Standing.{there-within, there-one}
use Rattle.shared_rule.proofs.Lemmas.Views.{history-alone, nobody-behind}
use Rattle.shared_rule.proofs.Lemmas.OpenedViews.{one-get, still-shown, with_numbers}

-- Sessions that meet at one seat, each behind those that came before it, and part again, the last one first:
-- the views show what the World after it has.

-- Lists with one more behind.
module _ {A : Type 0} where
  pub last-get : (xs : List A) (y : A) → slice_get (xs ++ y ∷ []) (length xs) ≡ Some y
  last-get [] y = refl
  last-get (x ∷ xs) y = last-get xs y

  pub before-get : (xs ys : List A) (j : ℕ) (z : A) → slice_get xs j ≡ Some z → slice_get (xs ++ ys) j ≡ Some z
  before-get [] ys j z get = absurd (cc (get))
  before-get (x ∷ xs) ys zero z get = get
  before-get (x ∷ xs) ys (suc j) z get = before-get xs ys j z get

  pub get-within : (xs : List A) (j : ℕ) (z : A) → slice_get xs j ≡ Some z → j < length xs
  get-within [] j z get = absurd (cc (get))
  get-within (x ∷ xs) zero z get = omega arith
  get-within (x ∷ xs) (suc j) z get = let less = get-within xs j z get in omega (arith, less)

  pub more-get : (xs : List A) (y : A) (j : ℕ) (z : A) → slice_get (xs ++ y ∷ []) j ≡ Some z → (slice_get xs j ≡ Some z) ⊎ ((j ≡ length xs) × (z ≡ y))
  more-get [] y j z get = inr (one-get y j z get)
  more-get (x ∷ xs) y zero z get = inl get
  more-get (x ∷ xs) y (suc j) z get =
      elim (more-get xs y j z get) [
        | inl there ↦ inl there
        | inr last ↦ inr (ap suc last.0, last.1)
      ]

  pub all_but_last-of : (xs : List A) (y : A) → all_but_last (xs ++ y ∷ []) ≡ xs
  all_but_last-of [] y = refl
  all_but_last-of (x ∷ []) y = refl
  all_but_last-of (x ∷ z ∷ xs) y = ap (λ rest. x ∷ rest) (all_but_last-of (z ∷ xs) y)

  pub last_of-of : (xs : List A) (y : A) → last_of (xs ++ y ∷ []) ≡ y ∷ []
  last_of-of [] y = refl
  last_of-of (x ∷ []) y = refl
  last_of-of (x ∷ z ∷ xs) y = last_of-of (z ∷ xs) y

-- Who keeps whom apart, with one more behind.
module _ {T : Type 0} where
  pub keeper-before : (xs : List (History T)) (y : History T) (j : ℕ) → j < length xs → keeper (xs ++ y ∷ []) j ≡ keeper xs j
  keeper-before [] y j less = absurd (omega (arith, less))
  keeper-before (x ∷ xs) y zero less = refl
  keeper-before (x ∷ xs) y (suc j) less = refl

  keeper-last : (xs : List (History T)) (y : History T) (by : ℕ) → keeper (xs ++ y ∷ []) (length xs) ≡ Some by
      → (x : History T) × (slice_get xs 0 ≡ Some x) × (x.number ≡ by)
  keeper-last [] y by kept = absurd (cc (kept))
  keeper-last (x ∷ xs) y by kept = let same : Some x.number ≡ Some by = kept in (x, refl, cc (same))

-- The view of the last one alone is one session's.
pub lone-last : {T : Type 0} (view : View T) (before : List (History T)) (last : History T) (number : ℕ) → view.sessions ≡ before ++ last ∷ [] → last.number ≡ number
    → handed_back view ≡ lone number (first_marks (handed_back view).sessions)
lone-last {T} view before last number is same =
    let there : last_of view.sessions ≡ last ∷ [] = ap last_of is ∙ last_of-of before last in
    let as_lone : last_of view.sessions ≡ record { number = number; marks = first_marks (last_of view.sessions) } ∷ [] =
    there ∙ (λ i. record { number = same i; marks = last.marks } ∷ []) ∙ sym (ap (λ (xs : List (History T)). record { number = number; marks = first_marks xs } ∷ []) there) in
    λ i. record { next = None; closed = []; sessions = as_lone i }

-- The session b is kept apart behind those at a seat.
module _ {T : Type 0} (content : T → Content) (w : World) (views : List (View T)) (id : ℕ) (view : View T) (other b : ℕ) (others : List (Mark T))
    (at : get_elem? views id ≡ some view) (there : get_elem? views other ≡ some (lone b others)) (apart : other ≢ id) (seats : SeatsAreShown content views w) where
  abbrev second : History T
  second = record { number = b; marks = others }

  abbrev both : View T
  both = record { next = view.next; closed = view.closed; sessions = view.sessions ++ second ∷ [] }

  abbrev joined : List (View T)
  joined = slice_set (slice_set views id both) other spent_view

  abbrev numbers_met : Numbers
  numbers_met = record (w.numbers) { kept_by = set_at w.numbers.kept_by b (keeper (view.sessions ++ second ∷ []) (length view.sessions)) }

  abbrev after_meeting : World
  after_meeting = with_numbers w numbers_met

  pub second-shown : HistoryIsShown content w seats.seat_of seats.place_in other 0 (record { number = b; marks = others } ∷ []) (record { number = b; marks = others })
  second-shown = history-alone content w views other b others there seats

  -- Whoever is at the seat is another session.
  pub another-there : (j : ℕ) (x : History T) → slice_get view.sessions j ≡ Some x → x.number ≢ b
  another-there j x get same = apart (sym second-shown.seat ∙ ap seats.seat_of (sym same) ∙ (seats.history id j view x at get).seat)

  abbrev pub seat_of : ℕ → ℕ
  seat_of = set_at seats.seat_of b id

  abbrev pub place_in : ℕ → ℕ
  place_in = set_at seats.place_in b (length view.sessions)

  pub still : (i j : ℕ) (sessions after : List (History T)) (y : History T) → y.number ≢ b → keeper after j ≡ keeper sessions j
      → HistoryIsShown content w seats.seat_of seats.place_in i j sessions y → HistoryIsShown content after_meeting seat_of place_in i j after y
  still i j sessions after y another same old =
      still-shown content w numbers_met seats.seat_of seats.place_in seat_of place_in i j sessions after y refl
      (set_at-else w.numbers.kept_by b (keeper (view.sessions ++ second ∷ []) (length view.sessions)) y.number another)
      (set_at-else seats.seat_of b id y.number another) (set_at-else seats.place_in b (length view.sessions) y.number another) same old

  second-met : (y : History T) → y ≡ second → HistoryIsShown content after_meeting seat_of place_in id (length view.sessions) both.sessions y
  second-met y same = subst (HistoryIsShown content after_meeting seat_of place_in id (length view.sessions) both.sessions) (sym same) (record {
    account = second-shown.account;
    live = second-shown.live;
    kept_by = set_at-here w.numbers.kept_by b (keeper (view.sessions ++ second ∷ []) (length view.sessions)) b refl;
    seat = set_at-here seats.seat_of b id b refl;
    place = set_at-here seats.place_in b (length view.sessions) b refl;
  })

  met-here : (j : ℕ) (y : History T) → slice_get both.sessions j ≡ Some y → HistoryIsShown content after_meeting seat_of place_in id j both.sessions y
  met-here j y get =
      elim (more-get view.sessions second j y get) [
        | inl old ↦
            still id j view.sessions both.sessions y (another-there j y old) (keeper-before view.sessions second j (get-within view.sessions j y old)) (seats.history id j view y at old)
        | inr last ↦ subst (λ k. HistoryIsShown content after_meeting seat_of place_in id k both.sessions y) (sym last.0) (second-met y last.1)
      ]

  met-shown : (i j : ℕ) (u : View T) (y : History T) → get_elem? joined i ≡ some u → slice_get u.sessions j ≡ Some y
      → HistoryIsShown content after_meeting seat_of place_in i j u.sessions y
  met-shown i j u y stands get =
      elim (at_set (slice_set views id both) other i spent_view u stands) [
        | inl here ↦ let never : ◌≡◌ {A = Option (History T)} None (Some y) = ap (λ (z : View T). slice_get z.sessions j) here.1 ∙ get in absurd (cc (never))
        | inr else ↦ elim (at_set views id i both u else.1) [
          | inl here ↦
              subst (λ k. HistoryIsShown content after_meeting seat_of place_in k j u.sessions y) (sym here.0)
              (subst (λ (z : View T). slice_get z.sessions j ≡ Some y → HistoryIsShown content after_meeting seat_of place_in id j z.sessions y) here.1 (met-here j y) get)
          | inr elsewhere ↦
              let old = seats.history i j u y elsewhere.1 get in
              still i j u.sessions u.sessions y (λ e. else.0 (sym old.seat ∙ ap seats.seat_of e ∙ second-shown.seat)) refl old
        ]
      ]

  joined-at : get_elem? joined id ≡ some both
  joined-at = set_else (slice_set views id both) other id spent_view (λ e. apart (sym e)) ∙ set_here views id both (there-within views id view at)

  -- where whoever was kept apart before stands now
  there-met : (k by : ℕ) (kept : w.numbers.kept_by k ≡ Some by) →
      (z : View T) × (get_elem? joined (seats.seat_of by) ≡ some z) × (slice_get z.sessions (seats.place_in k) ≡ Some (seats.behind k by kept).history)
  there-met k by kept =
      let old = seats.behind k by kept in
      elim (cases_eq (seats.seat_of by) id) [
        | inl same ↦
            let one : old.view ≡ view = there-one views id old.view view (ap (get_elem? views) (sym same) ∙ old.there) at in (
              both,
              ap (get_elem? joined) same ∙ joined-at,
              before-get view.sessions (second ∷ []) (seats.place_in k) old.history (ap (λ (z : View T). slice_get z.sessions (seats.place_in k)) (sym one) ∙ old.stands),
            )
        | inr not_id ↦ (
          old.view,
          set_else (slice_set views id both) other (seats.seat_of by) spent_view (nobody-behind content w views other b others there seats k by kept)
              ∙ set_else views id (seats.seat_of by) both not_id ∙ old.there,
          old.stands,
        )
      ]

  behind-still : (k by : ℕ) → k ≢ b → w.numbers.kept_by k ≡ Some by → IsBehind content joined seat_of place_in k by
  behind-still k by other_one kept =
      let old = seats.behind k by kept in
      let not_other = nobody-behind content w views other b others there seats k by kept in
      let another : by ≢ b = λ e. not_other (ap seats.seat_of e ∙ second-shown.seat) in
      let seat = set_at-else seats.seat_of b id by another in
      let place = set_at-else seats.place_in b (length view.sessions) k other_one in
      let there_now = there-met k by kept in
      record {
        view = there_now.0;
        there = ap (get_elem? joined) seat ∙ there_now.1;
        same_seat = set_at-else seats.seat_of b id k other_one ∙ old.same_seat ∙ sym seat;
        history = old.history;
        stands = ap (slice_get there_now.0.sessions) place ∙ there_now.2;
        whose = old.whose;
        behind = subst (λ (i : ℕ). i < place_in k) (sym (set_at-else seats.place_in b (length view.sessions) by another)) (subst (λ (j : ℕ). seats.place_in by < j) (sym place) old.behind);
      }

  met-behind : (k by : ℕ) → numbers_met.kept_by k ≡ Some by → IsBehind content joined seat_of place_in k by
  met-behind k by kept =
      elim (cases_eq k b) [
        | inl same ↦
            let first = keeper-last view.sessions second by (sym (set_at-here w.numbers.kept_by b (keeper (view.sessions ++ second ∷ []) (length view.sessions)) k same) ∙ kept) in
            let shown = seats.history id 0 view first.0 at first.1 in
            let another : by ≢ b = λ e. another-there 0 first.0 first.1 (first.2 ∙ e) in
            let seat : seat_of by ≡ id = set_at-else seats.seat_of b id by another ∙ ap seats.seat_of (sym first.2) ∙ shown.seat in
            let place : place_in by ≡ 0 = set_at-else seats.place_in b (length view.sessions) by another ∙ ap seats.place_in (sym first.2) ∙ shown.place in
            let last : place_in k ≡ length view.sessions = set_at-here seats.place_in b (length view.sessions) k same in
            let some_there = get-within view.sessions 0 first.0 first.1 in
            record {
              view = both;
              there = ap (get_elem? joined) seat ∙ joined-at;
              same_seat = set_at-here seats.seat_of b id k same ∙ sym seat;
              history = second;
              stands = ap (slice_get both.sessions) last ∙ last-get view.sessions second;
              whose = sym same;
              behind = omega (arith, place, last, some_there);
            }
        | inr other_one ↦ behind-still k by other_one (sym (set_at-else w.numbers.kept_by b (keeper (view.sessions ++ second ∷ []) (length view.sessions)) k other_one) ∙ kept)
      ]

  met-next : (i : ℕ) (u : View T) (m : ℕ) → get_elem? joined i ≡ some u → u.next ≡ Some m → (i ≡ seats.opener) × (m ≡ w.numbers.issued)
  met-next i u m stands says =
      elim (at_set (slice_set views id both) other i spent_view u stands) [
        | inl here ↦ let never : ◌≡◌ {A = Option ℕ} None (Some m) = ap (λ (z : View T). z.next) here.1 ∙ says in absurd (cc (never))
        | inr else ↦ elim (at_set views id i both u else.1) [
          | inl here ↦ let was = seats.next id view m at (ap (λ (z : View T). z.next) here.1 ∙ says) in (here.0 ∙ was.0, was.1)
          | inr elsewhere ↦ seats.next i u m elsewhere.1 says
        ]
      ]

  met-closed : (i j : ℕ) (u : View T) (y : History T) → get_elem? joined i ≡ some u → slice_get u.closed j ≡ Some y → IsClosed w.numbers y.number
  met-closed i j u y stands says =
      elim (at_set (slice_set views id both) other i spent_view u stands) [
        | inl here ↦ let never : ◌≡◌ {A = Option (History T)} None (Some y) = ap (λ (z : View T). slice_get z.closed j) here.1 ∙ says in absurd (cc (never))
        | inr else ↦ elim (at_set views id i both u else.1) [
          | inl here ↦ seats.closed id j view y at (ap (λ (z : View T). slice_get z.closed j) here.1 ∙ says)
          | inr elsewhere ↦ seats.closed i j u y elsewhere.1 says
        ]
      ]

  pub seats-met : SeatsAreShown content joined after_meeting
  seats-met = record {
    seat_of = seat_of;
    place_in = place_in;
    history = met-shown;
    behind = met-behind;
    opener = seats.opener;
    next = met-next;
    closed = met-closed;
    not_issued = seats.not_issued;
  }
