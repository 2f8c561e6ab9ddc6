use Rattle.std.proofs.Common.{◌≡◌, ◌≢◌, ℕ, ◌<◌, List, [], ◌∷◌, ◌++◌, length, Option, Some, None, refl, sym, ap, ◌∙◌, subst, inl, inr, arith, length-set, length-append}
use Rattle.std.specs.Prelude.{slice_get, slice_set}
use Rattle.std.proofs.lemmas.Bool.{cases_eq}
use mathlib.Core.Option.{some}
use lib.ListN.{get_elem?}
use Rattle.atomic_table.proofs.Lists.{at_set, set_here, set_else, at_longer}
use Rattle.lock_table.specs.Put.{set_at}
use Rattle.lock_table.specs.Content.{Content}
use Rattle.lock_table.proofs.Lemmas.Put.{set_at-here, set_at-else}
use Rattle.lock_world.specs.World.{World, Numbers}
use Rattle.shared_rule.specs.declared.history.History.{History}
use Rattle.shared_rule.specs.declared.history.View.{View}
use Rattle.shared_rule.specs.History.{keeper}
use Rattle.shared_rule.specs.Ruled.{IsClosed, HistoryIsShown, IsBehind, SeatsAreShown}
use Rattle.shared_rule.proofs.Lemmas.Standing.{there-within, there-one, there-snoc}
use Rattle.shared_rule.proofs.Lemmas.OpenedViews.{one-get, still-shown, with_numbers}
use Rattle.shared_rule.proofs.Lemmas.MetViews.{last-get, before-get, get-within, more-get, keeper-before}

-- The last session at a seat goes on by itself.
module _ {T : Type 0} (content : T → Content) (w : World) (views : List (View T)) (id : ℕ) (view : View T) (before : List (History T)) (y : History T)
    (at : get_elem? views id ≡ some view) (is : view.sessions ≡ before ++ y ∷ []) (seats : SeatsAreShown content views w) where
  last-there : slice_get view.sessions (length before) ≡ Some y
  last-there = ap (λ sessions. slice_get sessions (length before)) is ∙ last-get before y

  pub last-shown : HistoryIsShown content w seats.seat_of seats.place_in id (length before) view.sessions y
  last-shown = seats.history id (length before) view y at last-there

  old-there : (j : ℕ) (z : History T) → slice_get before j ≡ Some z → slice_get view.sessions j ≡ Some z
  old-there j z get = ap (λ sessions. slice_get sessions j) is ∙ before-get before (y ∷ []) j z get

  -- Those before it are other sessions.
  not-last : (j : ℕ) (z : History T) → slice_get before j ≡ Some z → z.number ≢ y.number
  not-last j z get same =
      let first : seats.place_in z.number ≡ j = (seats.history id j view z at (old-there j z get)).place in
      let last : seats.place_in y.number ≡ length before = last-shown.place in
      let one : seats.place_in z.number ≡ seats.place_in y.number = ap seats.place_in same in
      let less = get-within before j z get in
      omega (arith, first, last, one, less)

  abbrev kept_view : View T
  kept_view = record { next = view.next; closed = view.closed; sessions = before }

  abbrev given_view : View T
  given_view = record { next = None; closed = []; sessions = y ∷ [] }

  abbrev parted_views : List (View T)
  parted_views = slice_set views id kept_view ++ given_view ∷ []

  abbrev numbers_parted : Numbers
  numbers_parted = record (w.numbers) { kept_by = set_at w.numbers.kept_by y.number None }

  abbrev after_parting : World
  after_parting = with_numbers w numbers_parted

  abbrev seat_after : ℕ → ℕ
  seat_after = set_at seats.seat_of y.number (length views)

  abbrev place_after : ℕ → ℕ
  place_after = set_at seats.place_in y.number 0

  still-parted : (i j : ℕ) (sessions after : List (History T)) (z : History T) → z.number ≢ y.number → keeper after j ≡ keeper sessions j
      → HistoryIsShown content w seats.seat_of seats.place_in i j sessions z → HistoryIsShown content after_parting seat_after place_after i j after z
  still-parted i j sessions after z another same old =
      still-shown content w numbers_parted seats.seat_of seats.place_in seat_after place_after i j sessions after z refl
      (set_at-else w.numbers.kept_by y.number None z.number another) (set_at-else seats.seat_of y.number (length views) z.number another)
      (set_at-else seats.place_in y.number 0 z.number another) same old

  kept-shown : (j : ℕ) (z : History T) → slice_get kept_view.sessions j ≡ Some z → HistoryIsShown content after_parting seat_after place_after id j kept_view.sessions z
  kept-shown j z get =
      still-parted id j view.sessions before z (not-last j z get)
      (sym (keeper-before before y j (get-within before j z get)) ∙ sym (ap (λ sessions. keeper sessions j) is))
      (seats.history id j view z at (old-there j z get))

  given-shown : (j : ℕ) (z : History T) → slice_get given_view.sessions j ≡ Some z
      → HistoryIsShown content after_parting seat_after place_after (length views) j given_view.sessions z
  given-shown j z get =
      let only = one-get y j z get in
      subst (λ k. HistoryIsShown content after_parting seat_after place_after (length views) k given_view.sessions z) (sym only.0)
      (subst (HistoryIsShown content after_parting seat_after place_after (length views) 0 given_view.sessions) (sym only.1) (record {
        account = last-shown.account;
        live = last-shown.live;
        kept_by = set_at-here w.numbers.kept_by y.number None y.number refl;
        seat = set_at-here seats.seat_of y.number (length views) y.number refl;
        place = set_at-here seats.place_in y.number 0 y.number refl;
      }))

  parted-shown : (i j : ℕ) (u : View T) (z : History T) → get_elem? parted_views i ≡ some u → slice_get u.sessions j ≡ Some z
      → HistoryIsShown content after_parting seat_after place_after i j u.sessions z
  parted-shown i j u z stands get =
      elim (there-snoc (slice_set views id kept_view) given_view u i stands) [
        | inl there ↦ elim (at_set views id i kept_view u there) [
          | inl here ↦
              subst (λ k. HistoryIsShown content after_parting seat_after place_after k j u.sessions z) (sym here.0)
              (subst (λ (v : View T). slice_get v.sessions j ≡ Some z → HistoryIsShown content after_parting seat_after place_after id j v.sessions z) here.1 (kept-shown j z) get)
          | inr else ↦
              let old = seats.history i j u z else.1 get in
              still-parted i j u.sessions u.sessions z (λ e. else.0 (sym old.seat ∙ ap seats.seat_of e ∙ last-shown.seat)) refl old
        ]
        | inr last ↦
            subst (λ k. HistoryIsShown content after_parting seat_after place_after k j u.sessions z) (sym (last.0 ∙ length-set views id kept_view))
            (subst (λ (v : View T). slice_get v.sessions j ≡ Some z → HistoryIsShown content after_parting seat_after place_after (length views) j v.sessions z) last.1 (given-shown j z) get)
      ]

  -- The last one keeps nobody apart.
  keeps-none : (k : ℕ) → w.numbers.kept_by k ≢ Some y.number
  keeps-none k kept =
      let old = seats.behind k y.number kept in
      let one : old.view ≡ view = there-one views id old.view view (ap (get_elem? views) (sym last-shown.seat) ∙ old.there) at in
      let within = get-within view.sessions (seats.place_in k) old.history (ap (λ (v : View T). slice_get v.sessions (seats.place_in k)) (sym one) ∙ old.stands) in
      let all : length view.sessions ≡ length (before ++ y ∷ []) = ap length is in
      let long = length-append before (y ∷ []) in
      let behind : seats.place_in y.number < seats.place_in k = old.behind in
      let last : seats.place_in y.number ≡ length before = last-shown.place in
      omega (arith, within, all, long, behind, last)

  -- where whoever is kept apart still stands now
  there-parted : (k by : ℕ) → k ≢ y.number → (kept : w.numbers.kept_by k ≡ Some by) →
      (z : View T) × (get_elem? (slice_set views id kept_view) (seats.seat_of by) ≡ some z) × (slice_get z.sessions (seats.place_in k) ≡ Some (seats.behind k by kept).history)
  there-parted k by else kept =
      let old = seats.behind k by kept in
      elim (cases_eq (seats.seat_of by) id) [
        | inl same ↦
            let one : old.view ≡ view = there-one views id old.view view (ap (get_elem? views) (sym same) ∙ old.there) at in
            let stands_there : slice_get (before ++ y ∷ []) (seats.place_in k) ≡ Some old.history =
            ap (λ sessions. slice_get sessions (seats.place_in k)) (sym is) ∙ ap (λ (v : View T). slice_get v.sessions (seats.place_in k)) (sym one) ∙ old.stands in
            elim (more-get before y (seats.place_in k) old.history stands_there) [
              | inl there ↦ (kept_view, ap (get_elem? (slice_set views id kept_view)) same ∙ set_here views id kept_view (there-within views id view at), there)
              | inr last ↦ absurd (else (sym old.whose ∙ ap (λ (h : History T). h.number) last.1))
            ]
        | inr not_id ↦ (old.view, set_else views id (seats.seat_of by) kept_view not_id ∙ old.there, old.stands)
      ]

  parted-behind : (k by : ℕ) → numbers_parted.kept_by k ≡ Some by → IsBehind content parted_views seat_after place_after k by
  parted-behind k by kept =
      elim (cases_eq k y.number) [
        | inl same ↦ let never : ◌≡◌ {A = Option ℕ} None (Some by) = sym (set_at-here w.numbers.kept_by y.number None k same) ∙ kept in absurd (cc (never))
        | inr else ↦
            let kept_before : w.numbers.kept_by k ≡ Some by = sym (set_at-else w.numbers.kept_by y.number None k else) ∙ kept in
            let old = seats.behind k by kept_before in
            let another : by ≢ y.number = λ e. keeps-none k (kept_before ∙ ap (λ (n : ℕ). Some n) e) in
            let seat = set_at-else seats.seat_of y.number (length views) by another in
            let place = set_at-else seats.place_in y.number 0 k else in
            let there_now = there-parted k by else kept_before in
            record {
              view = there_now.0;
              there = ap (get_elem? parted_views) seat ∙ at_longer (slice_set views id kept_view) (given_view ∷ []) (seats.seat_of by) there_now.0 there_now.1;
              same_seat = set_at-else seats.seat_of y.number (length views) k else ∙ old.same_seat ∙ sym seat;
              history = old.history;
              stands = ap (slice_get there_now.0.sessions) place ∙ there_now.2;
              whose = old.whose;
              behind = subst (λ (i : ℕ). i < place_after k) (sym (set_at-else seats.place_in y.number 0 by another)) (subst (λ (j : ℕ). seats.place_in by < j) (sym place) old.behind);
            }
      ]

  parted-next : (i : ℕ) (u : View T) (m : ℕ) → get_elem? parted_views i ≡ some u → u.next ≡ Some m → (i ≡ seats.opener) × (m ≡ w.numbers.issued)
  parted-next i u m stands says =
      elim (there-snoc (slice_set views id kept_view) given_view u i stands) [
        | inl there ↦ elim (at_set views id i kept_view u there) [
          | inl here ↦ let was = seats.next id view m at (ap (λ (z : View T). z.next) here.1 ∙ says) in (here.0 ∙ was.0, was.1)
          | inr else ↦ seats.next i u m else.1 says
        ]
        | inr last ↦ let never : ◌≡◌ {A = Option ℕ} None (Some m) = ap (λ (z : View T). z.next) last.1 ∙ says in absurd (cc (never))
      ]

  parted-closed : (i j : ℕ) (u : View T) (z : History T) → get_elem? parted_views i ≡ some u → slice_get u.closed j ≡ Some z → IsClosed w.numbers z.number
  parted-closed i j u z stands says =
      elim (there-snoc (slice_set views id kept_view) given_view u i stands) [
        | inl there ↦ elim (at_set views id i kept_view u there) [
          | inl here ↦ seats.closed id j view z at (ap (λ (v : View T). slice_get v.closed j) here.1 ∙ says)
          | inr else ↦ seats.closed i j u z else.1 says
        ]
        | inr last ↦ let never : ◌≡◌ {A = Option (History T)} None (Some z) = ap (λ (v : View T). slice_get v.closed j) last.1 ∙ says in absurd (cc (never))
      ]

  pub seats-parted : SeatsAreShown content parted_views after_parting
  seats-parted = record {
    seat_of = seat_after;
    place_in = place_after;
    history = parted-shown;
    behind = parted-behind;
    opener = seats.opener;
    next = parted-next;
    closed = parted-closed;
    not_issued = seats.not_issued;
  }
