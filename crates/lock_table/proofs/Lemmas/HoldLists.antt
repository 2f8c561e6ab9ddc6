use Rattle.std.proofs.Common.{◌≡◌, ℕ, ◌+◌, ◌<◌, ◌≤◌, Bool, true, false, cond, ◌&&◌, ◌||◌, List, [], ◌∷◌, ◌++◌, take, length, get_or, ◌==◌, arith, refl, sym, ap, ◌∙◌, inl, inr}
use Rattle.std.specs.Prelude.{filter, count_by, if◌then◌else◌}
use Rattle.std.specs.List.{list_any, swap_remove}
use Rattle.std.proofs.lemmas.Bool.{cases_Bool, false≢true, cond-true, cond-false}
use Rattle.std.proofs.lemmas.List.Folds.{list_any-append}
use Rattle.std.proofs.lemmas.List.Sums.{sum_by-cons, sum_by-append, sum_by-swap_remove}
use Rattle.std.proofs.Math.Bool.{or-true, or-false, or_comm}
use Rattle.modes_core.specs.declared.modes.Mode.{Mode}
use Rattle.modes_core.specs.declared.tags.Tag.{Tag}
use Rattle.lock_table.specs.declared.request.Request.{Request}
use Rattle.lock_table.specs.Request.{is_request_of, is_request_on}
use Rattle.lock_table.specs.Content.{set_hold}
use Rattle.lock_table.specs.PartView.{holds_in}
use Rattle.modes_core.specs.Mode.{mode_eq}
use Rattle.modes_core.specs.Tag.{tag_eq}
use Rattle.modes_core.proofs.Lemmas.Conflicts.{both_true}
use Rattle.std.proofs.lemmas.List.{take_more}
use Rattle.lock_table.proofs.Lemmas.Lists.{any-counted, counted-any}
use Rattle.lock_table.proofs.Lemmas.Same.{same_triple, SameTriple-from, set_hold-here, set_hold-else}

-- A list with one hold more at its end has one hold more.
push_at :
    (xs : List Request) (s : ℕ) (o : Tag) (m : Mode) (s' : ℕ) (o' : Tag) (m' : Mode) →
    holds_in (xs ++ record { session = s; tag = o; mode = m } ∷ []) s' o' m' ≡ set_hold (holds_in xs) s o m true s' o' m'
push_at xs s o m s' o' m' =
    list_any-append (λ hold. is_request_of hold s' o' m') xs (record { session = s; tag = o; mode = m } ∷ []) ∙
    elim (cases_Bool (same_triple s' o' m' s o m)) [
      | inl alike ↦
          let same = SameTriple-from s' o' m' s o m alike in
          rw (alike, or-true) (rw (same.session, same.tag, same.mode) (sym (set_hold-here (holds_in xs) s o m true)))
      | inr apart ↦ rw (apart, or-false) (sym (set_hold-else (holds_in xs) s o m true s' o' m' apart))
    ]

pub add_hold-push :
    (xs : List Request) (s : ℕ) (o : Tag) (m : Mode) → holds_in (xs ++ record { session = s; tag = o; mode = m } ∷ []) ≡ set_hold (holds_in xs) s o m true
add_hold-push xs s o m = λ i s' o' m'. push_at xs s o m s' o' m' i

-- An element more at the front counts where it passes.
pub count_by-cons : {X : Type 0} (test : X → Bool) (x : X) (xs : List X) → count_by test (x ∷ xs) ≡ (if test x then 1 else 0) + count_by test xs
count_by-cons test x xs = sum_by-cons (λ y. if test y then 1 else 0) x xs

-- A filter leaves no element more often than it was there.
pub count_by-filter : {X : Type 0} (test p : X → Bool) (xs : List X) → count_by test (filter p xs) ≤ count_by test xs
count_by-filter test p [] = omega arith
count_by-filter test p (x ∷ xs) =
    let less : count_by test (filter p xs) ≤ count_by test xs = count_by-filter test p xs in
    rw (count_by-cons test x xs) (
    elim (cases_Bool (p x)) [
      | inl pass ↦ rw (pass, count_by-cons test x (filter p xs)) (omega arith)
      | inr fail ↦ rw fail (omega arith)
    ]
    )

-- Where no element passes a test, none is counted.
pub count_by-none : {X : Type 0} (test : X → Bool) (xs : List X) → list_any test xs ≡ false → count_by test xs ≡ 0
count_by-none test [] none = refl
count_by-none test (x ∷ xs) none =
    rw (count_by-cons test x xs) (
    elim (cases_Bool (test x)) [
      | inl pass ↦ absurd (false≢true (sym none ∙ ap (λ b. b || list_any test xs) pass))
      | inr fail ↦ rw (fail, count_by-none test xs (sym (ap (λ b. b || list_any test xs) fail) ∙ none)) refl
    ]
    )

-- Nobody is counted where no element passes, and as many pass where as many are counted.
any-of_none : {X : Type 0} (test : X → Bool) (xs : List X) → count_by test xs ≡ 0 → list_any test xs ≡ false
any-of_none test xs none =
    elim (cases_Bool (list_any test xs)) [
      | inl some ↦ let more : 0 < count_by test xs = any-counted test xs some in absurd (omega arith)
      | inr it ↦ it
    ]

any-same_count : {X : Type 0} (test : X → Bool) (xs ys : List X) → count_by test xs ≡ count_by test ys → list_any test xs ≡ list_any test ys
any-same_count test xs ys same =
    elim (cases_Bool (list_any test ys)) [
      | inl some ↦ let more : 0 < count_by test ys = any-counted test ys some in counted-any test xs (omega arith) ∙ sym some
      | inr none ↦ let nobody : count_by test ys ≡ 0 = count_by-none test ys none in any-of_none test xs (omega arith) ∙ sym none
    ]

-- An element that is taken out, with the last one moved into its place, is counted no more.
pub count_by-taken_out :
    {X : Type 0} (test : X → Bool) (xs : List X) (i : ℕ) (x : X) → i < length xs → x ≡ get_or xs i x →
    count_by test (swap_remove xs i x) + cond (test x) 1 0 ≡ count_by test xs
count_by-taken_out test xs i x within is =
    ap (λ y. count_by test (swap_remove xs i x) + cond (test y) 1 0) is ∙ sum_by-swap_remove (λ y. cond (test y) 1 0) xs i x within

-- A list without a hold that stood in it once has one hold less.
taken_out_at :
    (xs : List Request) (i : ℕ) (x : Request) (s : ℕ) (o : Tag) (m : Mode) (s' : ℕ) (o' : Tag) (m' : Mode) →
    i < length xs → x ≡ get_or xs i x → is_request_of x s o m ≡ true → count_by (λ hold. is_request_of hold s o m) xs ≤ 1 →
    holds_in (swap_remove xs i x) s' o' m' ≡ set_hold (holds_in xs) s o m false s' o' m'
taken_out_at xs i x s o m s' o' m' within is its once =
    elim (cases_Bool (same_triple s' o' m' s o m)) [
      | inl alike ↦
          let same = SameTriple-from s' o' m' s o m alike in
          let less = count_by-taken_out (λ hold. is_request_of hold s o m) xs i x within is in
          let one : ◌≡◌ {A = ℕ} (cond (is_request_of x s o m) 1 0) 1 = cond-true (is_request_of x s o m) 1 0 its in
          rw (same.session, same.tag, same.mode) (
          any-of_none (λ hold. is_request_of hold s o m) (swap_remove xs i x) (omega (arith, less, one, once)) ∙
          sym (set_hold-here (holds_in xs) s o m false)
          )
      | inr apart ↦
          let it = SameTriple-from s o m x.session x.tag x.mode its in
          let not_it : is_request_of x s' o' m' ≡ false = rw (← it.session, ← it.tag, ← it.mode) apart in
          let less = count_by-taken_out (λ hold. is_request_of hold s' o' m') xs i x within is in
          let none : ◌≡◌ {A = ℕ} (cond (is_request_of x s' o' m') 1 0) 0 = cond-false (is_request_of x s' o' m') 1 0 not_it in
          any-same_count (λ hold. is_request_of hold s' o' m') (swap_remove xs i x) xs (omega (arith, less, none)) ∙
          sym (set_hold-else (holds_in xs) s o m false s' o' m' apart)
    ]

pub remove_hold-taken_out :
    (xs : List Request) (i : ℕ) (x : Request) (s : ℕ) (o : Tag) (m : Mode) →
    i < length xs → x ≡ get_or xs i x → is_request_of x s o m ≡ true → count_by (λ hold. is_request_of hold s o m) xs ≤ 1 →
    holds_in (swap_remove xs i x) ≡ set_hold (holds_in xs) s o m false
remove_hold-taken_out xs i x s o m within is its once = λ j s' o' m'. taken_out_at xs i x s o m s' o' m' within is its once j

pub count_by-append : {X : Type 0} (test : X → Bool) (xs ys : List X) → count_by test (xs ++ ys) ≡ count_by test xs + count_by test ys
count_by-append test xs ys = sum_by-append (λ x. if test x then 1 else 0) xs ys

-- The first i + 1 elements of a list end with the one at i.
pub take_one_more : {X : Type 0} (xs : List X) (i : ℕ) (x : X) → i < length xs → x ≡ get_or xs i x → take (i + 1) xs ≡ take i xs ++ x ∷ []
take_one_more xs i x within is = take_more xs i x within ∙ ap (λ y. take i xs ++ y ∷ []) (sym is)

-- The modes that a session holds an object in, as the list grows by one request.
pub held-take :
    (xs : List Request) (r : Request) (s : ℕ) (o : Tag) (modes : Mode → Bool) → modes ≡ holds_in xs s o → is_request_on r s o ≡ true →
    (λ m. mode_eq m r.mode || modes m) ≡ holds_in (xs ++ r ∷ []) s o
held-take xs r s o modes so_far is = λ i m. at_mode m i where
  at_mode : (m : Mode) → (mode_eq m r.mode || modes m) ≡ holds_in (xs ++ r ∷ []) s o m
  at_mode m =
      let both = both_true (s == r.session) (tag_eq o r.tag) is in
      rw (so_far, list_any-append (λ hold. is_request_of hold s o m) xs (r ∷ []), both.0, both.1, or-false) (or_comm (mode_eq m r.mode) (holds_in xs s o m))

pub held-skip : (xs : List Request) (r : Request) (s : ℕ) (o : Tag) → is_request_on r s o ≡ false → holds_in xs s o ≡ holds_in (xs ++ r ∷ []) s o
held-skip xs r s o is_not = λ i m. at_mode m i where
  not_it : (a b c : Bool) → (a && b) ≡ false → (a && (b && c)) ≡ false
  not_it true true c e = absurd (false≢true (sym e))
  not_it true false c e = refl
  not_it false b c e = refl

  at_mode : (m : Mode) → holds_in xs s o m ≡ holds_in (xs ++ r ∷ []) s o m
  at_mode m =
      rw (list_any-append (λ hold. is_request_of hold s o m) xs (r ∷ []), not_it (s == r.session) (tag_eq o r.tag) (mode_eq m r.mode) is_not) (sym (or-false (holds_in xs s o m)))
