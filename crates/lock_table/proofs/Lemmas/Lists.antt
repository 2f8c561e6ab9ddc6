use Rattle.std.proofs.Common.{◌≡◌, ℕ, ◌+◌, ◌<◌, Bool, true, false, cond, ◌||◌, List, [], ◌∷◌, length, get_or, Option, Some, None, is_some, is_none, refl, sym, ap, ◌∙◌, inl, inr, arith, suc}
use Rattle.std.specs.Prelude.{filter}
use Rattle.std.specs.List.{list_any, count_by}
use Rattle.std.proofs.lemmas.Bool.{cases_Bool, cases_lt, false≢true, cond-true, cond-false}
use Rattle.std.proofs.lemmas.List.{get_or_past, get_or_default}
use Rattle.std.proofs.lemmas.List.Folds.{list_any_at}
use Rattle.std.proofs.lemmas.List.Sums.{sum_by-cons}

-- A test that some element passes finds one.
pub any_found : {X : Type 0} (p : X → Bool) (xs : List X) → list_any p xs ≡ true → (i : ℕ) × (x : X) × (i < length xs) × ((d : X) → get_or xs i d ≡ x) × (p x ≡ true)
any_found p [] any = absurd (false≢true any)
any_found {X} p (x ∷ xs) any =
    elim (cases_Bool (p x)) [
      | inl pass ↦ (0, x, omega arith, λ d. refl, pass)
      | inr fail ↦ later (any_found p xs (ap (λ b. b || list_any p xs) (sym fail) ∙ any))
    ] where
      later : ((i : ℕ) × (y : X) × (i < length xs) × ((d : X) → get_or xs i d ≡ y) × (p y ≡ true)) → (i : ℕ) × (y : X) × (i < length (x ∷ xs)) × ((d : X) → get_or (x ∷ xs) i d ≡ y) × (p y ≡ true)
      later found = (suc found.0, found.1, omega (arith, found.2), found.3, found.4)

-- What passes one test and so another.
pub any_weaker : {X : Type 0} (p q : X → Bool) (xs : List X) → ((x : X) → p x ≡ true → q x ≡ true) → list_any p xs ≡ true → list_any q xs ≡ true
any_weaker p q [] weaker any = absurd (false≢true any)
any_weaker p q (x ∷ xs) weaker any =
    elim (cases_Bool (p x)) [
      | inl pass ↦ ap (λ b. b || list_any q xs) (weaker x pass)
      | inr fail ↦ or_right (q x) (list_any q xs) (any_weaker p q xs weaker (ap (λ b. b || list_any p xs) (sym fail) ∙ any))
    ] where
      or_right : (a b : Bool) → b ≡ true → (a || b) ≡ true
      or_right true b e = refl
      or_right false b e = e

-- A count goes element by element.
count_by-cons : {X : Type 0} (p : X → Bool) (x : X) (xs : List X) → count_by p (x ∷ xs) ≡ cond (p x) 1 0 + count_by p xs
count_by-cons p x xs = sum_by-cons (λ y. cond (p y) 1 0) x xs

-- Some element passes exactly where more than none are counted.
pub any-counted : {X : Type 0} (p : X → Bool) (xs : List X) → list_any p xs ≡ true → 0 < count_by p xs
any-counted p [] any = absurd (false≢true any)
any-counted p (x ∷ xs) any =
    elim (cases_Bool (p x)) [
      | inl pass ↦ let one : ◌≡◌ {A = ℕ} (cond (p x) 1 0) 1 = cond-true (p x) 1 0 pass in let sum = count_by-cons p x xs in omega arith
      | inr fail ↦ let more : 0 < count_by p xs = any-counted p xs (ap (λ b. b || list_any p xs) (sym fail) ∙ any) in let sum = count_by-cons p x xs in omega arith
    ]

pub counted-any : {X : Type 0} (p : X → Bool) (xs : List X) → 0 < count_by p xs → list_any p xs ≡ true
counted-any p [] more = absurd (omega arith)
counted-any p (x ∷ xs) more =
    elim (cases_Bool (p x)) [
      | inl pass ↦ ap (λ b. b || list_any p xs) pass
      | inr fail ↦
          let none : ◌≡◌ {A = ℕ} (cond (p x) 1 0) 0 = cond-false (p x) 1 0 fail in
          let sum = count_by-cons p x xs in
          let rest : 0 < count_by p xs = omega arith in
          ap (λ b. b || list_any p xs) fail ∙ counted-any p xs rest
    ]

-- Where none is left of those that pass, none passes.
pub filter_nothing : {X : Type 0} (p : X → Bool) (xs : List X) → filter p xs ≡ [] → list_any p xs ≡ false
filter_nothing p [] none = refl
filter_nothing {X} p (x ∷ xs) none =
    elim (cases_Bool (p x)) [
      | inl pass ↦ let some : filter p (x ∷ xs) ≡ x ∷ filter p xs = cond-true (p x) (x ∷ filter p xs) (filter p xs) pass in absurd (cc)
      | inr fail ↦
          ap (λ b. b || list_any p xs) fail ∙ filter_nothing p xs (sym (cond-false (p x) (x ∷ filter p xs) (filter p xs) fail) ∙ none)
    ]

-- An element that is there is that at any default.
pub some_at : {X : Type 0} (xs : List (Option X)) (i : ℕ) (o : Option X) → i < length xs → is_some (get_or xs i o) ≡ true → (x : X) × (get_or xs i None ≡ Some x)
some_at {X} xs i o within some = at (get_or xs i o) some (get_or_default xs i None o within) where
  at : (v : Option X) → is_some v ≡ true → get_or xs i None ≡ v → (x : X) × (get_or xs i None ≡ Some x)
  at None e is = absurd (false≢true e)
  at (Some x) e is = (x, is)

-- What passes and is no default stands at a place of the list, and is found there.
pub found_within : {X : Type 0} (p : X → Bool) (xs : List X) (i : ℕ) (d : X) → p d ≡ false → p (get_or xs i d) ≡ true → list_any p xs ≡ true
found_within p xs i d not_default e =
    elim (cases_lt i (length xs)) [
      | inl within ↦ list_any_at p xs i d within e
      | inr past ↦ absurd (false≢true (sym not_default ∙ sym (ap p (get_or_past xs i d past)) ∙ e))
    ]

-- What is there is not missing.
pub there_not_none : {X : Type 0} (o : Option X) → is_some o ≡ true → is_none o ≡ false
there_not_none None e = absurd (false≢true e)
there_not_none (Some x) e = refl

pub not_there_none : {X : Type 0} (o : Option X) → is_some o ≡ false → is_none o ≡ true
not_there_none None e = refl
not_there_none (Some x) e = absurd (false≢true (sym e))
