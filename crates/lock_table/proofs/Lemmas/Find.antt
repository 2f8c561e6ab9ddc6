use Rattle.std.proofs.Common.{◌≡◌, ℕ, ◌+◌, ◌≤◌, Bool, true, false, ◌||◌, ◌&&◌, List, [], ◌∷◌, ◌++◌, length, take, drop, Option, Some, None, refl, sym, ap, ◌∙◌, arith, zero, suc, cond}
use Rattle.std.specs.Prelude.{slice_get, find, is_some, option_map}
use Rattle.std.specs.List.{list_any}
use Rattle.std.proofs.lemmas.Bool.{or_parts}
use Rattle.std.proofs.lemmas.List.Folds.{list_any-append}
use Rattle.std.proofs.lemmas.Bool.Decides.{nat_tests}

pub or-false : (b : Bool) → (b || false) ≡ b
or-false true = refl
or-false false = refl

pub or-comm : (a b : Bool) → (a || b) ≡ (b || a)
or-comm true b = sym (true-right b) where
  true-right : (b : Bool) → (b || true) ≡ true
  true-right true = refl
  true-right false = refl
or-comm false b = sym (or-false b)

-- The first elements up to a place, with the one there.
pub take-at : {X : Type 0} (xs : List X) (i : ℕ) (x : X) → slice_get xs i ≡ Some x → take (i + 1) xs ≡ take i xs ++ x ∷ []
take-at {X} xs i x at = let on : i + 1 ≡ suc i = omega arith in ap (λ n. take n xs) on ∙ after xs i at where
  after : (xs : List X) (i : ℕ) → slice_get xs i ≡ Some x → take (suc i) xs ≡ take i xs ++ x ∷ []
  after [] i at = absurd (cc)
  after (y ∷ xs) zero at = let same : y ≡ x = cc in ap (λ z. z ∷ []) same
  after (y ∷ xs) (suc i) at = ap (λ l. y ∷ l) (after xs i at)

-- A list, parted at the element at a place.
pub split-at : {X : Type 0} (xs : List X) (i : ℕ) (x : X) → slice_get xs i ≡ Some x → xs ≡ take i xs ++ x ∷ drop (suc i) xs
split-at [] i x at = absurd (cc)
split-at (y ∷ xs) zero x at = let same : y ≡ x = cc in ap (λ z. z ∷ xs) same
split-at (y ∷ xs) (suc i) x at = ap (λ l. y ∷ l) (split-at xs i x at)

-- Where nothing stands at a place, the list ends before it.
pub all-before : {X : Type 0} (xs : List X) (i : ℕ) → slice_get xs i ≡ None → length xs ≤ i
all-before [] i none = omega arith
all-before (y ∷ xs) zero none = absurd (cc)
all-before (y ∷ xs) (suc i) none = let rest = all-before xs i none in omega arith

-- An element that passes no test goes behind others that pass none.
pub none-at : {X : Type 0} (p : X → Bool) (xs : List X) (x : X) → list_any p xs ≡ false → p x ≡ false → list_any p (xs ++ x ∷ []) ≡ false
none-at p xs x none fails = list_any-append p xs (x ∷ []) ∙ ap (λ b. b || (p x || false)) none ∙ or-false (p x) ∙ fails

-- A search finds the first element that passes, and nothing where none does.
pub find-at : {X : Type 0} (p : X → Bool) (xs : List X) (i : ℕ) (x : X) → list_any p (take i xs) ≡ false → slice_get xs i ≡ Some x → p x ≡ true → find p xs ≡ Some x
find-at p [] i x none at passes = absurd (cc)
find-at p (y ∷ xs) zero x none at passes = let same : y ≡ x = cc in ap (λ b. cond b (Some y) (find p xs)) (ap p same ∙ passes) ∙ at
find-at p (y ∷ xs) (suc i) x none at passes =
    let parts = or_parts (p y) (list_any p (take i xs)) none in
    ap (λ b. cond b (Some y) (find p xs)) parts.0 ∙ find-at p xs i x parts.1 at passes

pub find-none : {X : Type 0} (p : X → Bool) (xs : List X) → list_any p xs ≡ false → find p xs ≡ None
find-none p [] none = refl
find-none p (y ∷ xs) none =
    let parts = or_parts (p y) (list_any p xs) none in
    ap (λ b. cond b (Some y) (find p xs)) parts.0 ∙ find-none p xs parts.1

-- A value is there where one that it maps to is.
pub is_some-option_map : {A B : Type 0} (f : A → B) (o : Option A) → is_some (option_map f o) ≡ is_some o
is_some-option_map f None = refl
is_some-option_map f (Some x) = refl

-- Some element passes exactly where a search finds one.
pub is_some-find : {X : Type 0} (p : X → Bool) (xs : List X) → is_some (find p xs) ≡ list_any p xs
is_some-find p [] = refl
is_some-find p (x ∷ xs) = at (p x) (is_some-find p xs) where
  at : (b : Bool) → is_some (find p xs) ≡ list_any p xs → is_some (cond b (Some x) (find p xs)) ≡ (b || list_any p xs)
  at true rest = refl
  at false rest = rest

-- Tests that agree on each element.
pub same_any : {X : Type 0} (p q : X → Bool) (xs : List X) → ((x : X) → p x ≡ q x) → list_any p xs ≡ list_any q xs
same_any p q [] same = refl
same_any p q (x ∷ xs) same = ap (λ b. b || list_any p xs) (same x) ∙ ap (λ b. q x || b) (same_any p q xs same)

-- A test that passes where one of two does, together with another test.
pub either_of : {X : Type 0} (p q test : X → Bool) (xs : List X) →
    list_any (λ x. (p x || q x) && test x) xs ≡ (list_any (λ x. p x && test x) xs || list_any (λ x. q x && test x) xs)
either_of p q test [] = refl
either_of p q test (x ∷ xs) = ap (λ b. ((p x || q x) && test x) || b) (either_of p q test xs) ∙ parts (p x) (q x) (test x) _ _ where
  parts : (a b c d e : Bool) → (((a || b) && c) || (d || e)) ≡ (((a && c) || d) || ((b && c) || e))
  parts a b c d e = grind (arith, nat_tests)
