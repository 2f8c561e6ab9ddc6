use Rattle.std.proofs.Common.{◌≡◌, ℕ, ◌+◌, Bool, true, false, cond, ◌||◌, List, [], ◌∷◌, ◌++◌, refl, sym, ap, ◌∙◌, inl, inr, arith}
use Rattle.std.specs.Prelude.{filter, map, if◌then◌else◌}
use Rattle.std.specs.List.{list_any, count_by}
use Rattle.std.proofs.lemmas.Bool.{cases_Bool, or_right, cond-true, cond-false}
use Rattle.std.proofs.lemmas.List.Sums.{sum_by-cons, sum_by_push}

-- Tests and counts of lists that are mapped, filtered or one longer.

-- A count goes element by element, from either end.
pub count-cons : {X : Type 0} (p : X → Bool) (x : X) (xs : List X) → count_by p (x ∷ xs) ≡ cond (p x) 1 0 + count_by p xs
count-cons p x xs = sum_by-cons (λ y. cond (p y) 1 0) x xs

pub count-push : {X : Type 0} (p : X → Bool) (xs : List X) (x : X) → count_by p (xs ++ x ∷ []) ≡ count_by p xs + cond (p x) 1 0
count-push p xs x = sum_by_push (λ y. cond (p y) 1 0) xs x

-- Some element of a mapped list passes where some element passes once it is mapped.
pub any-map : {X Y : Type 0} (f : X → Y) (q : Y → Bool) (xs : List X) → list_any q (map f xs) ≡ list_any (λ x. q (f x)) xs
any-map f q [] = refl
any-map f q (x ∷ xs) = ap (λ b. q (f x) || b) (any-map f q xs)

-- As many pass after a change that the test doesn't see.
pub count-map : {X : Type 0} (f : X → X) (p : X → Bool) (xs : List X) → ((x : X) → p (f x) ≡ p x) → count_by p (map f xs) ≡ count_by p xs
count-map f p [] same = refl
count-map f p (x ∷ xs) same =
    count-cons p (f x) (map f xs)
    ∙ ap (λ (b : Bool). cond b 1 0 + count_by p (map f xs)) (same x)
    ∙ ap (λ n. cond (p x) 1 0 + n) (count-map f p xs same)
    ∙ sym (count-cons p x xs)

-- What passes among those kept passes among all.
pub any-filter : {X : Type 0} (keep p : X → Bool) (xs : List X) → list_any p (filter keep xs) ≡ true → list_any p xs ≡ true
any-filter keep p [] any = any
any-filter {X} keep p (x ∷ xs) any =
    elim (cases_Bool (keep x)) [
      | inl kept ↦ among (p x) (list_any p (filter keep xs)) (list_any p xs) (any-filter keep p xs)
          (ap (list_any p) (sym (cond-true (keep x) (x ∷ filter keep xs) (filter keep xs) kept)) ∙ any)
      | inr left_out ↦ or_right (p x) (list_any p xs)
          (any-filter keep p xs (ap (list_any p) (sym (cond-false (keep x) (x ∷ filter keep xs) (filter keep xs) left_out)) ∙ any))
    ] where
      among : (a b c : Bool) → (b ≡ true → c ≡ true) → (a || b) ≡ true → (a || c) ≡ true
      among true b c weaker e = refl
      among false b c weaker e = weaker e

-- How many of those kept pass, where the test answers alike for each of them.
pub count-filter :
    {X : Type 0} (keep p : X → Bool) (b : Bool) (xs : List X) → ((x : X) → keep x ≡ true → p x ≡ b)
    → count_by p (filter keep xs) ≡ (if b then count_by keep xs else 0)
count-filter keep p true [] alike = refl
count-filter keep p false [] alike = refl
count-filter {X} keep p b (x ∷ xs) alike =
    elim (cases_Bool (keep x)) [
      | inl kept ↦
          ap (count_by p) (cond-true (keep x) (x ∷ filter keep xs) (filter keep xs) kept)
          ∙ count-cons p x (filter keep xs)
          ∙ ap (λ (a : Bool). cond a 1 0 + count_by p (filter keep xs)) (alike x kept)
          ∙ ap (λ n. cond b 1 0 + n) (count-filter keep p b xs alike)
          ∙ one_more b (count_by keep xs)
          ∙ ap (λ n. if b then n else 0) (sym (count-cons keep x xs ∙ ap (λ (a : Bool). cond a 1 0 + count_by keep xs) kept))
      | inr left_out ↦
          ap (count_by p) (cond-false (keep x) (x ∷ filter keep xs) (filter keep xs) left_out)
          ∙ count-filter keep p b xs alike
          ∙ ap (λ n. if b then n else 0) (sym (count-cons keep x xs ∙ ap (λ (a : Bool). cond a 1 0 + count_by keep xs) left_out ∙ none_more (count_by keep xs)))
    ] where
      one_more : (a : Bool) (n : ℕ) → cond a 1 0 + (if a then n else 0) ≡ (if a then 1 + n else 0)
      one_more true n = refl
      one_more false n = refl

      none_more : (n : ℕ) → 0 + n ≡ n
      none_more n = omega arith
