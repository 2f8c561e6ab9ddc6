use Rattle.std.proofs.Common.{◌≡◌, ◌⊎◌, ℕ, zero, suc, ◌<◌, List, [], ◌∷◌, ◌++◌, length, refl, sym, ap, ◌∙◌, inl, inr, arith}
use mathlib.Core.Option.{some, some-injective, some-ne-none}
use lib.ListN.{get_elem?}

-- What stands at a place of a list.

-- a place where something stands is within the list
pub there-within : {A : Type 0} (xs : List A) (i : ℕ) (a : A) → get_elem? xs i ≡ some a → i < length xs
there-within [] i a at = absurd (some-ne-none a (sym at))
there-within (x ∷ xs) zero a at = omega arith
there-within (x ∷ xs) (suc i) a at = let less = there-within xs i a at in omega (arith, less)

-- one thing stands at a place
pub there-one : {A : Type 0} (xs : List A) (i : ℕ) (a b : A) → get_elem? xs i ≡ some a → get_elem? xs i ≡ some b → a ≡ b
there-one xs i a b at its = some-injective a b (sym at ∙ its)

-- What stands in a list with one more behind.
pub there-snoc : {A : Type 0} (xs : List A) (a b : A) (j : ℕ) → get_elem? (xs ++ a ∷ []) j ≡ some b → (get_elem? xs j ≡ some b) ⊎ ((j ≡ length xs) × (a ≡ b))
there-snoc [] a b zero e = inr (refl, some-injective a b e)
there-snoc [] a b (suc j) e = absurd (some-ne-none b (sym e))
there-snoc (x ∷ xs) a b zero e = inl e
there-snoc (x ∷ xs) a b (suc j) e =
    elim (there-snoc xs a b j e) [
      | inl there ↦ inl there
      | inr last ↦ inr (ap suc last.0, last.1)
    ]
