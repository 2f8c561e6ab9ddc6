use Rattle.std.proofs.Common.{◌≡◌, ℕ, ◌<◌, Bool, true, false, ◌||◌, zero, suc, refl, sym, ap, ◌∙◌, inl, inr, arith}
use Rattle.std.proofs.lemmas.Bool.{cases_eq, cases_Bool, false≢true, or_left, or_right}
use Rattle.lock_world.specs.SlotHolds.{any_below}

-- Whether some number below a limit passes.

-- One that passes is enough.
pub any_below-at : (limit : ℕ) (test : ℕ → Bool) (k : ℕ) → k < limit → test k ≡ true → any_below limit test ≡ true
unfolding any_below
any_below-at zero test k below passes = absurd (omega arith)
any_below-at (suc limit) test k below passes =
    elim (cases_eq k limit) [
      | inl same ↦ or_right (any_below limit test) (test limit) (ap test (sym same) ∙ passes)
      | inr other ↦ or_left (any_below limit test) (test limit) (any_below-at limit test k (omega (arith, other)) passes)
    ]

-- Where some number passes there is one.
pub any_below-found : (limit : ℕ) (test : ℕ → Bool) → any_below limit test ≡ true → (k : ℕ) × (k < limit) × (test k ≡ true)
unfolding any_below
any_below-found zero test any = absurd (false≢true any)
any_below-found (suc limit) test any =
    elim (cases_Bool (test limit)) [
      | inl passes ↦ (limit, omega arith, passes)
      | inr fails ↦ up (any_below-found limit test (before (any_below limit test) (test limit) fails any))
    ] where
      before : (a b : Bool) → b ≡ false → (a || b) ≡ true → a ≡ true
      before true b none some = refl
      before false b none some = absurd (false≢true (sym none ∙ some))

      up : ((k : ℕ) × (k < limit) × (test k ≡ true)) → (k : ℕ) × (k < suc limit) × (test k ≡ true)
      up found = (found.0, omega (arith, found.1), found.2)

-- Tests that answer alike below the limit.
pub any_below-same : (limit : ℕ) (f g : ℕ → Bool) → ((k : ℕ) → k < limit → f k ≡ g k) → any_below limit f ≡ any_below limit g
unfolding any_below
any_below-same zero f g same = refl
any_below-same (suc limit) f g same =
    ap (λ b. b || f limit) (any_below-same limit f g (λ k below. same k (omega arith)))
    ∙ ap (λ b. any_below limit g || b) (same limit (omega arith))
