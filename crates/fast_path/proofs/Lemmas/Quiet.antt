use Rattle.std.proofs.Common.{◌≡◌, ◌≢◌, ℕ, zero, suc, ◌+◌, List, ◌∷◌, refl, ap, ◌∙◌, arith}
use Rattle.shared_rule.specs.Quiet.{Quiet, TakesSlots, SharesSlots}
use Rattle.fast_path.specs.Quiet.{quiet_ungranting, quiet_turns, quiet_sharing}

-- Quiet steps, turn by turn.

-- A release takes the lock of its own slots once where by the use count one of them is in use.
pub quiet-some : (number count : ℕ) (before : List Quiet) → count ≢ 0 → quiet_ungranting number count before ≡ TakesSlots number ∷ before
quiet-some number zero before some = absurd (some refl)
quiet-some number (suc count) before some = refl

-- One turn more: `now` is what they are after it, `middle` before it.
module _ (its number : ℕ) (before middle now : List Quiet) (same : its ≡ number) where
  one-more : suc number ≡ number + 1
  one-more = omega arith

  pub turns-next : middle ≡ quiet_turns number before → now ≡ TakesSlots its ∷ middle → now ≡ quiet_turns (number + 1) before
  turns-next so_far next =
      next ∙ ap (λ (k : ℕ). TakesSlots k ∷ middle) same ∙ ap (λ steps. TakesSlots number ∷ steps) so_far
      ∙ ap (λ (k : ℕ). quiet_turns k before) one-more

  pub sharing-next : middle ≡ quiet_sharing number before → now ≡ SharesSlots its ∷ middle → now ≡ quiet_sharing (number + 1) before
  sharing-next so_far next =
      next ∙ ap (λ (k : ℕ). SharesSlots k ∷ middle) same ∙ ap (λ steps. SharesSlots number ∷ steps) so_far
      ∙ ap (λ (k : ℕ). quiet_sharing k before) one-more
