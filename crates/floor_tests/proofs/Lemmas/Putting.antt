use Rattle.std.proofs.Common.{◌≡◌, ℕ, sym, subst, inl}
use Rattle.lock_table.specs.declared.moves.Move.TheVariants.{Keep}
use Rattle.lock_table.specs.Content.{Content}
use Rattle.lock_world.specs.Account.{Account, InHand}
use Rattle.lock_world.specs.AccountSteps.{account_taking}
use Rattle.shared_rule.specs.Lawful.{MayPutPart}
use Rattle.shared_rule.proofs.Lemmas.Episodes.{fresh_hand, may_keep}

-- A partition that was just taken may be put as it was.
pub may_put : (limit number : ℕ) (a b : Account) (p : ℕ) (content : Content) → b ≡ account_taking a p content
    → (mine : InHand) × MayPutPart limit number b p mine Keep content
may_put limit number a b p content took = (
  fresh_hand content,
  subst (λ (k : Account). MayPutPart limit number k p (fresh_hand content) Keep content) (sym took)
      (inl (may_keep limit number a p content)),
)
