use Rattle.std.proofs.Common.{ℕ, ◌+◌, List, arith}
use Rattle.lock_manager.specs.Keeper.{PartView}
use Rattle.shared_rule.specs.declared.history.History.{History}
use Rattle.shared_rule.specs.Openers.{HaveClosed}

-- Those that have closed, as more are given out.

-- Whoever has closed was given out before the next one is.
pub closed-before-next : (issued : ℕ) (closed : List (History PartView)) → HaveClosed issued closed → HaveClosed (issued + 1) closed
closed-before-next issued closed have = record {
  once = have.once;
  given_out = λ place history at. let given = have.given_out place history at in omega (arith, given);
  no_more = let few = have.no_more in omega (arith, few);
}
