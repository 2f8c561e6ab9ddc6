use Rattle.std.proofs.lemmas.List.Sorted.{IsPermutation-put_mid}
use Rattle.script_orders.proofs.merges.turn_round.Goals as goal

pub returns-clause-same : goal.returns-clause-same
returns-clause-same c = IsPermutation-put_mid _ _ _ _ c.reverse.ensures.permutation
