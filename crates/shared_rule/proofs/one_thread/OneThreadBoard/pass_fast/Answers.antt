use Rattle.std.proofs.Common.{refl}
use Rattle.shared_rule.proofs.Lemmas.AtRest.{rests-lists, released-rests}
use Rattle.shared_rule.proofs.one_thread.OneThreadBoard.pass_fast.Goals as goal

pub pass_fast-requires-clause-idle : goal.pass_fast-requires-clause-idle
pass_fast-requires-clause-idle g c = rests-lists g.T.PartTable.content c.args.self.now.rests

pub invariant_of-self-clause-rests : goal.invariant_of-self-clause-rests
invariant_of-self-clause-rests g c = released-rests c.pass_fast.ensures.led refl c.pass_fast.ensures.shelves c.args.self.now.rests
