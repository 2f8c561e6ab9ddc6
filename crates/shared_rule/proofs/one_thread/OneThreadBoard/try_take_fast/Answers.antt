use Rattle.shared_rule.specs.Plays.{account_at}
use Rattle.shared_rule.proofs.Lemmas.Idle.{tries-lists}
use Rattle.shared_rule.proofs.Lemmas.AtRest.{rests-lists, tried-rests}
use Rattle.shared_rule.proofs.one_thread.OneThreadBoard.try_take_fast.Goals as goal

pub try_take_fast-requires-clause-idle : goal.try_take_fast-requires-clause-idle
try_take_fast-requires-clause-idle g c = rests-lists g.T.PartTable.content c.args.self.now.rests

pub invariant_of-self-clause-rests : goal.invariant_of-self-clause-rests
invariant_of-self-clause-rests g c =
    let before = c.args.self.now.seat in
    let after = c.try_take_fast.new.seat in
    tried-rests g.T.PartTable.content before after
    (tries-lists _ _ (account_at g.T.PartTable.content before) c.try_take_fast.result (account_at g.T.PartTable.content after) c.try_take_fast.ensures.tried)
    c.try_take_fast.ensures.todo c.try_take_fast.ensures.lone c.try_take_fast.ensures.shelves c.args.self.now.rests
