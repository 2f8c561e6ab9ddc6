use Rattle.std.proofs.Common.{refl}
use Rattle.shared_rule.proofs.Lemmas.AtRest.{rests-lists, released-rests}
use Rattle.shared_rule.proofs.seat_board.SeatBoardBoard.put_fast.Goals as goal

pub put_fast-requires-clause-idle : goal.put_fast-requires-clause-idle
put_fast-requires-clause-idle g c = rests-lists g.T.PartTable.content c.args.self.now.rests

pub invariant_of-self-clause-rests : goal.invariant_of-self-clause-rests
invariant_of-self-clause-rests g c = released-rests c.put_fast.ensures.led refl c.put_fast.ensures.shelves c.args.self.now.rests
