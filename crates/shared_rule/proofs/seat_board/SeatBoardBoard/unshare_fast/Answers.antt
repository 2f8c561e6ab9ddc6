use Rattle.std.proofs.Common.{refl}
use Rattle.shared_rule.proofs.Lemmas.AtRest.{rests-lists, released-rests}
use Rattle.shared_rule.proofs.seat_board.SeatBoardBoard.unshare_fast.Goals as goal

pub unshare_fast-requires-clause-idle : goal.unshare_fast-requires-clause-idle
unshare_fast-requires-clause-idle g c = rests-lists g.T.PartTable.content c.args.self.now.rests

pub invariant_of-self-clause-rests : goal.invariant_of-self-clause-rests
invariant_of-self-clause-rests g c = released-rests c.unshare_fast.ensures.led refl c.unshare_fast.ensures.shelves c.args.self.now.rests
