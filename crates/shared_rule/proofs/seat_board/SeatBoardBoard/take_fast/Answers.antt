use Rattle.std.proofs.Common.{refl}
use Rattle.shared_rule.specs.Plays.{account_at}
use Rattle.shared_rule.proofs.Lemmas.Orders.{latest-slots}
use Rattle.shared_rule.proofs.Lemmas.AtRest.{rests-lists, acquired-rests}
use Rattle.shared_rule.proofs.seat_board.SeatBoardBoard.take_fast.Goals as goal

pub take_fast-requires-clause-idle : goal.take_fast-requires-clause-idle
take_fast-requires-clause-idle g c = rests-lists g.T.PartTable.content c.args.self.now.rests

pub invariant_of-self-clause-rests : goal.invariant_of-self-clause-rests
invariant_of-self-clause-rests g c = acquired-rests c.take_fast.ensures.led refl c.take_fast.ensures.shelves c.args.self.now.rests

pub take_fast-requires-clause-latest : goal.take_fast-requires-clause-latest
take_fast-requires-clause-latest g c =
    latest-slots (account_at g.T.PartTable.content c.args.self.now.seat) c.args.owner c.requires.no_content c.requires.no_slots c.requires.no_shared_slots
