use Rattle.std.proofs.Common.{refl}
use Rattle.shared_rule.specs.Plays.{account_at}
use Rattle.shared_rule.proofs.Lemmas.Orders.{latest-slots}
use Rattle.shared_rule.proofs.Lemmas.AtRest.{rests-lists, acquired-rests}
use Rattle.shared_rule.proofs.seat_board.SeatBoardBoard.share_fast.Goals as goal

pub share_fast-requires-clause-idle : goal.share_fast-requires-clause-idle
share_fast-requires-clause-idle g c = rests-lists g.T.PartTable.content c.args.self.now.rests

pub invariant_of-self-clause-rests : goal.invariant_of-self-clause-rests
invariant_of-self-clause-rests g c = acquired-rests c.share_fast.ensures.led refl c.share_fast.ensures.shelves c.args.self.now.rests

pub share_fast-requires-clause-latest : goal.share_fast-requires-clause-latest
share_fast-requires-clause-latest g c =
    latest-slots (account_at g.T.PartTable.content c.args.self.now.seat) c.args.owner c.requires.no_content c.requires.no_slots c.requires.no_shared_slots
