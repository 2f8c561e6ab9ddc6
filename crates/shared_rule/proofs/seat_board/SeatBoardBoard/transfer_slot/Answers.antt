use Rattle.std.proofs.Common.{ap, ◌∙◌}
use Rattle.shared_rule.specs.Marks.{TransferredSlot}
use Rattle.shared_rule.specs.History.{first_account}
use Rattle.shared_rule.specs.Plays.{side_of, Side}
use Rattle.shared_rule.proofs.Lemmas.Taken.{account-noted}
use Rattle.shared_rule.proofs.Lemmas.AtRest.{rests-session}
use Rattle.shared_rule.proofs.seat_board.SeatBoardBoard.transfer_slot.Goals as goal

pub returns-clause-view : goal.returns-clause-view
returns-clause-view g c =
    ap (λ (side : Side g.row.T.Denot). first_account g.T.PartTable.content side.0.sessions) c.transfer_slot.ensures.side
    ∙ account-noted g.T.PartTable.content (side_of c.args.self.now.seat).0 (TransferredSlot c.args.owner c.args.slot c.args.tag.now c.args.mode)
    (rests-session c.args.self.now.rests)
