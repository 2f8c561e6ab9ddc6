use Rattle.shared_rule.specs.Plays.{side_of}
use Rattle.std.proofs.Common.{◌≡◌, refl, sym, ap, subst}
use Rattle.shared_rule.specs.Boards.{parts_in_hand, shelves_out}
use Rattle.shared_rule.specs.Todos.{todo_attempted}
use Rattle.shared_rule.proofs.Lemmas.Stacks.{more-out}
use Rattle.shared_rule.proofs.Lemmas.AtRest.{rests-lists, led-rests}
use Rattle.shared_rule.proofs.seat_board.SeatBoardBoard.take_part.Goals as goal

pub take_part-requires-clause-idle : goal.take_part-requires-clause-idle
take_part-requires-clause-idle g c = rests-lists g.T.PartTable.content c.args.self.now.rests

pub invariant_of-self-clause-rests : goal.invariant_of-self-clause-rests
invariant_of-self-clause-rests g c =
    let rests = c.args.self.now.rests in
    led-rests c.take_part.ensures.led refl (ap todo_attempted rests.idle.free)
    (subst (λ shelves. shelves ≡ shelves_out (parts_in_hand shelves)) (sym c.take_part.ensures.shelves) (more-out c.args.part (side_of c.args.self.now.seat).1 rests.out)) rests
