use Rattle.shared_rule.specs.Plays.{side_of}
use Rattle.std.proofs.Common.{◌≡◌, refl, sym, subst}
use Rattle.shared_rule.specs.Boards.{parts_in_hand, shelves_out}
use Rattle.shared_rule.proofs.Lemmas.Stacks.{rest-out}
use Rattle.shared_rule.proofs.Lemmas.AtRest.{rests-lists, led-rests}
use Rattle.shared_rule.proofs.one_thread.OneThreadBoard.put_part.Goals as goal

pub put_part-requires-clause-idle : goal.put_part-requires-clause-idle
put_part-requires-clause-idle g c = rests-lists g.T.PartTable.content c.args.self.now.rests

pub invariant_of-self-clause-rests : goal.invariant_of-self-clause-rests
invariant_of-self-clause-rests g c =
    let rests = c.args.self.now.rests in
    led-rests c.put_part.ensures.led refl rests.idle.free
    (subst (λ shelves. shelves ≡ shelves_out (parts_in_hand shelves)) (sym c.put_part.ensures.shelves) (rest-out (side_of c.args.self.now.seat).1 rests.out)) rests
