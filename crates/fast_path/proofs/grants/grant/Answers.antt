use Rattle.std.proofs.Common.{◌∙◌, ◌∷◌, ap, sym, subst}
use Rattle.shared_rule.specs.Boards.{Seated}
use Rattle.shared_rule.specs.Quiet.{TakesSlots}
use Rattle.fast_path.specs.Grants.{HasOwnSlots}
use Rattle.fast_path.proofs.Lemmas.GrantSlots.{has_own_slots}
use Rattle.fast_path.proofs.grants.grant.Goals as goal

pub grant_with_slots-requires-clause-in_hand : goal.grant_with_slots-requires-clause-in_hand
grant_with_slots-requires-clause-in_hand g c =
    subst (λ (s : Seated). HasOwnSlots s.groups s.number (g.B.Board.view c.take_fast.new.self) c.args.uses.now)
    (sym c.take_fast.ensures.seat)
    (has_own_slots (g.B.Board.seat c.args.board.now).groups (g.B.Board.seat c.args.board.now).number (g.B.Board.view c.args.board.now)
    (g.B.Board.view c.take_fast.new.self) c.args.uses.now c.number-own.result
    c.number-own.ensures.value c.requires.ready c.take_fast.ensures.taken)

pub returns-clause-quiet : goal.returns-clause-quiet
returns-clause-quiet g c =
    let before = g.B.Board.quiet c.args.board.now in
    c.grant_with_slots.ensures.quiet (g.B.Board.seat c.args.board.now).number before
    (c.take_fast.ensures.quiet ∙ ap (λ owner. TakesSlots owner ∷ before) c.number-own.ensures.value)
