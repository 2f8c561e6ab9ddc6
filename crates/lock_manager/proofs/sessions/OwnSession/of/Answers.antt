use Rattle.lock_manager.proofs.Lemmas.Rest.Acquires.{rest-new}
use Rattle.lock_manager.proofs.sessions.OwnSession.of.Goals as goal

pub invariant_of-result : goal.invariant_of-result
invariant_of-result g c = (
  rest-new (g.B.Board.seat c.args.board).groups (g.B.Board.seat c.args.board).limit c.args.own.value.database c.args.own.value.uses (g.B.Board.view c.args.board) (g.B.Board.stack c.args.board)
      c.args.own.value.locals.entries c.requires.blank c.requires.no_slot c.requires.stack c.requires.nothing,
  c.requires.limit,
  c.requires.max_local,
  c.requires.well_owned,
)
