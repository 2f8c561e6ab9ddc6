use Rattle.std.proofs.Common.{◌∙◌}
use Rattle.lock_table.proofs.Lemmas.MoveTests.{move_equals}
use Rattle.lock_table.proofs.moves.Move.is_same.Goals as goal

pub returns : goal.returns
returns c = c.eq.ensures ∙ move_equals c.args.self c.args.other
