use Rattle.shared_rule.proofs.Lemmas.Stacks.{taken-last}
use Rattle.floor_tests.proofs.Lemmas.Putting.{may_put}
use Rattle.floor_tests.proofs.shared.boards.keep_once.Goals as goal

pub put_part-requires-clause-in_hand : goal.put_part-requires-clause-in_hand
put_part-requires-clause-in_hand g c =
    taken-last (g.B.Board.stack c.args.board.now) (g.B.Board.stack c.take_part-content.new.self) c.args.part
    c.take_part-content.ensures.stack

pub put_part-requires-clause-lawful : goal.put_part-requires-clause-lawful
put_part-requires-clause-lawful g c =
    let seat = g.B.Board.seat c.take_part-content.new.self in
    may_put seat.limit seat.number (g.B.Board.view c.args.board.now) (g.B.Board.view c.take_part-content.new.self) c.args.part
    (g.T.PartTable.content c.take_part-content.result) c.take_part-content.ensures.view
