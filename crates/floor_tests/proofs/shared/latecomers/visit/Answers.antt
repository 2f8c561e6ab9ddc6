use Rattle.floor_tests.proofs.Lemmas.Putting.{may_put}
use Rattle.floor_tests.proofs.shared.latecomers.visit.Goals as goal

pub put_part-requires-clause-lawful : goal.put_part-requires-clause-lawful
put_part-requires-clause-lawful g c =
    let seat = g.B.Board.seat c.take_part-content.new.self in
    may_put seat.limit seat.number (g.B.Board.view c.args.board.now) (g.B.Board.view c.take_part-content.new.self) 3
    (g.T.PartTable.content c.take_part-content.result) c.take_part-content.ensures.view
