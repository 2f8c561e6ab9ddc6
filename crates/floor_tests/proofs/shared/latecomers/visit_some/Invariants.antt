use Rattle.floor_tests.specs.Rests.{RestsAgain}
use Rattle.floor_tests.proofs.shared.latecomers.visit_some.Given as goal

abbrev pub invariant-rounds : goal.invariant-rounds
invariant-rounds g l = RestsAgain g.B.Board.view g.B.Board.stack g.B.Board.seat l.fn.board l.board
