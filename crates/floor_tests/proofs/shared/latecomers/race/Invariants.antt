use Rattle.floor_tests.specs.Rests.{RestsAgain}
use Rattle.floor_tests.proofs.shared.latecomers.race.Given as goal

abbrev pub invariant-races : goal.invariant-races
invariant-races g l = record {
  first : RestsAgain g.B.Board.view g.B.Board.stack g.B.Board.seat l.fn.first l.first;
  second : RestsAgain g.B.Board.view g.B.Board.stack g.B.Board.seat l.fn.second l.second;
}
