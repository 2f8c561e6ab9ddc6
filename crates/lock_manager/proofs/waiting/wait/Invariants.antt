use Rattle.std.proofs.Common.{◌≡◌}
use Rattle.lock_manager.specs.Waiting.{IsWaiting}
use Rattle.lock_manager.proofs.Lemmas.Waiting.Watch.{IsWatching}
use Rattle.lock_manager.proofs.waiting.wait.Given as goal

abbrev pub invariant-loop : goal.invariant-loop
invariant-loop g l = record {
  waiting : IsWaiting (g.B.Board.seat l.fn.board).groups (g.B.Board.seat l.fn.board).limit l.fn.own.database l.fn.own.uses (g.B.Board.view l.board) (g.B.Board.stack l.board)
      l.fn.own.locals.entries l.tag l.mode;
  watching : IsWatching (g.B.Board.seat l.fn.board).number (g.B.Board.view l.fn.board).trace (g.B.Board.view l.board).trace;
  own : l.own ≡ l.fn.own;
  quiet : g.B.Board.quiet l.board ≡ g.B.Board.quiet l.fn.board;
  seat : g.B.Board.seat l.board ≡ g.B.Board.seat l.fn.board;
}
