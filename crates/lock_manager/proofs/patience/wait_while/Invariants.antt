use Rattle.std.proofs.Common.{◌≡◌}
use Rattle.lock_manager.specs.Waiting.{IsWaiting}
use Rattle.lock_manager.proofs.Lemmas.Waiting.Patience.{IsWatchingWhile}
use Rattle.lock_manager.proofs.patience.wait_while.Given as goal

abbrev pub invariant-looks : goal.invariant-looks
invariant-looks g l = record {
  waiting : IsWaiting (g.B.Board.seat l.fn.board).groups (g.B.Board.seat l.fn.board).limit l.fn.own.database l.fn.own.uses (g.B.Board.view l.board) (g.B.Board.stack l.board)
      l.fn.own.locals.entries l.tag l.mode;
  watching : IsWatchingWhile (goal.K-step g) l.fn.keep_waiting (g.B.Board.seat l.fn.board).number (g.B.Board.view l.fn.board).trace (g.B.Board.view l.board).trace l.keep_waiting;
  own : l.own ≡ l.fn.own;
  quiet : g.B.Board.quiet l.board ≡ g.B.Board.quiet l.fn.board;
  seat : g.B.Board.seat l.board ≡ g.B.Board.seat l.fn.board;
  callable : goal.K-IsAlwaysCallable g l.keep_waiting;
}
