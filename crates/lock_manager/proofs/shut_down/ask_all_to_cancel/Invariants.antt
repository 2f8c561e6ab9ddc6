use Rattle.std.proofs.Common.{◌≡◌}
use Rattle.lock_manager.specs.ShutDown.{AsksAll}
use Rattle.lock_manager.proofs.shut_down.ask_all_to_cancel.Given as goal

abbrev pub invariant-loop-number : goal.invariant-loop-number
invariant-loop-number g l = record {
  asked : AsksAll l.number (g.B.Board.view l.fn.board) l.waited (g.B.Board.view l.board);
  quiet : g.B.Board.quiet l.board ≡ g.B.Board.quiet l.fn.board;
  stack : g.B.Board.stack l.board ≡ g.B.Board.stack l.fn.board;
  seat : g.B.Board.seat l.board ≡ g.B.Board.seat l.fn.board;
}
