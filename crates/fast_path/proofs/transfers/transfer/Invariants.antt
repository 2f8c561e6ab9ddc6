use Rattle.std.proofs.Common.{◌≡◌, ◌∷◌}
use Rattle.shared_rule.specs.Quiet.{CountsStrong}
use Rattle.fast_path.specs.Transfers.{Transfers}
use Rattle.fast_path.specs.Quiet.{quiet_turns}
use Rattle.fast_path.proofs.transfers.transfer.Given as goal

abbrev pub invariant-loop-number : goal.invariant-loop-number
invariant-loop-number g l = record {
  transfers : Transfers (g.B.Board.seat l.fn.board).groups l.number (g.B.Board.view l.fn.board) l.tag l.mode (g.B.Board.view l.board);
  end : l.number-end ≡ (g.B.Board.seat l.fn.board).limit;
  stack : g.B.Board.stack l.board ≡ g.B.Board.stack l.fn.board;
  quiet : g.B.Board.quiet l.board ≡ quiet_turns l.number (CountsStrong l.tag l.mode ∷ g.B.Board.quiet l.fn.board);
  seat : g.B.Board.seat l.board ≡ g.B.Board.seat l.fn.board;
}
