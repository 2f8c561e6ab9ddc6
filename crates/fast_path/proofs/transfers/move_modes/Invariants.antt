use Rattle.std.proofs.Common.{◌≡◌, None}
use Rattle.fast_path.proofs.Lemmas.Moves.{IsMoving}
use Rattle.fast_path.proofs.transfers.move_modes.Given as goal

abbrev pub invariant-loop-number : goal.invariant-loop-number
invariant-loop-number g l = record {
  moving : IsMoving (g.B.Board.view l.fn.board) l.fn.turn.owner l.fn.turn.slot l.fn.turn.word l.fn.turn.tag.now
      (g.T.PartTable.content l.fn.content) l.number l.left (g.T.PartTable.content l.content)
      (g.B.Board.view l.board);
  begun : g.T.PartTable.begun l.content ≡ None;
  stack : g.B.Board.stack l.board ≡ g.B.Board.stack l.fn.board;
  quiet : g.B.Board.quiet l.board ≡ g.B.Board.quiet l.fn.board;
  seat : g.B.Board.seat l.board ≡ g.B.Board.seat l.fn.board;
}
