use Rattle.std.proofs.Common.{◌≡◌, Ok}
use Rattle.fast_path.specs.Rows.{ListsSlots}
use Rattle.fast_path.specs.Quiet.{quiet_sharing}
use Rattle.fast_path.proofs.listing.slot_rows.Given as goal

abbrev pub invariant-loop-number : goal.invariant-loop-number
invariant-loop-number g l = record {
  lists : ListsSlots (g.B.Board.seat l.fn.board).groups (g.B.Board.seat l.fn.board).number l.number (g.B.Board.view l.fn.board) l.fn.rows.items (Ok tt) l.rows.items (g.B.Board.view l.board);
  end : l.number-end ≡ (g.B.Board.seat l.fn.board).limit;
  stack : g.B.Board.stack l.board ≡ g.B.Board.stack l.fn.board;
  quiet : g.B.Board.quiet l.board ≡ quiet_sharing l.number (g.B.Board.quiet l.fn.board);
  seat : g.B.Board.seat l.board ≡ g.B.Board.seat l.fn.board;
}
