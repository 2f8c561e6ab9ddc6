use Rattle.std.proofs.Common.{◌≡◌, ◌++◌, OnOk}
use Rattle.shared_rule.specs.History.{slots_here}
use Rattle.fast_path.specs.Slots.{account_loading}
use Rattle.fast_path.specs.Rows.{rows_of_slot, rows_below, BeginsWith}
use Rattle.fast_path.proofs.listing.append_slots.Given as goal

abbrev pub invariant-loop-slot : goal.invariant-loop-slot
invariant-loop-slot g l = record {
  loaded : g.B.Board.view l.board
      ≡ account_loading (g.B.Board.view l.fn.board) l.owner (λ slot. slot)
      (slots_here ((g.B.Board.view l.fn.board).fast.shared_slots l.owner)).word l.slot;
  listed : OnOk l.listed (l.rows.items ≡ l.fn.rows.items ++ rows_below l.slot (λ slot.
      rows_of_slot l.owner l.database slot ((slots_here ((g.B.Board.view l.fn.board).fast.shared_slots l.owner)).word slot)));
  behind : BeginsWith l.fn.rows.items l.rows.items;
  seat : g.B.Board.seat l.board ≡ g.B.Board.seat l.fn.board;
  stack : g.B.Board.stack l.board ≡ g.B.Board.stack l.fn.board;
  quiet : g.B.Board.quiet l.board ≡ g.B.Board.quiet l.fn.board;
}
