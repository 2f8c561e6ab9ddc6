use Rattle.std.proofs.Common.{◌≡◌, ◌≤◌}
use Rattle.shared_rule.specs.History.{slots_here}
use Rattle.fast_path.specs.Slots.{slot_from_top, account_loading}
use Rattle.fast_path.proofs.Lemmas.SightsForGrant.{SeesFromTop}
use Rattle.fast_path.proofs.slot_words.look_from_top.Given as goal

abbrev pub invariant-loop-step : goal.invariant-loop-step
invariant-loop-step g l = record {
  loaded : g.B.Board.view l.board
      ≡ account_loading (g.B.Board.view l.fn.board) l.owner (slot_from_top l.group)
      (slots_here ((g.B.Board.view l.fn.board).fast.slots l.owner)).word l.step;
  sees : SeesFromTop l.group (slots_here ((g.B.Board.view l.fn.board).fast.slots l.owner)).word l.relation l.step
      l.highest_unused l.used_count;
  few : l.used_count ≤ l.step;
  seat : g.B.Board.seat l.board ≡ g.B.Board.seat l.fn.board;
  stack : g.B.Board.stack l.board ≡ g.B.Board.stack l.fn.board;
  quiet : g.B.Board.quiet l.board ≡ g.B.Board.quiet l.fn.board;
}
