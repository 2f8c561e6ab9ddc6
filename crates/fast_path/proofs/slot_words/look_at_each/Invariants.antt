use Rattle.std.proofs.Common.{◌≡◌, ◌≤◌}
use Rattle.lock_world.specs.SlotHolds.{place_in_group}
use Rattle.shared_rule.specs.History.{slots_here}
use Rattle.fast_path.specs.Slots.{account_loading}
use Rattle.fast_path.proofs.Lemmas.Sights.{SightsBelow}
use Rattle.fast_path.proofs.slot_words.look_at_each.Given as goal

abbrev pub invariant-loop-index : goal.invariant-loop-index
invariant-loop-index g l = record {
  loaded : g.B.Board.view l.board
      ≡ account_loading (g.B.Board.view l.fn.board) l.owner (place_in_group l.group)
      (slots_here ((g.B.Board.view l.fn.board).fast.slots l.owner)).word l.index;
  sights : SightsBelow l.group (slots_here ((g.B.Board.view l.fn.board).fast.slots l.owner)).word l.relation l.index
      l.of_relation l.used_count;
  few : l.used_count ≤ l.index;
  seat : g.B.Board.seat l.board ≡ g.B.Board.seat l.fn.board;
  stack : g.B.Board.stack l.board ≡ g.B.Board.stack l.fn.board;
  quiet : g.B.Board.quiet l.board ≡ g.B.Board.quiet l.fn.board;
}
