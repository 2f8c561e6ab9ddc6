use Rattle.std.proofs.Common.{◌≡◌, take, drop}
use Rattle.shared_rule.specs.History.{sessions_told}
use Rattle.shared_rule.proofs.Lemmas.Stacks.{with_owed}
use Rattle.lock_manager.proofs.Lemmas.Releases.Marks.{IsTelling}
use Rattle.lock_manager.proofs.releases.put_with_woken.Given as goal

abbrev pub invariant-loop-other : goal.invariant-loop-other
invariant-loop-other g l = record {
  telling : IsTelling (g.B.Board.seat l.fn.board) (g.B.Board.view l.fn.board) l.part l.done (g.T.PartTable.woken l.fn.content) (g.T.PartTable.content l.fn.content)
      (drop l.other-index l.woken) (g.B.Board.view l.board);
  seat : g.B.Board.seat l.board ≡ g.B.Board.seat l.fn.board;
  quiet : g.B.Board.quiet l.board ≡ g.B.Board.quiet l.fn.board;
  stack : g.B.Board.stack l.board ≡ with_owed (g.B.Board.stack l.fn.board) (sessions_told (take l.other-index l.woken));
}

abbrev pub invariant-loop-session : goal.invariant-loop-session
invariant-loop-session g l = record {
  view : g.B.Board.view l.board ≡ g.B.Board.view l.initial.board;
  seat : g.B.Board.seat l.board ≡ g.B.Board.seat l.initial.board;
  quiet : g.B.Board.quiet l.board ≡ g.B.Board.quiet l.initial.board;
  stack : g.B.Board.stack l.board ≡ with_owed (g.B.Board.stack l.fn.board) (sessions_told (drop l.session-index l.woken));
}
