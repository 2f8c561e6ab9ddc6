use Rattle.std.proofs.Common.{◌≡◌, ◌+◌, List, [], length}
use Rattle.lock_world.specs.Account.{Account}
use Rattle.fast_path.specs.declared.use_counts.UseCounts.{UseCounts}
use Rattle.shared_rule.specs.Quiet.{Quiet}
use Rattle.lock_manager.specs.Rest.{IsAtRest}
use Rattle.lock_manager.specs.Releases.{ReleasesAll}
use Rattle.lock_manager.specs.Quiet.{QuietOfReleases}
use Rattle.lock_manager.specs.Sessions.{KeepsOwn}
use Rattle.lock_manager.specs.Advisory.{unlocked_by_all, left_by_unlock_all}
use Rattle.lock_manager.proofs.Lemmas.Advisory.{session_counts}
use Rattle.lock_manager.proofs.unlock_all.unlock_all.Given as goal

abbrev pub invariant-locks : goal.invariant-locks
invariant-locks g l = record {
  rest : IsAtRest (g.B.Board.seat l.fn.board).groups (g.B.Board.seat l.fn.board).limit l.fn.own.database l.own.uses (g.B.Board.view l.board) (g.B.Board.stack l.board)
      l.own.locals.entries;
  steps : (last : Account) (left : UseCounts) → ReleasesAll (g.B.Board.seat l.fn.board).groups (g.B.Board.seat l.fn.board).number (g.B.Board.view l.board) l.own.uses
      (unlocked_by_all l.own.locals.entries) last left
      → ReleasesAll (g.B.Board.seat l.fn.board).groups (g.B.Board.seat l.fn.board).number (g.B.Board.view l.fn.board) l.fn.own.uses
      (unlocked_by_all l.fn.own.locals.entries) last left;
  quiet : (last : Account) (left : UseCounts) (after : List Quiet)
      → QuietOfReleases (g.B.Board.seat l.fn.board).groups (g.B.Board.seat l.fn.board).number (g.B.Board.view l.board) l.own.uses
      (unlocked_by_all l.own.locals.entries) last left (g.B.Board.quiet l.board) after
      → QuietOfReleases (g.B.Board.seat l.fn.board).groups (g.B.Board.seat l.fn.board).number (g.B.Board.view l.fn.board) l.fn.own.uses
      (unlocked_by_all l.fn.own.locals.entries) last left (g.B.Board.quiet l.fn.board) after;
  released : l.released + length (unlocked_by_all l.own.locals.entries) ≡ length (unlocked_by_all l.fn.own.locals.entries);
  none_unlocked : unlocked_by_all l.fn.own.locals.entries ≡ [] → (unlocked_by_all l.own.locals.entries ≡ []) × (l.board ≡ l.fn.board);
  entries : left_by_unlock_all l.own.locals.entries ≡ left_by_unlock_all l.fn.own.locals.entries;
  levels : l.own.locals.outer ≡ l.fn.own.locals.outer;
  kept : KeepsOwn (g.B.Board.seat l.fn.board) l.fn.own (g.B.Board.seat l.board) l.own;
}

abbrev pub decreases-locks : goal.decreases-locks
decreases-locks g l = session_counts l.own.locals.entries
