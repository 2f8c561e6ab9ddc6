use Rattle.std.proofs.Common.{◌≡◌, ◌≤◌, List, [], length}
use Rattle.local_locks.specs.declared.ends.End.TheVariants.{Inner}
use Rattle.local_locks.specs.Owned.{level_of, found_by, ended_by, left_by}
use Rattle.lock_world.specs.Account.{Account}
use Rattle.fast_path.specs.declared.use_counts.UseCounts.{UseCounts}
use Rattle.lock_manager.specs.Rest.{IsAtRest}
use Rattle.shared_rule.specs.Quiet.{Quiet}
use Rattle.lock_manager.specs.Releases.{ReleasesAll}
use Rattle.lock_manager.specs.Quiet.{QuietOfReleases}
use Rattle.lock_manager.specs.Sessions.{KeepsOwn}
use Rattle.lock_manager.proofs.releases.end_all.Given as goal

abbrev pub invariant-entries : goal.invariant-entries
invariant-entries g l = record {
  rest : IsAtRest (g.B.Board.seat l.fn.board).groups (g.B.Board.seat l.fn.board).limit l.fn.own.database l.own.uses (g.B.Board.view l.board) (g.B.Board.stack l.board)
      (found_by l.end l.own.locals);
  steps : (last : Account) (left : UseCounts) → ReleasesAll (g.B.Board.seat l.fn.board).groups (g.B.Board.seat l.fn.board).number (g.B.Board.view l.board) l.own.uses
      (ended_by l.end (found_by l.end l.own.locals)) last left
      → ReleasesAll (g.B.Board.seat l.fn.board).groups (g.B.Board.seat l.fn.board).number (g.B.Board.view l.fn.board) l.fn.own.uses
      (ended_by l.end (found_by l.end l.fn.own.locals)) last left;
  quiet : (last : Account) (left : UseCounts) (after : List Quiet)
      → QuietOfReleases (g.B.Board.seat l.fn.board).groups (g.B.Board.seat l.fn.board).number (g.B.Board.view l.board) l.own.uses
      (ended_by l.end (found_by l.end l.own.locals)) last left (g.B.Board.quiet l.board) after
      → QuietOfReleases (g.B.Board.seat l.fn.board).groups (g.B.Board.seat l.fn.board).number (g.B.Board.view l.fn.board) l.fn.own.uses
      (ended_by l.end (found_by l.end l.fn.own.locals)) last left (g.B.Board.quiet l.fn.board) after;
  none_ended : ended_by l.end (found_by l.end l.fn.own.locals) ≡ []
      → (ended_by l.end (found_by l.end l.own.locals) ≡ []) × (l.board ≡ l.fn.board);
  entries : left_by l.end (found_by l.end l.own.locals) ≡ left_by l.end (found_by l.end l.fn.own.locals);
  level : level_of l.own.locals ≡ level_of l.fn.own.locals;
  outer : l.end ≡ Inner → l.own.locals.outer ≡ l.fn.own.locals.outer;
  room : l.fn.own.locals.room ≤ l.own.locals.room;
  slots : l.own.locals.slots ≡ l.fn.own.locals.slots;
  kept : KeepsOwn (g.B.Board.seat l.fn.board) l.fn.own (g.B.Board.seat l.board) l.own;
}

abbrev pub decreases-entries : goal.decreases-entries
decreases-entries g l = length (ended_by l.end (found_by l.end l.own.locals))
