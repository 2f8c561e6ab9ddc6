use Rattle.std.proofs.Common.{◌∙◌, subst}
use Rattle.local_locks.specs.declared.ends.End.TheVariants.{Close}
use Rattle.local_locks.specs.Owned.{ended_by}
use Rattle.lock_manager.specs.declared.sessions.Own.{Own}
use Rattle.lock_manager.specs.Releases.{ReleasesAll}
use Rattle.lock_manager.specs.Quiet.{QuietOfReleases}
use Rattle.lock_manager.proofs.Lemmas.Rest.Entries.{MayCloseBy-rest, left_by-close}
use Rattle.lock_manager.proofs.sessions.OwnSession.end.Goals as goal

pub returns-clause-closable : goal.returns-clause-closable
returns-clause-closable g c =
    MayCloseBy-rest _ _ _ _ _ _ _ c.end_all.ensures.rest (c.end_all.ensures.entries ∙ left_by-close c.deref_mut.result.now.locals.entries)

pub returns-clause-released : goal.returns-clause-released
returns-clause-released g c =
    let after = g.B.Board.view c.end_all.new.board in
    let left = c.end_all.new.own.uses in
    let own = subst
    (λ (own : Own). ReleasesAll (g.B.Board.seat c.self.inside.board).groups (g.B.Board.seat c.self.inside.board).number (g.B.Board.view c.self.inside.board) own.uses (ended_by Close own.locals.entries) after left)
    c.deref_mut.ensures.value c.end_all.ensures.steps in
    (left, subst (λ s. ReleasesAll (g.B.Board.seat s.board).groups (g.B.Board.seat s.board).number (g.B.Board.view s.board) s.uses (ended_by Close s.owned.entries) after left) c.self.view_is own)

pub returns-clause-quiet : goal.returns-clause-quiet
returns-clause-quiet g c =
    let board = c.end_all.new.board in
    let left = c.end_all.new.own.uses in
    let own = subst
    (λ (own : Own). QuietOfReleases (g.B.Board.seat c.self.inside.board).groups (g.B.Board.seat c.self.inside.board).number (g.B.Board.view c.self.inside.board) own.uses
    (ended_by Close own.locals.entries) (g.B.Board.view board) left (g.B.Board.quiet c.self.inside.board) (g.B.Board.quiet board))
    c.deref_mut.ensures.value c.end_all.ensures.quiet in (
      left,
      subst (λ s. QuietOfReleases (g.B.Board.seat s.board).groups (g.B.Board.seat s.board).number (g.B.Board.view s.board) s.uses
          (ended_by Close s.owned.entries) (g.B.Board.view board) left (g.B.Board.quiet s.board) (g.B.Board.quiet board)) c.self.view_is own,
    )
