use Rattle.std.proofs.Common.{subst}
use Rattle.lock_manager.specs.declared.sessions.Own.{Own}
use Rattle.lock_manager.specs.Patience.{LocksWhile}
use Rattle.lock_manager.proofs.sessions.OwnSession.acquire_while.Goals as goal

pub returns-clause-steps : goal.returns-clause-steps
returns-clause-steps g c =
    rw (← c.self.view_is)
    (subst (λ (own : Own). LocksWhile (goal.K-step g) c.args.keep_waiting (g.B.Board.seat c.self.inside.board) own.locals (g.B.Board.view c.self.inside.board) own.uses c.args.tag c.args.mode c.lock_while.result (g.B.Board.view c.lock_while.new.board) c.lock_while.new.own.uses)
    c.deref_mut.ensures.value c.lock_while.ensures.steps)
