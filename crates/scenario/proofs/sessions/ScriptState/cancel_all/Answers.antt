use Rattle.std.proofs.Common.{arith}
use Rattle.lock_script.proofs.Lemmas.Sessions.{All-first, All-rest, length-rest, All-put, length-put}
use Rattle.scenario.specs.Numbers.{IsKnown}
use Rattle.scenario.proofs.Lemmas.Numbers.{kept-known}
use Rattle.scenario.proofs.sessions.ScriptState.cancel_all.Goals as goal

pub invariant_of-self-clause-counted : goal.invariant_of-self-clause-counted
invariant_of-self-clause-counted g c =
    let left = length-rest c.waits.self.sessions.waiting c.take_first.new.self c.in-Some.first c.in-Some.ensures.first in
    let more = length-put c.waits.self.sessions.resting c.put.new.self (record { name = c.in-Some.first.name; session = c.cancel-session.result.0 }) c.put.ensures in
    omega (arith, left, more, c.waits.self.counted)

pub invariant_of-self-clause-resting : goal.invariant_of-self-clause-resting
invariant_of-self-clause-resting g c =
    All-put c.waits.self.sessions.resting c.put.new.self (record { name = c.in-Some.first.name; session = c.cancel-session.result.0 }) c.put.ensures (λ one. IsKnown (g.B.Board.seat one.session.board) g.D.ScriptDesk.manager (g.D.ScriptDesk.issued c.waits.self.desk)) c.waits.self.resting
    (kept-known _ _ _ _ c.cancel-session.ensures.same.seat_
    (All-first c.waits.self.sessions.waiting c.take_first.new.self c.in-Some.first c.in-Some.ensures.first (λ one. IsKnown (g.B.Board.seat one.session.board) g.D.ScriptDesk.manager (g.D.ScriptDesk.issued c.waits.self.desk)) c.waits.self.waiting))

pub invariant_of-self-clause-waiting : goal.invariant_of-self-clause-waiting
invariant_of-self-clause-waiting g c =
    All-rest c.waits.self.sessions.waiting c.take_first.new.self c.in-Some.first c.in-Some.ensures.first (λ one. IsKnown (g.B.Board.seat one.session.board) g.D.ScriptDesk.manager (g.D.ScriptDesk.issued c.waits.self.desk)) c.waits.self.waiting
