use Rattle.std.proofs.Common.{arith}
use Rattle.lock_script.proofs.Lemmas.Sessions.{All-first, All-rest, length-rest}
use Rattle.scenario.specs.Numbers.{IsKnown}
use Rattle.scenario.proofs.Lemmas.Numbers.{kept-known}
use Rattle.scenario.proofs.sessions.ScriptState.close_all.Goals as goal

pub close-requires : goal.close-requires
close-requires g c =
    let known = kept-known _ _ _ _ (c.sessions.self.seats c.in-Some.first.session)
    (All-first c.sessions.self.sessions.resting c.take_first.new.self c.in-Some.first c.in-Some.ensures.first
    (λ one. IsKnown (g.B.Board.seat one.session.board) g.D.ScriptDesk.manager (g.D.ScriptDesk.issued c.sessions.self.desk)) c.sessions.self.resting) in
    let left = length-rest c.sessions.self.sessions.resting c.take_first.new.self c.in-Some.first c.in-Some.ensures.first in
    record { known = known; some = omega (arith, left, c.sessions.self.counted) }

pub invariant_of-self-clause-counted : goal.invariant_of-self-clause-counted
invariant_of-self-clause-counted g c =
    let left = length-rest c.sessions.self.sessions.resting c.take_first.new.self c.in-Some.first c.in-Some.ensures.first in
    omega (arith, left, c.close.ensures.live, c.sessions.self.counted)

pub invariant_of-self-clause-resting : goal.invariant_of-self-clause-resting
invariant_of-self-clause-resting g c =
    rw c.close.ensures.issued
    (All-rest c.sessions.self.sessions.resting c.take_first.new.self c.in-Some.first c.in-Some.ensures.first
    (λ one. IsKnown (g.B.Board.seat one.session.board) g.D.ScriptDesk.manager (g.D.ScriptDesk.issued c.sessions.self.desk)) c.sessions.self.resting)

pub invariant_of-self-clause-waiting : goal.invariant_of-self-clause-waiting
invariant_of-self-clause-waiting g c = rw c.close.ensures.issued c.sessions.self.waiting
