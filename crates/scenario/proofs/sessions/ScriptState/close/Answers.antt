use Rattle.std.proofs.Common.{arith}
use Rattle.lock_script.proofs.Lemmas.Sessions.{All-left, length-left, taken}
use Rattle.scenario.specs.Numbers.{IsKnown}
use Rattle.scenario.proofs.Lemmas.Numbers.{kept-known}
use Rattle.scenario.proofs.sessions.ScriptState.close.Goals as goal

pub close-requires : goal.close-requires
close-requires g c =
    let known = kept-known _ _ _ _ (c.args.self.now.seats c.take-session.result.session)
    (taken (λ one. IsKnown (g.B.Board.seat one.session.board) g.D.ScriptDesk.manager (g.D.ScriptDesk.issued c.args.self.now.desk)) c.args.self.now.sessions.resting c.args.caller.place
    c.take-session.result c.requires.place c.args.self.now.resting c.take-session.ensures.taken) in
    let left = length-left c.args.self.now.sessions.resting c.take-session.new.self c.args.caller.place c.requires.place c.take-session.ensures.left in
    record { known = known; some = omega (arith, left, c.args.self.now.counted) }

pub invariant_of-self-clause-counted : goal.invariant_of-self-clause-counted
invariant_of-self-clause-counted g c =
    let left = length-left c.args.self.now.sessions.resting c.take-session.new.self c.args.caller.place c.requires.place c.take-session.ensures.left in
    omega (arith, left, c.close.ensures.live, c.args.self.now.counted)

pub invariant_of-self-clause-resting : goal.invariant_of-self-clause-resting
invariant_of-self-clause-resting g c =
    rw c.close.ensures.issued
    (All-left c.args.self.now.sessions.resting c.take-session.new.self c.args.caller.place c.requires.place c.take-session.ensures.left
    (λ one. IsKnown (g.B.Board.seat one.session.board) g.D.ScriptDesk.manager (g.D.ScriptDesk.issued c.args.self.now.desk)) c.args.self.now.resting)

pub invariant_of-self-clause-waiting : goal.invariant_of-self-clause-waiting
invariant_of-self-clause-waiting g c = rw c.close.ensures.issued c.args.self.now.waiting
