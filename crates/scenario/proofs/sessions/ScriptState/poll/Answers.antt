use Rattle.std.proofs.Common.{ℕ, ◌+◌, ◌∙◌, ap, arith, length, refl, subst, sym}
use Rattle.lock_script.proofs.Lemmas.Lending.{All-with_session, length-with_session, put_back-in_order, put_back-there}
use Rattle.lock_script.proofs.Lemmas.Sessions.{All-left, length-left, All-put, length-put, taken}
use Rattle.scenario.specs.Waits.{GoesOn, LooksOn}
use Rattle.scenario.specs.Numbers.{IsKnown}
use Rattle.scenario.proofs.Lemmas.Numbers.{kept-known}
use Rattle.scenario.proofs.Lemmas.Waits.{goes_on-seat}
use Rattle.scenario.proofs.sessions.ScriptState.poll.Goals as goal

pub invariant_of-self-clause-counted : goal.invariant_of-self-clause-counted
invariant_of-self-clause-counted g c =
    let left = length-left c.args.self.now.sessions.waiting c.take-name.new.self c.args.place c.requires c.take-name.ensures.left in
    let more = length-put c.args.self.now.sessions.resting c.put.new.self (record { name = c.take-name.result.name; session = c.in-Ok.session }) c.put.ensures in
    omega (arith, left, more, c.args.self.now.counted)

pub invariant_of-self-clause-resting : goal.invariant_of-self-clause-resting
invariant_of-self-clause-resting g c =
    All-put c.args.self.now.sessions.resting c.put.new.self (record { name = c.take-name.result.name; session = c.in-Ok.session }) c.put.ensures
    (λ one. IsKnown (g.B.Board.seat one.session.board) g.D.ScriptDesk.manager (g.D.ScriptDesk.issued c.args.self.now.desk)) c.args.self.now.resting
    (kept-known _ _ _ _ (goes_on-seat _ _ _ _ _ _ c.in-Ok.ensures.goes_on)
    (taken (λ one. IsKnown (g.B.Board.seat one.session.board) g.D.ScriptDesk.manager (g.D.ScriptDesk.issued c.args.self.now.desk)) c.args.self.now.sessions.waiting c.args.place c.take-name.result c.requires c.args.self.now.waiting c.take-name.ensures.taken))

pub invariant_of-self-clause-waiting : goal.invariant_of-self-clause-waiting
invariant_of-self-clause-waiting g c =
    All-left c.args.self.now.sessions.waiting c.take-name.new.self c.args.place c.requires c.take-name.ensures.left (λ one. IsKnown (g.B.Board.seat one.session.board) g.D.ScriptDesk.manager (g.D.ScriptDesk.issued c.args.self.now.desk)) c.args.self.now.waiting

pub put_at-requires-clause-within : goal.put_at-requires-clause-within
put_at-requires-clause-within g c =
    let left = length-left c.args.self.now.sessions.waiting c.take-name.new.self c.args.place c.requires c.take-name.ensures.left in
    omega (arith, left, c.requires)

pub put_at-requires-clause-in_order : goal.put_at-requires-clause-in_order
put_at-requires-clause-in_order g c =
    put_back-in_order c.args.self.now.sessions.waiting c.take-name.new.self c.args.place c.take-name.result c.in-Err.waiting c.requires c.take-name.ensures.taken
    c.take-name.ensures.left c.take-name.ensures.in_order

pub invariant_of-self-in-Err-clause-counted : goal.invariant_of-self-in-Err-clause-counted
invariant_of-self-in-Err-clause-counted g c =
    let there = put_back-there c.args.self.now.sessions.waiting c.take-name.new.self c.put_at.new.self c.args.place c.take-name.result c.in-Err.waiting c.requires
    c.take-name.ensures.taken c.take-name.ensures.left c.put_at.ensures in
    c.args.self.now.counted ∙ ap (λ (n : ℕ). length c.args.self.now.sessions.resting + n)
    (sym (ap length there ∙ length-with_session c.args.self.now.sessions.waiting c.args.place c.in-Err.waiting))

pub invariant_of-self-in-Err-clause-waiting : goal.invariant_of-self-in-Err-clause-waiting
invariant_of-self-in-Err-clause-waiting g c =
    let there = put_back-there c.args.self.now.sessions.waiting c.take-name.new.self c.put_at.new.self c.args.place c.take-name.result c.in-Err.waiting c.requires
    c.take-name.ensures.taken c.take-name.ensures.left c.put_at.ensures in
    rw there
    (All-with_session c.args.self.now.sessions.waiting c.args.place c.in-Err.waiting
    (λ session. IsKnown (g.B.Board.seat session.board) g.D.ScriptDesk.manager (g.D.ScriptDesk.issued c.args.self.now.desk)) c.args.self.now.waiting
    (kept-known _ _ _ _ c.in-Err.ensures.looks_on.same.seat_
    (taken (λ one. IsKnown (g.B.Board.seat one.session.board) g.D.ScriptDesk.manager (g.D.ScriptDesk.issued c.args.self.now.desk)) c.args.self.now.sessions.waiting c.args.place c.take-name.result c.requires
    c.args.self.now.waiting c.take-name.ensures.taken)))

pub returns-in-Ok-clause-polled : goal.returns-in-Ok-clause-polled
returns-in-Ok-clause-polled g c = record {
  after = c.in-Ok.session;
  goes_on = λ d. subst (λ one. GoesOn g.B.Board.seat g.B.Board.view g.B.Board.stack one.session c.in-Ok.said c.in-Ok.session)
      (c.take-name.ensures.taken d) c.in-Ok.ensures.goes_on;
  called = λ d. ap (λ one. one.name) (c.take-name.ensures.taken d);
  rests = c.put.ensures;
  waiting = c.take-name.ensures.left;
}

pub returns-in-Err-clause-polled : goal.returns-in-Err-clause-polled
returns-in-Err-clause-polled g c = record {
  after = c.in-Err.waiting;
  looks = λ d. subst (λ one. LooksOn g.B.Board.seat g.B.Board.view g.B.Board.stack one.session c.in-Err.waiting) (c.take-name.ensures.taken d) c.in-Err.ensures.looks_on;
  there = put_back-there c.args.self.now.sessions.waiting c.take-name.new.self c.put_at.new.self c.args.place c.take-name.result c.in-Err.waiting c.requires
      c.take-name.ensures.taken c.take-name.ensures.left c.put_at.ensures;
  resting = refl;
}
