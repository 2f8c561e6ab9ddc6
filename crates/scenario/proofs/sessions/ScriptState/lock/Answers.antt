use Rattle.std.proofs.Common.{ℕ, ◌+◌, ◌∙◌, ap, arith, inl, inr, length, refl, remove, subst, sym}
use Rattle.lock_script.proofs.Lemmas.Sessions.{All-put_back, length-put_back, All-left, length-left, All-put, length-put, taken}
use Rattle.lock_script.specs.Names.{PutsIn}
use Rattle.scenario.specs.Waits.{IsBegun, IsQueued}
use Rattle.scenario.specs.declared.answers.Answer.TheVariants as answer
use Rattle.scenario.specs.declared.answers.Said.TheVariants as said
use Rattle.scenario.specs.Numbers.{IsKnown}
use Rattle.scenario.proofs.Lemmas.Numbers.{kept-known}
use Rattle.scenario.proofs.sessions.ScriptState.lock.Goals as goal

pub invariant_of-self-clause-counted : goal.invariant_of-self-clause-counted
invariant_of-self-clause-counted g c =
    c.args.self.now.counted ∙ ap (λ (n : ℕ). n + length c.args.self.now.sessions.waiting)
    (sym (length-put_back c.args.self.now.sessions.resting c.take-name.new.self c.put.new.self c.args.target.caller.place
    (record { name = c.take-name.result.name; session = c.in-Ok.session }) c.requires c.take-name.ensures.left c.put.ensures))

pub invariant_of-self-clause-resting : goal.invariant_of-self-clause-resting
invariant_of-self-clause-resting g c =
    All-put_back c.args.self.now.sessions.resting c.take-name.new.self c.put.new.self c.args.target.caller.place c.take-name.result
    (record { name = c.take-name.result.name; session = c.in-Ok.session }) c.requires c.take-name.ensures.taken c.take-name.ensures.left c.put.ensures
    (λ one. IsKnown (g.B.Board.seat one.session.board) g.D.ScriptDesk.manager (g.D.ScriptDesk.issued c.args.self.now.desk)) c.args.self.now.resting (λ h. kept-known _ _ _ _ c.in-Ok.ensures.begun.same.seat_ h)

pub invariant_of-self-in-Err-clause-counted : goal.invariant_of-self-in-Err-clause-counted
invariant_of-self-in-Err-clause-counted g c =
    let left = length-left c.args.self.now.sessions.resting c.take-name.new.self c.args.target.caller.place c.requires c.take-name.ensures.left in
    let more = length-put c.args.self.now.sessions.waiting c.put-in-Err.new.self (record { name = c.take-name.result.name; session = c.in-Err.waiting }) c.put-in-Err.ensures in
    omega (arith, left, more, c.args.self.now.counted)

pub invariant_of-self-in-Err-clause-resting : goal.invariant_of-self-in-Err-clause-resting
invariant_of-self-in-Err-clause-resting g c =
    All-left c.args.self.now.sessions.resting c.take-name.new.self c.args.target.caller.place c.requires c.take-name.ensures.left (λ one. IsKnown (g.B.Board.seat one.session.board) g.D.ScriptDesk.manager (g.D.ScriptDesk.issued c.args.self.now.desk)) c.args.self.now.resting

pub invariant_of-self-in-Err-clause-waiting : goal.invariant_of-self-in-Err-clause-waiting
invariant_of-self-in-Err-clause-waiting g c =
    All-put c.args.self.now.sessions.waiting c.put-in-Err.new.self (record { name = c.take-name.result.name; session = c.in-Err.waiting }) c.put-in-Err.ensures
    (λ one. IsKnown (g.B.Board.seat one.session.board) g.D.ScriptDesk.manager (g.D.ScriptDesk.issued c.args.self.now.desk)) c.args.self.now.waiting
    (kept-known _ _ _ _ c.in-Err.ensures.queued.begun.seat_
    (taken (λ one. IsKnown (g.B.Board.seat one.session.board) g.D.ScriptDesk.manager (g.D.ScriptDesk.issued c.args.self.now.desk)) c.args.self.now.sessions.resting c.args.target.caller.place c.take-name.result c.requires c.args.self.now.resting c.take-name.ensures.taken))

pub put-requires : goal.put-requires
put-requires g c =
    let left = length-left c.args.self.now.sessions.resting c.take-name.new.self c.args.target.caller.place c.requires c.take-name.ensures.left in
    omega (arith, left, c.requires, c.args.self.now.counted, c.args.self.now.few, c.args.self.now.issued, c.args.self.now.within)

pub returns-in-Ok-clause-locked : goal.returns-in-Ok-clause-locked
returns-in-Ok-clause-locked g c = inl (record {
  told = c.in-Ok.said;
  after = c.in-Ok.session;
  begun = λ d. subst
      (λ one. IsBegun g.B.Board.seat g.B.Board.view g.B.Board.stack one.session c.args.target.tag c.args.target.mode c.args.owner c.in-Ok.said c.in-Ok.session)
      (c.take-name.ensures.taken d) c.in-Ok.ensures.begun;
  answered = λ d. ap (λ one. answer.Said one.name c.in-Ok.said) (c.take-name.ensures.taken d);
  back = λ d. subst
      (λ one. PutsIn (remove c.args.self.now.sessions.resting c.args.target.caller.place) (record { name = one.name; session = c.in-Ok.session }) c.put.new.self)
      (c.take-name.ensures.taken d)
      (subst (λ left. PutsIn left (record { name = c.take-name.result.name; session = c.in-Ok.session }) c.put.new.self) c.take-name.ensures.left c.put.ensures);
  waiting = refl;
})

pub returns-in-Err-clause-locked : goal.returns-in-Err-clause-locked
returns-in-Err-clause-locked g c = inr (record {
  after = c.in-Err.waiting;
  queued = λ d. subst
      (λ one. IsQueued g.B.Board.seat g.B.Board.view g.B.Board.stack one.session c.args.target.tag c.args.target.mode c.args.owner c.in-Err.waiting)
      (c.take-name.ensures.taken d) c.in-Err.ensures.queued;
  answered = λ d. ap (λ one. answer.Said one.name said.Waits) (c.take-name.ensures.taken d);
  joins = λ d. subst
      (λ one. PutsIn c.args.self.now.sessions.waiting (record { name = one.name; session = c.in-Err.waiting }) c.put-in-Err.new.self)
      (c.take-name.ensures.taken d) c.put-in-Err.ensures;
  resting = c.take-name.ensures.left;
})
