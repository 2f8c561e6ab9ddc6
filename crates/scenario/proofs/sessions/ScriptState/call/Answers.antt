use Rattle.std.proofs.Common.{ℕ, ◌+◌, ◌∙◌, ap, length, refl, subst, sym}
use Rattle.lock_script.proofs.Lemmas.Lending.{All-called, length-with_session}
use Rattle.scenario.specs.Made.{IsMade}
use Rattle.scenario.specs.Numbers.{IsKnown}
use Rattle.scenario.proofs.Lemmas.Answered.{fits}
use Rattle.scenario.proofs.Lemmas.Numbers.{kept-known}
use Rattle.scenario.proofs.sessions.ScriptState.call.Goals as goal

pub invariant_of-self-clause-counted : goal.invariant_of-self-clause-counted
invariant_of-self-clause-counted g c =
    c.args.self.now.counted ∙ ap (λ (n : ℕ). n + length c.args.self.now.sessions.waiting) (sym (length-with_session c.args.self.now.sessions.resting c.args.caller.place c.make.new.session))

pub invariant_of-self-clause-resting : goal.invariant_of-self-clause-resting
invariant_of-self-clause-resting g c =
    All-called c.args.self.now.sessions.resting c.args.caller.place c.session_mut-session.result.now c.make.new.session c.requires.place c.session_mut-session.ensures.value
    (λ session. IsKnown (g.B.Board.seat session.board) g.D.ScriptDesk.manager (g.D.ScriptDesk.issued c.args.self.now.desk)) c.args.self.now.resting
    (λ h. kept-known _ _ _ _ (fits _ _ _ _ _ _ _ _ c.requires.scripted c.make.ensures.made).1 h)

pub returns-clause-called : goal.returns-clause-called
returns-clause-called g c = record {
  after = c.make.new.session;
  made = λ d. subst
      (λ s. IsMade g.B.Board.seat g.B.Board.view g.B.Board.stack s c.make.new.session c.args.caller.name c.args.other c.args.call c.make.result)
      (c.session_mut-session.ensures.value d) c.make.ensures;
  there = refl;
  waiting = refl;
}
