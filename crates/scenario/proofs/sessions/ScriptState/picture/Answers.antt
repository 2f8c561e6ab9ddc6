use Rattle.std.proofs.Common.{ℕ, ◌+◌, ◌∙◌, ap, length, refl, subst, sym}
use Rattle.lock_script.proofs.Lemmas.Lending.{All-called, length-with_session}
use Rattle.scenario.specs.Numbers.{IsKnown}
use Rattle.scenario.specs.Waits.{LooksAround}
use Rattle.scenario.proofs.Lemmas.Numbers.{kept-known}
use Rattle.scenario.proofs.sessions.ScriptState.picture.Goals as goal

pub invariant_of-self-clause-counted : goal.invariant_of-self-clause-counted
invariant_of-self-clause-counted g c =
    c.args.self.now.counted ∙ ap (λ (n : ℕ). n + length c.args.self.now.sessions.waiting) (sym (length-with_session c.args.self.now.sessions.resting c.args.place c.draw.new.session))

pub invariant_of-self-clause-resting : goal.invariant_of-self-clause-resting
invariant_of-self-clause-resting g c =
    All-called c.args.self.now.sessions.resting c.args.place c.session_mut-session.result.now c.draw.new.session c.requires c.session_mut-session.ensures.value
    (λ session. IsKnown (g.B.Board.seat session.board) g.D.ScriptDesk.manager (g.D.ScriptDesk.issued c.args.self.now.desk)) c.args.self.now.resting
    (λ h. kept-known _ _ _ _ c.draw.ensures.seat_ h)

pub returns-clause-looked : goal.returns-clause-looked
returns-clause-looked g c = record {
  after = c.draw.new.session;
  looked = λ d. subst (λ s. LooksAround g.B.Board.seat s c.draw.new.session) (c.session_mut-session.ensures.value d) c.draw.ensures;
  there = refl;
  waiting = refl;
}

pub returns-in_err-picture-clause-looked : goal.returns-in_err-picture-clause-looked
returns-in_err-picture-clause-looked g c = record {
  after = c.draw.new.session;
  looked = λ d. subst (λ s. LooksAround g.B.Board.seat s c.draw.new.session) (c.session_mut-session.ensures.value d) c.draw.ensures;
  there = refl;
  waiting = refl;
}

pub returns-in_err-add_holds-clause-looked : goal.returns-in_err-add_holds-clause-looked
returns-in_err-add_holds-clause-looked g c = record {
  after = c.draw.new.session;
  looked = λ d. subst (λ s. LooksAround g.B.Board.seat s c.draw.new.session) (c.session_mut-session.ensures.value d) c.draw.ensures;
  there = refl;
  waiting = refl;
}
