use Rattle.std.proofs.Common.{ℕ, ◌+◌, ◌∙◌, ap, length, refl, subst, sym}
use Rattle.std.proofs.lemmas.Result.{IfOk-weaker}
use Rattle.lock_script.proofs.Lemmas.Lending.{All-called, length-with_session}
use Rattle.lock_script.specs.Lending.{with_session}
use Rattle.scenario.specs.Answered.{TellsBlockedAt}
use Rattle.scenario.specs.Waits.{TellsBlocked}
use Rattle.scenario.specs.Numbers.{IsKnown}
use Rattle.scenario.proofs.Lemmas.Numbers.{kept-known}
use Rattle.scenario.proofs.sessions.ScriptState.blocked.Goals as goal

pub invariant_of-self-clause-counted : goal.invariant_of-self-clause-counted
invariant_of-self-clause-counted g c =
    c.args.self.now.counted ∙ ap (λ (n : ℕ). length c.args.self.now.sessions.resting + n) (sym (length-with_session c.args.self.now.sessions.waiting c.args.place c.tell_blocked.new.waiting))

pub invariant_of-self-clause-waiting : goal.invariant_of-self-clause-waiting
invariant_of-self-clause-waiting g c =
    All-called c.args.self.now.sessions.waiting c.args.place c.session_mut-waiting.result.now c.tell_blocked.new.waiting c.requires c.session_mut-waiting.ensures.value
    (λ waiting. IsKnown (g.B.Board.seat waiting.board) g.D.ScriptDesk.manager (g.D.ScriptDesk.issued c.args.self.now.desk)) c.args.self.now.waiting
    (λ h. kept-known _ _ _ _ c.tell_blocked.ensures.waits.seat_ h)

pub returns-clause-told : goal.returns-clause-told
returns-clause-told g c = IfOk-weaker c.tell_blocked.result
    (TellsBlocked g.B.Board.seat g.B.Board.view g.B.Board.stack c.session_mut-waiting.result.now c.tell_blocked.new.waiting)
    (TellsBlockedAt g.B.Board.seat g.B.Board.view g.B.Board.stack c.args.self.now.sessions
    (record c.args.self.now.sessions { waiting = with_session c.args.self.now.sessions.waiting c.args.place c.tell_blocked.new.waiting }) c.args.place)
    (λ told tells. record {
      after = c.tell_blocked.new.waiting;
      tells = λ d. subst (λ s. TellsBlocked g.B.Board.seat g.B.Board.view g.B.Board.stack s c.tell_blocked.new.waiting told)
          (c.session_mut-waiting.ensures.value d) tells;
      there = refl;
      resting = refl;
    })
    c.tell_blocked.ensures.told

pub returns-clause-as_many : goal.returns-clause-as_many
returns-clause-as_many g c = length-with_session c.args.self.now.sessions.waiting c.args.place c.tell_blocked.new.waiting
