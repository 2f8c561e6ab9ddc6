use Rattle.std.proofs.Common.{ℕ, ◌+◌, ◌∙◌, ap, length, sym}
use Rattle.lock_script.proofs.Lemmas.Lending.{All-called, length-with_session}
use Rattle.scenario.specs.Numbers.{IsKnown}
use Rattle.scenario.proofs.Lemmas.Numbers.{kept-known}
use Rattle.scenario.proofs.sessions.ScriptState.queue_at.Goals as goal

pub invariant_of-self-clause-counted : goal.invariant_of-self-clause-counted
invariant_of-self-clause-counted g c =
    c.args.self.now.counted ∙ ap (λ (n : ℕ). length c.args.self.now.sessions.resting + n) (sym (length-with_session c.args.self.now.sessions.waiting c.args.place c.queue.new.self))

pub invariant_of-self-clause-waiting : goal.invariant_of-self-clause-waiting
invariant_of-self-clause-waiting g c =
    All-called c.args.self.now.sessions.waiting c.args.place c.session_mut-waiting.result.now c.queue.new.self c.requires c.session_mut-waiting.ensures.value
    (λ waiting. IsKnown (g.B.Board.seat waiting.board) g.D.ScriptDesk.manager (g.D.ScriptDesk.issued c.args.self.now.desk)) c.args.self.now.waiting
    (λ h. kept-known _ _ _ _ c.queue.ensures.waiting.seat_ h)

pub returns-clause-as_many : goal.returns-clause-as_many
returns-clause-as_many g c = length-with_session c.args.self.now.sessions.waiting c.args.place c.queue.new.self
