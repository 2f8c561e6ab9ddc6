use Rattle.std.proofs.Common.{[], ◌∷◌, codes, inl, inr, refl, rules, subst, sym, None, Some, Result, Ok, Err}
use Rattle.lock_script.specs.declared.faults.Fault.{Fault}
use Rattle.lock_script.specs.declared.faults.Fault.TheVariants.{ReadFailed}
use Rattle.scenario.specs.Heard.{HearsAll, Helped}
use Rattle.scenario.proofs.Lemmas.Failing.{unless-unheard}
use Rattle.scenario.proofs.Lemmas.Hearing.{hears-one}
use Rattle.scenario.proofs.Lemmas.Lines.{of-error}
use Rattle.scenario_program.specs.Typed.{IsTypedHeard, at_terminal, prompt}
use Rattle.scenario_program.proofs.Lemmas.Typing.{known, passed-over, typed-all, typed-next, typed-prompted, typed-unread}
use Rattle.scenario_program.proofs.shell.converse.Goals as goal
use Rattle.scenario_program.proofs.shell.converse.Goals.{in-Ok-Some+in_ok-answer-in-Ok-Some+else-branch, in-Err+in_ok-pass_over-in-Err}

pub returns-then-branch : goal.returns-then-branch
returns-then-branch g c = record {
  heard =
      let leaves = c.answer.ensures.leaves (search rules) in
      typed-all g.B.Board.seat g.B.Board.view g.B.Board.stack g.D.ScriptDesk.again g.D.ScriptDesk.database_of g.D.ScriptDesk.entries c.args.shell.is_terminal g.L.Listener.hears (g.R.Read.remaining c.args.reader)
      (record { sessions = c.args.scene.now.state.sessions; names = c.args.scene.now.state.names }) c.args.scene.now.listener
      c.lines.lines.number c.lines.lines.source.left (record { sessions = c.lines.scene.state.sessions; names = c.lines.scene.state.names })
      c.lines.scene.listener c.answer.new.scene.listener (Ok tt) (at_terminal c.args.shell.is_terminal prompt) c.lines.invariant.so_far
      (inl (c.in-Ok-Some.line, known (g.R.Read.remaining c.args.reader) (rw c.in-Ok-Some.field-0-is at c.in-Ok-Some.ensures.reads), rw c.as_str.ensures at leaves.0, refl))
      (subst (λ now. HearsAll g.L.Listener.hears c.lines.scene.listener (at_terminal c.args.shell.is_terminal prompt) now) (sym leaves.1) c.in_ok-prompt-2.ensures.prompted);
}

pub returns-in-Ok-None : goal.returns-in-Ok-None
returns-in-Ok-None g c = record {
  heard =
      typed-prompted g.B.Board.seat g.B.Board.view g.B.Board.stack g.D.ScriptDesk.again g.D.ScriptDesk.database_of g.D.ScriptDesk.entries c.args.shell.is_terminal g.L.Listener.hears (g.R.Read.remaining c.args.reader)
      (record { sessions = c.args.scene.now.state.sessions; names = c.args.scene.now.state.names }) c.args.scene.now.listener
      c.lines.lines.number c.lines.lines.source.left (record { sessions = c.lines.scene.state.sessions; names = c.lines.scene.state.names })
      c.lines.scene.listener c.prompt-in-lines.new.listener c.prompt-in-Ok-None.new.listener c.prompt-in-Ok-None.result
      (at_terminal c.args.shell.is_terminal prompt) (at_terminal c.args.shell.is_terminal (codes "\n")) c.lines.invariant.so_far
      (λ _. inr (known (g.R.Read.remaining c.args.reader) (rw c.in-Ok-None.field-0-is at c.in-Ok-None.ensures.reads), refl)) c.in_ok-prompt-2.ensures.prompted
      c.prompt-in-Ok-None.ensures.prompted c.prompt-in-Ok-None.ensures.unheard;
}

pub returns-in_err-prompt : goal.returns-in_err-prompt
returns-in_err-prompt g c = record {
  heard =
      of-error (λ (ended : Result (Unit {0}) Fault). IsTypedHeard g.B.Board.seat g.B.Board.view g.B.Board.stack g.D.ScriptDesk.again g.D.ScriptDesk.database_of g.D.ScriptDesk.entries g.L.Listener.hears c.args.shell.is_terminal
      (g.R.Read.remaining c.args.reader) (record { sessions = c.args.scene.now.state.sessions; names = c.args.scene.now.state.names }) c.args.scene.now.listener ended c.prompt.new.listener)
      c.from_residual.result c.in_err-prompt.field-0.0 c.from_residual.ensures.1 (unless-unheard _ c.in_err-prompt.field-0.0 c.in_err-prompt.ensures.unheard);
}

pub returns-in_err-prompt-2 : goal.returns-in_err-prompt-2
returns-in_err-prompt-2 g c = record {
  heard =
      of-error (λ (ended : Result (Unit {0}) Fault). IsTypedHeard g.B.Board.seat g.B.Board.view g.B.Board.stack g.D.ScriptDesk.again g.D.ScriptDesk.database_of g.D.ScriptDesk.entries g.L.Listener.hears c.args.shell.is_terminal
      (g.R.Read.remaining c.args.reader) (record { sessions = c.args.scene.now.state.sessions; names = c.args.scene.now.state.names }) c.args.scene.now.listener ended c.prompt-in-lines.new.listener)
      c.from_residual-in_err-prompt-2.result c.in_err-prompt-2.field-0.0 c.from_residual-in_err-prompt-2.ensures.1
      (unless-unheard _ c.in_err-prompt-2.field-0.0 c.in_err-prompt-2.ensures.unheard);
}

pub returns-in_err-answer-in-Ok-Some : goal.returns-in_err-answer-in-Ok-Some
returns-in_err-answer-in-Ok-Some g c = record {
  heard =
      of-error (λ (ended : Result (Unit {0}) Fault). IsTypedHeard g.B.Board.seat g.B.Board.view g.B.Board.stack g.D.ScriptDesk.again g.D.ScriptDesk.database_of g.D.ScriptDesk.entries g.L.Listener.hears c.args.shell.is_terminal
      (g.R.Read.remaining c.args.reader) (record { sessions = c.args.scene.now.state.sessions; names = c.args.scene.now.state.names }) c.args.scene.now.listener ended c.answer.new.scene.listener)
      c.from_residual-in_err-answer-in-Ok-Some.result c.in_err-answer-in-Ok-Some.field-0.0 c.from_residual-in_err-answer-in-Ok-Some.ensures.1
      (unless-unheard _ c.in_err-answer-in-Ok-Some.field-0.0 c.in_err-answer-in-Ok-Some.ensures.unheard);
}

pub returns-in_err-pass_over-in-Err : goal.returns-in_err-pass_over-in-Err
returns-in_err-pass_over-in-Err g c = record {
  heard =
      of-error (λ (ended : Result (Unit {0}) Fault). IsTypedHeard g.B.Board.seat g.B.Board.view g.B.Board.stack g.D.ScriptDesk.again g.D.ScriptDesk.database_of g.D.ScriptDesk.entries g.L.Listener.hears c.args.shell.is_terminal
      (g.R.Read.remaining c.args.reader) (record { sessions = c.args.scene.now.state.sessions; names = c.args.scene.now.state.names }) c.args.scene.now.listener ended c.pass_over.new.listener)
      c.from_residual-in_err-pass_over-in-Err.result c.in_err-pass_over-in-Err.field-0.0 c.from_residual-in_err-pass_over-in-Err.ensures.1
      (typed-unread g.B.Board.seat g.B.Board.view g.B.Board.stack g.D.ScriptDesk.again g.D.ScriptDesk.database_of g.D.ScriptDesk.entries c.args.shell.is_terminal g.L.Listener.hears (g.R.Read.remaining c.args.reader)
      (record { sessions = c.args.scene.now.state.sessions; names = c.args.scene.now.state.names }) c.args.scene.now.listener
      c.lines.lines.number c.lines.lines.source.left (record { sessions = c.lines.scene.state.sessions; names = c.lines.scene.state.names })
      c.lines.scene.listener c.prompt-in-lines.new.listener c.pass_over.new.listener c.next_line.result c.in-Err.fault c.in_err-pass_over-in-Err.field-0.0
      c.lines.invariant.so_far c.in_ok-prompt-2.ensures.prompted c.in-Err.is c.next_line.ensures.reads c.in_err-pass_over-in-Err.ensures.ended);
}

pub returns : goal.returns
returns g c = record {
  heard =
      typed-all g.B.Board.seat g.B.Board.view g.B.Board.stack g.D.ScriptDesk.again g.D.ScriptDesk.database_of g.D.ScriptDesk.entries c.args.shell.is_terminal g.L.Listener.hears (g.R.Read.remaining c.args.reader)
      (record { sessions = c.args.scene.now.state.sessions; names = c.args.scene.now.state.names }) c.args.scene.now.listener
      c.lines.lines.number c.lines.lines.source.left (record { sessions = c.lines.scene.state.sessions; names = c.lines.scene.state.names })
      c.lines.scene.listener c.lines.scene.listener (Err ReadFailed) [] c.lines.invariant.so_far (inl refl) refl;
}

pub lines-preserved : goal.lines-preserved
lines-preserved g c = elim c.match-next_line.branch [
  | in-Ok-Some+in_ok-answer-in-Ok-Some+else-branch w ↦
      (let answered = w.answer.ensures.answered (search rules) in
      rw w.scene-is (record {
        so_far = typed-next g.B.Board.seat g.B.Board.view g.B.Board.stack g.D.ScriptDesk.again g.D.ScriptDesk.database_of g.D.ScriptDesk.entries c.args.shell.is_terminal g.L.Listener.hears (g.R.Read.remaining c.args.reader)
            (record { sessions = c.args.scene.now.state.sessions; names = c.args.scene.now.state.names }) c.args.scene.now.listener
            c.lines.lines.number c.next_line.new.self.number c.lines.lines.source.left c.next_line.new.self.source.left
            (record { sessions = c.lines.scene.state.sessions; names = c.lines.scene.state.names })
            (record { sessions = w.answer.new.scene.state.sessions; names = w.answer.new.scene.state.names })
            c.lines.scene.listener c.prompt-in-lines.new.listener w.answer.new.scene.listener (Some w.in-Ok-Some.line) c.lines.invariant.so_far
            (known (g.R.Read.remaining c.args.reader) (rw w.in-Ok-Some.field-0-is at w.in-Ok-Some.ensures.number))
            (known (g.R.Read.remaining c.args.reader) (rw w.in-Ok-Some.field-0-is at w.in-Ok-Some.ensures.reads))
            (known (g.R.Read.remaining c.args.reader) w.in-Ok-Some.ensures.rest) c.in_ok-prompt-2.ensures.prompted
            (answered.1.0, (rw w.as_str.ensures at answered.0, rw w.as_str.ensures at answered.1.1), answered.1.2);
      }))
  | in-Err+in_ok-pass_over-in-Err w ↦
      (let passed = w.in_ok-pass_over-in-Err.ensures.passed in
      let told = w.in_ok-pass_over-in-Err.ensures.told in
      let over = passed-over (g.R.Read.remaining c.args.reader) c.lines.lines.source.left c.next_line.new.self.source.left c.lines.invariant.so_far.lines
      c.lines.lines.number c.next_line.new.self.number passed.0 c.next_line.result w.in-Err.fault c.lines.invariant.so_far.are w.in-Err.is passed.1
      c.next_line.ensures.reads c.next_line.ensures.counted c.next_line.ensures.passed_over in
      rw w.scene-is (record {
        so_far = typed-next g.B.Board.seat g.B.Board.view g.B.Board.stack g.D.ScriptDesk.again g.D.ScriptDesk.database_of g.D.ScriptDesk.entries c.args.shell.is_terminal g.L.Listener.hears (g.R.Read.remaining c.args.reader)
            (record { sessions = c.args.scene.now.state.sessions; names = c.args.scene.now.state.names }) c.args.scene.now.listener
            c.lines.lines.number c.next_line.new.self.number c.lines.lines.source.left c.next_line.new.self.source.left
            (record { sessions = c.lines.scene.state.sessions; names = c.lines.scene.state.names })
            (record { sessions = c.lines.scene.state.sessions; names = c.lines.scene.state.names })
            c.lines.scene.listener c.prompt-in-lines.new.listener w.pass_over.new.listener None c.lines.invariant.so_far over.next over.reads over.rest
            c.in_ok-prompt-2.ensures.prompted
            (Helped told.0 ∷ [], (told.0, refl, refl), hears-one g.L.Listener.hears c.prompt-in-lines.new.listener w.pass_over.new.listener (Helped told.0) told.1);
      }))
]
