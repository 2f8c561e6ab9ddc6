use Rattle.std.proofs.Common.{rules, Result}
use Rattle.lock_script.specs.declared.faults.Fault.{Fault}
use Rattle.scenario.specs.Acts.{IsKeptHeard}
use Rattle.scenario.specs.Staged.{play_of, stage_of}
use Rattle.scenario.proofs.Lemmas.Failing.{unless-unheard}
use Rattle.scenario.proofs.Lemmas.InTurn.{done-more, on-ok}
use Rattle.scenario.proofs.Lemmas.Lines.{of-error}
use Rattle.scenario.proofs.Lemmas.Noted.{end-heard, ends-badly, ends-unread, ends-well}
use Rattle.scenario.proofs.run.Scene.run_keeping.Goals as goal

pub lines-preserved : goal.lines-preserved
lines-preserved g c =
    let done = c.in_ok-hear_line.ensures.done in
    record {
      silent = λ speaks. c.hear_line.ensures.silent (c.lines.invariant.silent speaks);
      so_far = done-more (play_of g.B.Board.seat g.B.Board.view g.B.Board.stack g.D.ScriptDesk.again g.D.ScriptDesk.database_of g.D.ScriptDesk.entries g.L.Listener.hears)
          c.args.keeping.speaks c.args.keeping.keeps (g.R.Read.remaining c.args.reader)
          (stage_of c.args.self.now.state.sessions c.args.self.now.state.names c.args.self.now.listener)
          (stage_of c.lines.self.state.sessions c.lines.self.state.names c.lines.self.listener)
          (stage_of c.hear_line.new.self.state.sessions c.hear_line.new.self.state.names c.hear_line.new.self.listener)
          c.lines.lines.number c.next_line.new.self.number c.lines.lines.source.left c.next_line.new.self.source.left c.lines.kept c.hear_line.new.kept
          c.in-Some.line done.0 c.lines.invariant.so_far (rw c.in-Some.is at c.in_ok-line.ensures.reads) c.in_ok-line.ensures.rest
          (rw c.in-Some.is at c.in_ok-line.ensures.number) (c.lines.script.script, c.lines.invariant.silent, rw c.as_str.ensures at done.1)
          (rw c.as_str.ensures at done.2);
    }

pub returns-in_err-line : goal.returns-in_err-line
returns-in_err-line g c = record {
  played =
      of-error (λ (ended : Result (Unit {0}) Fault). IsKeptHeard g.B.Board.seat g.B.Board.view g.B.Board.stack g.D.ScriptDesk.again g.D.ScriptDesk.database_of g.D.ScriptDesk.entries g.L.Listener.hears
      c.args.keeping.speaks c.args.keeping.keeps (g.R.Read.remaining c.args.reader) (record { sessions = c.args.self.now.state.sessions; names = c.args.self.now.state.names })
      c.args.self.now.listener ended c.lines.self.listener) c.from_residual.result c.in_err-line.field-0.0 c.from_residual.ensures.1
      (λ silent. ends-unread g.B.Board.seat g.B.Board.view g.B.Board.stack g.D.ScriptDesk.again g.D.ScriptDesk.database_of g.D.ScriptDesk.entries g.L.Listener.hears
      c.args.self.now.listener c.args.keeping.speaks c.args.keeping.keeps (g.R.Read.remaining c.args.reader)
      (record { sessions = c.args.self.now.state.sessions; names = c.args.self.now.state.names }) c.lines.lines.number c.lines.lines.source.left
      (stage_of c.lines.self.state.sessions c.lines.self.state.names c.lines.self.listener) c.lines.kept c.in_err-line.field-0.0 c.lines.invariant.so_far
      c.in_err-line.ensures.reads);
}

pub returns-in_err-hear_line : goal.returns-in_err-hear_line
returns-in_err-hear_line g c = record {
  played =
      of-error (λ (ended : Result (Unit {0}) Fault). IsKeptHeard g.B.Board.seat g.B.Board.view g.B.Board.stack g.D.ScriptDesk.again g.D.ScriptDesk.database_of g.D.ScriptDesk.entries g.L.Listener.hears
      c.args.keeping.speaks c.args.keeping.keeps (g.R.Read.remaining c.args.reader) (record { sessions = c.args.self.now.state.sessions; names = c.args.self.now.state.names })
      c.args.self.now.listener ended c.hear_line.new.self.listener) c.from_residual-in_err-hear_line.result c.in_err-hear_line.field-0.0
      c.from_residual-in_err-hear_line.ensures.1
      (λ silent. ends-badly g.B.Board.seat g.B.Board.view g.B.Board.stack g.D.ScriptDesk.again g.D.ScriptDesk.database_of g.D.ScriptDesk.entries g.L.Listener.hears
      c.args.self.now.listener c.args.keeping.speaks c.args.keeping.keeps (g.R.Read.remaining c.args.reader)
      (record { sessions = c.args.self.now.state.sessions; names = c.args.self.now.state.names }) c.lines.lines.number c.next_line.new.self.number
      c.lines.lines.source.left (stage_of c.lines.self.state.sessions c.lines.self.state.names c.lines.self.listener)
      (stage_of c.hear_line.new.self.state.sessions c.hear_line.new.self.state.names c.hear_line.new.self.listener) c.lines.kept c.in-Some.line
      c.in_err-hear_line.field-0.0 c.lines.invariant.so_far (rw c.in-Some.is at c.in_ok-line.ensures.reads) (rw c.in-Some.is at c.in_ok-line.ensures.number)
      (rw c.as_str.ensures at c.in_err-hear_line.ensures.bad (c.lines.invariant.silent silent)));
}

pub returns-in-Err : goal.returns-in-Err
returns-in-Err g c = record {
  played =
      λ silent.
      let spoke = rw c.in-Err.is at c.finish.ensures (c.lines.invariant.silent silent) in
      let never : ⊥ = cc in absurd never;
}

pub returns-in_err-tell_end : goal.returns-in_err-tell_end
returns-in_err-tell_end g c = record {
  played =
      of-error (λ (ended : Result (Unit {0}) Fault). IsKeptHeard g.B.Board.seat g.B.Board.view g.B.Board.stack g.D.ScriptDesk.again g.D.ScriptDesk.database_of g.D.ScriptDesk.entries g.L.Listener.hears
      c.args.keeping.speaks c.args.keeping.keeps (g.R.Read.remaining c.args.reader) (record { sessions = c.args.self.now.state.sessions; names = c.args.self.now.state.names })
      c.args.self.now.listener ended c.tell_end.new.self.listener) c.from_residual-in_err-tell_end.result c.in_err-tell_end.field-0.0
      c.from_residual-in_err-tell_end.ensures.1 (λ silent. unless-unheard _ c.in_err-tell_end.field-0.0 c.in_err-tell_end.ensures.unheard);
}

pub returns : goal.returns
returns g c = record {
  played =
      ends-well g.B.Board.seat g.B.Board.view g.B.Board.stack g.D.ScriptDesk.again g.D.ScriptDesk.database_of g.D.ScriptDesk.entries g.L.Listener.hears
      c.args.self.now.listener c.args.keeping.speaks c.args.keeping.keeps (g.R.Read.remaining c.args.reader)
      (record { sessions = c.args.self.now.state.sessions; names = c.args.self.now.state.names }) c.lines.lines.number c.lines.lines.source.left
      (stage_of c.lines.self.state.sessions c.lines.self.state.names c.lines.self.listener) c.lines.kept
      (record { sessions = c.tell_end.new.self.state.sessions; names = c.tell_end.new.self.state.names }) c.tell_left.new.self.listener c.tell_left.result
      c.lines.invariant.so_far (search rules)
      (on-ok c.tell_left.result
      (λ left. end-heard g.L.Listener.hears c.lines.self.listener c.tell_end.new.self.listener c.tell_left.new.self.listener
      (record { sessions = c.tell_end.new.self.state.sessions; names = c.tell_end.new.self.state.names }) c.lines.kept c.in_ok-tell_end.ensures.heard left)
      c.tell_left.ensures.heard) c.tell_left.ensures.unheard;
}
