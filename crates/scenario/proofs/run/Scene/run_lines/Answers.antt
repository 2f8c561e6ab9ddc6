use Rattle.std.proofs.Common.{Result, rules}
use Rattle.lock_script.specs.declared.faults.Fault.{Fault}
use Rattle.scenario.specs.Scripts.{IsScriptHeard}
use Rattle.scenario.proofs.Lemmas.Lines.{ends-badly, ends-unread, ends-well, have-more, of-error}
use Rattle.scenario.proofs.run.Scene.run_lines.Goals as goal

pub returns-in_err-line : goal.returns-in_err-line
returns-in_err-line g c = record {
  played =
      of-error (λ (ended : Result (Unit {0}) Fault). IsScriptHeard g.B.Board.seat g.B.Board.view g.B.Board.stack g.D.ScriptDesk.again g.D.ScriptDesk.database_of g.D.ScriptDesk.entries g.L.Listener.hears (g.R.Read.remaining c.args.reader) (record { sessions = c.args.self.now.state.sessions; names = c.args.self.now.state.names }) c.args.self.now.listener ended c.lines.self.listener)
      c.from_residual.result c.in_err-line.field-0.0 c.from_residual.ensures.1
      (ends-unread g.B.Board.seat g.B.Board.view g.B.Board.stack g.D.ScriptDesk.again g.D.ScriptDesk.database_of g.D.ScriptDesk.entries g.L.Listener.hears (g.R.Read.remaining c.args.reader) (record { sessions = c.args.self.now.state.sessions; names = c.args.self.now.state.names }) c.args.self.now.listener c.lines.lines.number c.lines.lines.source.left
      (record { sessions = c.lines.self.state.sessions; names = c.lines.self.state.names }) c.lines.self.listener c.in_err-line.field-0.0 c.lines.invariant.so_far c.in_err-line.ensures.reads);
}

pub lines-preserved : goal.lines-preserved
lines-preserved g c = record {
  so_far = have-more g.B.Board.seat g.B.Board.view g.B.Board.stack g.D.ScriptDesk.again g.D.ScriptDesk.database_of g.D.ScriptDesk.entries g.L.Listener.hears (g.R.Read.remaining c.args.reader) (record { sessions = c.args.self.now.state.sessions; names = c.args.self.now.state.names }) c.args.self.now.listener c.lines.lines.number c.next_line.new.self.number
      c.lines.lines.source.left c.next_line.new.self.source.left (record { sessions = c.lines.self.state.sessions; names = c.lines.self.state.names }) (record { sessions = c.run_line.new.self.state.sessions; names = c.run_line.new.self.state.names }) c.lines.self.listener c.run_line.new.self.listener c.in-Some.line
      c.lines.invariant.so_far (rw c.in-Some.is at c.in_ok-line.ensures.reads) c.in_ok-line.ensures.rest (rw c.in-Some.is at c.in_ok-line.ensures.number)
      (rw c.as_str.ensures at c.in_ok-run_line.ensures.played);
}

pub returns-in_err-run_line : goal.returns-in_err-run_line
returns-in_err-run_line g c = record {
  played =
      of-error (λ (ended : Result (Unit {0}) Fault). IsScriptHeard g.B.Board.seat g.B.Board.view g.B.Board.stack g.D.ScriptDesk.again g.D.ScriptDesk.database_of g.D.ScriptDesk.entries g.L.Listener.hears (g.R.Read.remaining c.args.reader) (record { sessions = c.args.self.now.state.sessions; names = c.args.self.now.state.names }) c.args.self.now.listener ended c.run_line.new.self.listener)
      c.from_residual-in_err-run_line.result c.in_err-run_line.field-0.0 c.from_residual-in_err-run_line.ensures.1
      (ends-badly g.B.Board.seat g.B.Board.view g.B.Board.stack g.D.ScriptDesk.again g.D.ScriptDesk.database_of g.D.ScriptDesk.entries g.L.Listener.hears (g.R.Read.remaining c.args.reader) (record { sessions = c.args.self.now.state.sessions; names = c.args.self.now.state.names }) c.args.self.now.listener c.lines.lines.number c.next_line.new.self.number
      c.lines.lines.source.left (record { sessions = c.lines.self.state.sessions; names = c.lines.self.state.names }) (record { sessions = c.run_line.new.self.state.sessions; names = c.run_line.new.self.state.names }) c.lines.self.listener c.run_line.new.self.listener c.in-Some.line c.in_err-run_line.field-0.0
      c.lines.invariant.so_far (rw c.in-Some.is at c.in_ok-line.ensures.reads) (rw c.in-Some.is at c.in_ok-line.ensures.number)
      (rw c.as_str.ensures at c.in_err-run_line.ensures.bad));
}

pub returns : goal.returns
returns g c = record {
  played =
      ends-well g.B.Board.seat g.B.Board.view g.B.Board.stack g.D.ScriptDesk.again g.D.ScriptDesk.database_of g.D.ScriptDesk.entries g.L.Listener.hears (g.R.Read.remaining c.args.reader) (record { sessions = c.args.self.now.state.sessions; names = c.args.self.now.state.names }) c.args.self.now.listener c.lines.lines.number c.lines.lines.source.left
      (record { sessions = c.lines.self.state.sessions; names = c.lines.self.state.names }) c.lines.self.listener c.tell_end.new.self.listener c.tell_end.result c.lines.invariant.so_far
      (search rules) c.tell_end.ensures.heard c.tell_end.ensures.unheard;
}
