use Rattle.std.proofs.Common.{rules, Result}
use Rattle.std.specs.Prelude.{IfErr}
use Rattle.lock_script.specs.declared.faults.Fault.{Fault}
use Rattle.scenario.specs.InTurn.{FailsKept, IsBad, said_by}
use Rattle.scenario.specs.Staged.{play_of, stage_of}
use Rattle.scenario.proofs.Lemmas.Failing.{kept-bad}
use Rattle.scenario.proofs.Lemmas.InTurn.{have-run-more, is-next, runs-all}
use Rattle.scenario.proofs.Lemmas.Lines.{of-error}
use Rattle.scenario.proofs.run.Scene.run_ready.Goals as goal

pub ready-preserved : goal.ready-preserved
ready-preserved g c = record {
  ran = have-run-more (play_of g.B.Board.seat g.B.Board.view g.B.Board.stack g.D.ScriptDesk.again g.D.ScriptDesk.database_of g.D.ScriptDesk.entries g.L.Listener.hears)
      (stage_of c.args.self.now.state.sessions c.args.self.now.state.names c.args.self.now.listener) (stage_of c.ready.self.state.sessions c.ready.self.state.names c.ready.self.listener)
      (stage_of c.run_line.new.self.state.sessions c.run_line.new.self.state.names c.run_line.new.self.listener) c.args.kept.now c.ready.kept c.take_ready.new.self c.in-Some.field-0-0.bytes (said_by c.in-Some.line)
      c.ready.invariant.ran
      (is-next c.ready.self.state.sessions.waiting c.ready.kept c.take_ready.new.self c.in-Some.field-0-0.bytes c.in-Some.line c.in-Some.ensures.rests
      c.in-Some.ensures.lowest c.in-Some.ensures.order)
      (rw c.as_str.ensures.value at c.in_ok-run_line.ensures.played);
}

pub returns-clause-ran : goal.returns-clause-ran
returns-clause-ran g c =
    runs-all (play_of g.B.Board.seat g.B.Board.view g.B.Board.stack g.D.ScriptDesk.again g.D.ScriptDesk.database_of g.D.ScriptDesk.entries g.L.Listener.hears)
    (stage_of c.args.self.now.state.sessions c.args.self.now.state.names c.args.self.now.listener) (stage_of c.ready.self.state.sessions c.ready.self.state.names c.ready.self.listener)
    c.args.kept.now c.ready.kept c.take_ready.new.self c.ready.invariant.ran (search rules) (search rules)

pub returns-in_err-run_line-clause-bad : goal.returns-in_err-run_line-clause-bad
returns-in_err-run_line-clause-bad g c =
    let play = play_of g.B.Board.seat g.B.Board.view g.B.Board.stack g.D.ScriptDesk.again g.D.ScriptDesk.database_of g.D.ScriptDesk.entries g.L.Listener.hears in
    let old = stage_of c.args.self.now.state.sessions c.args.self.now.state.names c.args.self.now.listener in
    let mid = stage_of c.ready.self.state.sessions c.ready.self.state.names c.ready.self.listener in
    let new = stage_of c.run_line.new.self.state.sessions c.run_line.new.self.state.names c.run_line.new.self.listener in
    of-error (λ (ended : Result (Unit {0}) Fault). IfErr ended (IsBad (FailsKept play old c.args.kept.now) new)) c.from_residual.result
    c.in_err-run_line.field-0.0 c.from_residual.ensures.1
    (kept-bad g.B.Board.seat g.B.Board.view g.B.Board.stack g.D.ScriptDesk.again g.D.ScriptDesk.database_of g.D.ScriptDesk.entries g.L.Listener.hears old mid new
    c.args.kept.now c.ready.kept c.take_ready.new.self c.in-Some.field-0-0.bytes (said_by c.in-Some.line) c.in_err-run_line.field-0.0 c.ready.invariant.ran
    (is-next c.ready.self.state.sessions.waiting c.ready.kept c.take_ready.new.self c.in-Some.field-0-0.bytes c.in-Some.line c.in-Some.ensures.rests
    c.in-Some.ensures.lowest c.in-Some.ensures.order)
    (rw c.as_str.ensures.value at c.in_err-run_line.ensures.bad))
