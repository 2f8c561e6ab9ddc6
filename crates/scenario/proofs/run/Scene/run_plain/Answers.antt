use Rattle.std.proofs.Common.{inr, Result, Err}
use Rattle.std.specs.Prelude.{IfErr}
use Rattle.lock_script.specs.declared.faults.Fault.{Fault}
use Rattle.scenario.specs.InTurn.{FailsIn, FailsKept, FailsNow, FailsPlain, IsBad}
use Rattle.scenario.specs.Scripts.{ScriptLine}
use Rattle.scenario.specs.Staged.{play_of, stage_of}
use Rattle.scenario.proofs.Lemmas.Failing.{bad-so, now-bad}
use Rattle.scenario.proofs.Lemmas.InTurn.{match-false, match-true, on-ok}
use Rattle.scenario.proofs.Lemmas.Lines.{of-error}
use Rattle.scenario.proofs.run.Scene.run_plain.Goals as goal

pub returns-then-keeping-clause-done : goal.returns-then-keeping-clause-done
returns-then-keeping-clause-done g c =
    on-ok c.take_in.result (λ taken. match-true _ _ _ c.if-keeping.true taken) c.take_in.ensures.taken

pub returns-then-keeping-clause-bad : goal.returns-then-keeping-clause-bad
returns-then-keeping-clause-bad g c =
    let play = play_of g.B.Board.seat g.B.Board.view g.B.Board.stack g.D.ScriptDesk.again g.D.ScriptDesk.database_of g.D.ScriptDesk.entries g.L.Listener.hears in
    let old = stage_of c.args.self.now.state.sessions c.args.self.now.state.names c.args.self.now.listener in
    let new = stage_of c.take_in.new.self.state.sessions c.take_in.new.self.state.names c.take_in.new.self.listener in
    let line : ScriptLine = record { number = c.args.line.number; text = c.args.line.text.now } in
    bad-so (FailsIn play old c.args.kept.now line) (FailsPlain play c.args.keeping.keeps old c.args.kept.now line) new new c.take_in.result
    (λ bad what it. match-true _ _ _ c.if-keeping.true it) c.take_in.ensures.bad

pub returns-in_err-run_line-clause-bad : goal.returns-in_err-run_line-clause-bad
returns-in_err-run_line-clause-bad g c =
    let play = play_of g.B.Board.seat g.B.Board.view g.B.Board.stack g.D.ScriptDesk.again g.D.ScriptDesk.database_of g.D.ScriptDesk.entries g.L.Listener.hears in
    let old = stage_of c.args.self.now.state.sessions c.args.self.now.state.names c.args.self.now.listener in
    let new = stage_of c.run_line.new.self.state.sessions c.run_line.new.self.state.names c.run_line.new.self.listener in
    let line : ScriptLine = record { number = c.args.line.number; text = c.args.line.text.now } in
    of-error (λ (ended : Result (Unit {0}) Fault). IfErr ended (IsBad (FailsPlain play c.args.keeping.keeps old c.args.kept.now line) new)) c.from_residual.result
    c.in_err-run_line.field-0.0 c.from_residual.ensures.1
    (bad-so (FailsNow play old c.args.kept.now line) (FailsPlain play c.args.keeping.keeps old c.args.kept.now line) new new (Err c.in_err-run_line.field-0.0)
    (λ bad what it. match-false _ _ _ c.if-keeping.false it)
    (now-bad g.B.Board.seat g.B.Board.view g.B.Board.stack g.D.ScriptDesk.again g.D.ScriptDesk.database_of g.D.ScriptDesk.entries g.L.Listener.hears old new
    c.args.kept.now line c.in_err-run_line.field-0.0 c.in_err-run_line.ensures.bad))

pub returns-clause-done : goal.returns-clause-done
returns-clause-done g c =
    on-ok c.run_ready.result
    (λ ran. match-false _ _ _ c.if-keeping.false (
      (stage_of c.run_line.new.self.state.sessions c.run_line.new.self.state.names c.run_line.new.self.listener),
      c.in_ok-run_line.ensures.played,
      ran,
    )) c.run_ready.ensures.ran

pub returns-clause-bad : goal.returns-clause-bad
returns-clause-bad g c =
    let play = play_of g.B.Board.seat g.B.Board.view g.B.Board.stack g.D.ScriptDesk.again g.D.ScriptDesk.database_of g.D.ScriptDesk.entries g.L.Listener.hears in
    let old = stage_of c.args.self.now.state.sessions c.args.self.now.state.names c.args.self.now.listener in
    let mid = stage_of c.run_line.new.self.state.sessions c.run_line.new.self.state.names c.run_line.new.self.listener in
    let new = stage_of c.run_ready.new.self.state.sessions c.run_ready.new.self.state.names c.run_ready.new.self.listener in
    let line : ScriptLine = record { number = c.args.line.number; text = c.args.line.text.now } in
    bad-so (FailsKept play mid c.args.kept.now) (FailsPlain play c.args.keeping.keeps old c.args.kept.now line) new new c.run_ready.result
    (λ bad what it. match-false _ _ _ c.if-keeping.false (inr (mid, c.in_ok-run_line.ensures.played, it))) c.run_ready.ensures.bad
