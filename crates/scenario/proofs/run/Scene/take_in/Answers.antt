use Rattle.std.proofs.Common.{◌≡◌, inl, inr, ap, rules, Result, Err}
use Rattle.std.specs.Prelude.{IfErr}
use Rattle.lock_script.specs.declared.faults.Fault.{Fault}
use Rattle.scenario.specs.Heard.{Kept}
use Rattle.scenario.specs.InTurn.{FailsIn, FailsKept, FailsNow, IsBad}
use Rattle.scenario.specs.Scripts.{ScriptLine}
use Rattle.scenario.specs.Staged.{play_of, stage_of}
use Rattle.scenario.proofs.Lemmas.Failing.{bad-so, now-bad}
use Rattle.scenario.proofs.Lemmas.InTurn.{on-ok, takes-kept}
use Rattle.scenario.proofs.Lemmas.Lines.{of-error}
use Rattle.scenario.proofs.run.Scene.take_in.Goals as goal

pub returns-in-Some-clause-taken : goal.returns-in-Some-clause-taken
returns-in-Some-clause-taken g c =
    takes-kept (play_of g.B.Board.seat g.B.Board.view g.B.Board.stack g.D.ScriptDesk.again g.D.ScriptDesk.database_of g.D.ScriptDesk.entries g.L.Listener.hears)
    c.keep.result (stage_of c.args.self.now.state.sessions c.args.self.now.state.names c.args.self.now.listener) (stage_of c.keep.new.self.state.sessions c.keep.new.self.state.names c.keep.new.self.listener)
    c.args.kept.now c.keep.new.kept (record { number = c.args.line.number; text = c.args.line.text.now }) c.in-Some.session.bytes (search rules)
    (search rules) c.keep.ensures.kept

pub returns-in-Some-clause-bad : goal.returns-in-Some-clause-bad
returns-in-Some-clause-bad g c =
    bad-so
    (λ bad _ now. (bad ≡ record { number = c.args.line.number; text = c.args.line.text.now })
    × g.L.Listener.hears c.args.self.now.listener (Kept c.args.line.number c.args.line.text.now) now)
    (FailsIn (play_of g.B.Board.seat g.B.Board.view g.B.Board.stack g.D.ScriptDesk.again g.D.ScriptDesk.database_of g.D.ScriptDesk.entries g.L.Listener.hears)
    (stage_of c.args.self.now.state.sessions c.args.self.now.state.names c.args.self.now.listener) c.args.kept.now
    (record { number = c.args.line.number; text = c.args.line.text.now }))
    c.keep.new.self.listener (stage_of c.keep.new.self.state.sessions c.keep.new.self.state.names c.keep.new.self.listener) c.keep.result
    (λ bad what it. inl (
      c.in-Some.session.bytes,
      search rules,
      it.0,
      (it.1, ap (λ state. record { sessions = state.sessions; names = state.names }) c.keep.ensures.state),
    )) c.keep.ensures.bad

pub returns-in_err-run_line-in-None-clause-bad : goal.returns-in_err-run_line-in-None-clause-bad
returns-in_err-run_line-in-None-clause-bad g c =
    let play = play_of g.B.Board.seat g.B.Board.view g.B.Board.stack g.D.ScriptDesk.again g.D.ScriptDesk.database_of g.D.ScriptDesk.entries g.L.Listener.hears in
    let old = stage_of c.args.self.now.state.sessions c.args.self.now.state.names c.args.self.now.listener in
    let new = stage_of c.run_line.new.self.state.sessions c.run_line.new.self.state.names c.run_line.new.self.listener in
    let line : ScriptLine = record { number = c.args.line.number; text = c.args.line.text.now } in
    of-error (λ (ended : Result (Unit {0}) Fault). IfErr ended (IsBad (FailsIn play old c.args.kept.now line) new)) c.from_residual.result
    c.in_err-run_line-in-None.field-0.0 c.from_residual.ensures.1
    (bad-so (FailsNow play old c.args.kept.now line) (FailsIn play old c.args.kept.now line) new new (Err c.in_err-run_line-in-None.field-0.0)
    (λ bad what it. inr (search rules, it))
    (now-bad g.B.Board.seat g.B.Board.view g.B.Board.stack g.D.ScriptDesk.again g.D.ScriptDesk.database_of g.D.ScriptDesk.entries g.L.Listener.hears old new
    c.args.kept.now line c.in_err-run_line-in-None.field-0.0 c.in_err-run_line-in-None.ensures.bad))

pub returns-in_ok-run_line-in-None-clause-taken : goal.returns-in_ok-run_line-in-None-clause-taken
returns-in_ok-run_line-in-None-clause-taken g c =
    on-ok c.run_ready.result
    (λ ran. inr (
      search rules,
      (
        stage_of c.run_line.new.self.state.sessions c.run_line.new.self.state.names c.run_line.new.self.listener,
        c.in_ok-run_line-in-None.ensures.played,
        ran,
      ),
    )) c.run_ready.ensures.ran

pub returns-in_ok-run_line-in-None-clause-bad : goal.returns-in_ok-run_line-in-None-clause-bad
returns-in_ok-run_line-in-None-clause-bad g c =
    let play = play_of g.B.Board.seat g.B.Board.view g.B.Board.stack g.D.ScriptDesk.again g.D.ScriptDesk.database_of g.D.ScriptDesk.entries g.L.Listener.hears in
    let old = stage_of c.args.self.now.state.sessions c.args.self.now.state.names c.args.self.now.listener in
    let mid = stage_of c.run_line.new.self.state.sessions c.run_line.new.self.state.names c.run_line.new.self.listener in
    let new = stage_of c.run_ready.new.self.state.sessions c.run_ready.new.self.state.names c.run_ready.new.self.listener in
    let line : ScriptLine = record { number = c.args.line.number; text = c.args.line.text.now } in
    bad-so (FailsKept play mid c.args.kept.now) (FailsIn play old c.args.kept.now line) new new c.run_ready.result
    (λ bad what it. inr (search rules, inr (mid, c.in_ok-run_line-in-None.ensures.played, it))) c.run_ready.ensures.bad
