use Rattle.lock_script.specs.Kept.{kept_count}
use Rattle.scenario.specs.Staged.{play_of, stage_of}
use Rattle.scenario.proofs.Lemmas.InTurn.{HaveRun}
use Rattle.scenario.proofs.run.Scene.run_ready.Given as goal

abbrev pub invariant-ready : goal.invariant-ready
invariant-ready g l = record {
  ran : HaveRun (play_of g.B.Board.seat g.B.Board.view g.B.Board.stack g.D.ScriptDesk.again g.D.ScriptDesk.database_of g.D.ScriptDesk.entries g.L.Listener.hears)
      (stage_of l.fn.self.state.sessions l.fn.self.state.names l.fn.self.listener) l.fn.kept
      (stage_of l.self.state.sessions l.self.state.names l.self.listener) l.kept;
}

abbrev pub decreases-ready : goal.decreases-ready
decreases-ready g l = kept_count l.kept
