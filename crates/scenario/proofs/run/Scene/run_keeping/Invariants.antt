use Rattle.std.proofs.Common.{◌≡◌, ◌-◌, false, None}
use Rattle.scenario.specs.Staged.{play_of, stage_of}
use Rattle.scenario.proofs.Lemmas.InTurn.{HaveDone}
use Rattle.scenario.proofs.run.Scene.run_keeping.Given as goal

abbrev pub invariant-lines : goal.invariant-lines
invariant-lines g l = record {
  silent : l.fn.keeping.speaks ≡ false → l.script.script ≡ None;
  so_far : HaveDone (play_of g.B.Board.seat g.B.Board.view g.B.Board.stack g.D.ScriptDesk.again g.D.ScriptDesk.database_of g.D.ScriptDesk.entries g.L.Listener.hears) l.fn.keeping.speaks l.fn.keeping.keeps (g.R.Read.remaining l.fn.reader)
      (stage_of l.fn.self.state.sessions l.fn.self.state.names l.fn.self.listener) l.lines.number l.lines.source.left
      (stage_of l.self.state.sessions l.self.state.names l.self.listener) l.kept;
}

abbrev pub decreases-lines : goal.decreases-lines
decreases-lines g l = 1000000 - l.lines.number
