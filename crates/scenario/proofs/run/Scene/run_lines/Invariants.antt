use Rattle.std.proofs.Common.{◌-◌}
use Rattle.scenario.proofs.Lemmas.Lines.{HavePlayed}
use Rattle.scenario.proofs.run.Scene.run_lines.Given as goal

abbrev pub invariant-lines : goal.invariant-lines
invariant-lines g l = record {
  so_far : HavePlayed g.B.Board.seat g.B.Board.view g.B.Board.stack g.D.ScriptDesk.again g.D.ScriptDesk.database_of g.D.ScriptDesk.entries g.L.Listener.hears (g.R.Read.remaining l.fn.reader)
      (record { sessions = l.fn.self.state.sessions; names = l.fn.self.state.names }) l.fn.self.listener l.lines.number l.lines.source.left
      (record { sessions = l.self.state.sessions; names = l.self.state.names }) l.self.listener;
}

abbrev pub decreases-lines : goal.decreases-lines
decreases-lines g l = 1000000 - l.lines.number
