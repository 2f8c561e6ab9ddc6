use Rattle.scenario_program.proofs.Lemmas.Typing.{HaveTyped}
use Rattle.scenario_program.proofs.shell.converse.Given as goal

abbrev pub invariant-lines : goal.invariant-lines
invariant-lines g l = record {
  so_far : HaveTyped g.B.Board.seat g.B.Board.view g.B.Board.stack g.D.ScriptDesk.again g.D.ScriptDesk.database_of g.D.ScriptDesk.entries l.fn.shell.is_terminal g.L.Listener.hears (g.R.Read.remaining l.fn.reader)
      (record { sessions = l.fn.scene.state.sessions; names = l.fn.scene.state.names }) l.fn.scene.listener l.lines.number l.lines.source.left
      (record { sessions = l.scene.state.sessions; names = l.scene.state.names }) l.scene.listener;
}
