use Rattle.std.proofs.Common.{take}
use Rattle.scenario.specs.InTurn.{NamesTables, tables_in}
use Rattle.scenario.specs.Staged.{play_of, stage_of}
use Rattle.scenario.proofs.run.Scene.name_tables.Given as goal

abbrev pub invariant-turns : goal.invariant-turns
invariant-turns g l = record {
  named : NamesTables (play_of g.B.Board.seat g.B.Board.view g.B.Board.stack g.D.ScriptDesk.again g.D.ScriptDesk.database_of g.D.ScriptDesk.entries g.L.Listener.hears)
      (stage_of l.fn.self.state.sessions l.fn.self.state.names l.fn.self.listener) l.fn.line.number (tables_in (take l.turn-index l.turn-items))
      (stage_of l.self.state.sessions l.self.state.names l.self.listener);
}
