use Rattle.std.proofs.Common.{take}
use Rattle.scenario.specs.InTurn.{NamesTables}
use Rattle.scenario.specs.Staged.{play_of, stage_of}
use Rattle.scenario.proofs.run.Scene.name_each.Given as goal

abbrev pub invariant-tables : goal.invariant-tables
invariant-tables g l = record {
  named : NamesTables (play_of g.B.Board.seat g.B.Board.view g.B.Board.stack g.D.ScriptDesk.again g.D.ScriptDesk.database_of g.D.ScriptDesk.entries g.L.Listener.hears)
      (stage_of l.fn.self.state.sessions l.fn.self.state.names l.fn.self.listener) l.fn.line.number (take l.table-index l.table-items)
      (stage_of l.self.state.sessions l.self.state.names l.self.listener);
}
