use Rattle.scenario.specs.Staged.{play_of, stage_of}
use Rattle.scenario.proofs.Lemmas.InTurn.{names-item}
use Rattle.scenario.proofs.run.Scene.name_each.Goals as goal

pub tables-preserved : goal.tables-preserved
tables-preserved g c = record {
  named = names-item (play_of g.B.Board.seat g.B.Board.view g.B.Board.stack g.D.ScriptDesk.again g.D.ScriptDesk.database_of g.D.ScriptDesk.entries g.L.Listener.hears)
      (stage_of c.args.self.now.state.sessions c.args.self.now.state.names c.args.self.now.listener)
      (stage_of c.tables.self.state.sessions c.tables.self.state.names c.tables.self.listener)
      (stage_of c.name_table.new.self.state.sessions c.name_table.new.self.state.names c.name_table.new.self.listener)
      c.args.line.number c.deref-table-items.result.now c.tables.table-index c.table-item.result c.tables-test.true c.table-item.is
      c.tables.invariant.named c.in_ok-name_table.ensures.named;
}
