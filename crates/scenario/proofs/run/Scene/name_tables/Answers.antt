use Rattle.scenario.specs.Staged.{play_of, stage_of}
use Rattle.scenario.proofs.Lemmas.InTurn.{names-turn}
use Rattle.scenario.proofs.run.Scene.name_tables.Goals as goal

pub turns-preserved : goal.turns-preserved
turns-preserved g c = record {
  named = names-turn (play_of g.B.Board.seat g.B.Board.view g.B.Board.stack g.D.ScriptDesk.again g.D.ScriptDesk.database_of g.D.ScriptDesk.entries g.L.Listener.hears)
      (stage_of c.args.self.now.state.sessions c.args.self.now.state.names c.args.self.now.listener)
      (stage_of c.turns.self.state.sessions c.turns.self.state.names c.turns.self.listener)
      (stage_of c.name_each.new.self.state.sessions c.name_each.new.self.state.names c.name_each.new.self.listener)
      c.args.line.number c.deref-turn-items.result.now c.turns.turn-index c.turn-item.result c.turns-test.true c.turn-item.is
      c.turns.invariant.named c.in_ok-name_each.ensures.named;
}
