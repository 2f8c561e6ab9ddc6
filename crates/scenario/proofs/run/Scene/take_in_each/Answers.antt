use Rattle.std.proofs.Common.{string_bytes}
use Rattle.scenario.specs.Staged.{play_of, stage_of}
use Rattle.scenario.proofs.Lemmas.InTurn.{takes-item}
use Rattle.scenario.proofs.run.Scene.take_in_each.Goals as goal

pub texts-preserved : goal.texts-preserved
texts-preserved g c = record {
  taken = takes-item (play_of g.B.Board.seat g.B.Board.view g.B.Board.stack g.D.ScriptDesk.again g.D.ScriptDesk.database_of g.D.ScriptDesk.entries g.L.Listener.hears)
      (stage_of c.args.self.now.state.sessions c.args.self.now.state.names c.args.self.now.listener)
      (stage_of c.texts.self.state.sessions c.texts.self.state.names c.texts.self.listener)
      (stage_of c.take_in.new.self.state.sessions c.take_in.new.self.state.names c.take_in.new.self.listener)
      c.args.kept.now c.texts.kept c.take_in.new.kept c.args.line.number string_bytes c.deref-text-items.result.now c.texts.text-index
      c.text-item.result c.as_str.result.now c.texts-test.true c.text-item.is c.as_str.ensures.value c.texts.invariant.taken c.in_ok-take_in.ensures.taken;
}
