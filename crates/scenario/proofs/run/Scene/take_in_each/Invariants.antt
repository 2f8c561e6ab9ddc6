use Rattle.std.proofs.Common.{map, string_bytes, take}
use Rattle.scenario.specs.InTurn.{TakesInEach, lines_at}
use Rattle.scenario.specs.Staged.{play_of, stage_of}
use Rattle.scenario.proofs.run.Scene.take_in_each.Given as goal

abbrev pub invariant-texts : goal.invariant-texts
invariant-texts g l = record {
  taken : TakesInEach (play_of g.B.Board.seat g.B.Board.view g.B.Board.stack g.D.ScriptDesk.again g.D.ScriptDesk.database_of g.D.ScriptDesk.entries g.L.Listener.hears)
      (stage_of l.fn.self.state.sessions l.fn.self.state.names l.fn.self.listener) l.fn.kept (lines_at l.fn.line.number (map string_bytes (take l.text-index l.text-items)))
      (stage_of l.self.state.sessions l.self.state.names l.self.listener) l.kept;
}
