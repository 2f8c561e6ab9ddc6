use Rattle.std.proofs.Common.{length}
use Rattle.scenario.proofs.Lemmas.Playing.{HaveGoneOn}
use Rattle.scenario.proofs.run.Scene.poll_all.Given as goal

abbrev pub invariant-passes : goal.invariant-passes
invariant-passes g l = record {
  gone_on : HaveGoneOn g.B.Board.seat g.B.Board.view g.B.Board.stack g.L.Listener.hears (record { sessions = l.fn.self.state.sessions; names = l.fn.self.state.names }) l.fn.self.listener
      (record { sessions = l.self.state.sessions; names = l.self.state.names }) l.self.listener;
}

abbrev pub decreases-passes : goal.decreases-passes
decreases-passes g l = length l.self.state.sessions.waiting
