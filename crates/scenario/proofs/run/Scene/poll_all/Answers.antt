use Rattle.std.proofs.Common.{Bool, subst}
use Rattle.scenario.specs.Played.{IsPassHeard}
use Rattle.scenario.proofs.Lemmas.Playing.{gone_on-more}
use Rattle.scenario.proofs.run.Scene.poll_all.Goals as goal

pub passes-preserved : goal.passes-preserved
passes-preserved g c = record {
  gone_on = gone_on-more g.B.Board.seat g.B.Board.view g.B.Board.stack g.L.Listener.hears (record { sessions = c.args.self.now.state.sessions; names = c.args.self.now.state.names }) (record { sessions = c.passes.self.state.sessions; names = c.passes.self.state.names }) (record { sessions = c.poll_each.new.self.state.sessions; names = c.poll_each.new.self.state.names }) c.args.self.now.listener c.passes.self.listener
      c.poll_each.new.self.listener c.passes.invariant.gone_on
      (subst (λ (went : Bool). IsPassHeard g.B.Board.seat g.B.Board.view g.B.Board.stack g.L.Listener.hears (record { sessions = c.passes.self.state.sessions; names = c.passes.self.state.names }) c.passes.self.listener went (record { sessions = c.poll_each.new.self.state.sessions; names = c.poll_each.new.self.state.names }) c.poll_each.new.self.listener)
      c.if-branch.true c.in_ok-poll_each.ensures.passed);
}
