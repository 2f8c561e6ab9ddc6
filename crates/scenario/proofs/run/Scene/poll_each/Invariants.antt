use Rattle.std.proofs.Common.{◌≡◌, ◌≤◌, ◌<◌, ◌-◌, true, length}
use Rattle.scenario.proofs.Lemmas.Playing.{IsUnderWay}
use Rattle.scenario.proofs.run.Scene.poll_each.Given as goal

abbrev pub invariant-places : goal.invariant-places
invariant-places g l = record {
  no_more : length l.self.state.sessions.waiting ≤ length l.fn.self.state.sessions.waiting;
  fewer : l.went_on ≡ true → length l.self.state.sessions.waiting < length l.fn.self.state.sessions.waiting;
  names : l.self.state.names ≡ l.fn.self.state.names;
  pass : IsUnderWay g.B.Board.seat g.B.Board.view g.B.Board.stack g.L.Listener.hears (record { sessions = l.fn.self.state.sessions; names = l.fn.self.state.names }) l.fn.self.listener l.went_on l.place
      (record { sessions = l.self.state.sessions; names = l.self.state.names }) l.self.listener;
}

abbrev pub decreases-places : goal.decreases-places
decreases-places g l = length l.self.state.sessions.waiting - l.place
