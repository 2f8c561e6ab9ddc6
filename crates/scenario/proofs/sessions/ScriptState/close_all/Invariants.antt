use Rattle.std.proofs.Common.{◌≡◌, [], length}
use Rattle.scenario.proofs.sessions.ScriptState.close_all.Given as goal

abbrev pub invariant-sessions : goal.invariant-sessions
invariant-sessions g l = record {
  none_waits : l.self.sessions.waiting ≡ [];
}

abbrev pub decreases-sessions : goal.decreases-sessions
decreases-sessions g l = length l.self.sessions.resting
