use Rattle.std.proofs.Common.{◌≡◌, length}
use Rattle.scenario.proofs.sessions.ScriptState.last_picture.Given as goal

abbrev pub invariant-waits : goal.invariant-waits
invariant-waits g l = record {
  names : l.self.names ≡ l.fn.self.names;
  as_many : length l.self.sessions.waiting ≡ length l.fn.self.sessions.waiting;
}
