use Rattle.std.proofs.Common.{length}
use Rattle.scenario.proofs.sessions.ScriptState.cancel_all.Given as goal

abbrev pub decreases-waits : goal.decreases-waits
decreases-waits g l = length l.self.sessions.waiting
