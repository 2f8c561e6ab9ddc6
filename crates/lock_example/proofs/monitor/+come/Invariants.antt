use Rattle.std.proofs.Common.{length}
use Rattle.lock_example.proofs.monitor.+come.Given as goal

abbrev pub decreases-come : goal.decreases-come
decreases-come g l = length l.modes.now
