use Rattle.std.specs.Prelude.{vec_len}
use Rattle.lock_example.proofs.rush.dismiss.Given as goal

abbrev pub decreases-connections : goal.decreases-connections
decreases-connections g l = vec_len l.connections
