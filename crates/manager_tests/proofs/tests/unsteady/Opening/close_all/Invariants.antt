use Rattle.std.specs.Prelude.{vec_len}
use Rattle.manager_tests.proofs.tests.unsteady.Opening.close_all.Given as goal

abbrev pub decreases-connections : goal.decreases-connections
decreases-connections g l = vec_len l.connections
