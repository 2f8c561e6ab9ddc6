use Rattle.std.specs.Prelude.{vec_len}
use Rattle.manager_tests.proofs.tests.servers.end_queue.Given as goal

abbrev pub decreases-waits : goal.decreases-waits
decreases-waits g l = vec_len l.waits
