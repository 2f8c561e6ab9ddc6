use Rattle.std.specs.Prelude.{vec_len}
use Rattle.manager_tests.proofs.tests.lent.take_all_back.Given as goal

abbrev pub decreases-lent : goal.decreases-lent
decreases-lent g l = vec_len l.lent
