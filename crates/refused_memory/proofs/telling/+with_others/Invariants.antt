use Rattle.std.proofs.Common.{◌-◌}
use Rattle.refused_memory.proofs.telling.+with_others.Given as goal

abbrev pub decreases-with_others : goal.decreases-with_others
decreases-with_others g l = 3 - l.place
