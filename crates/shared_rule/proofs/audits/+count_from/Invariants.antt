use Rattle.std.proofs.Common.{◌-◌}
use Rattle.shared_rule.proofs.audits.+count_from.Given as goal

abbrev pub decreases-count_from : goal.decreases-count_from
decreases-count_from g l = 16 - l.part
