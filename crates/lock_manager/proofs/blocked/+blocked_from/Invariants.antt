use Rattle.std.proofs.Common.{◌-◌}
use Rattle.lock_manager.proofs.blocked.+blocked_from.Given as goal

abbrev pub decreases-blocked_from : goal.decreases-blocked_from
decreases-blocked_from g l = 16 - l.part
