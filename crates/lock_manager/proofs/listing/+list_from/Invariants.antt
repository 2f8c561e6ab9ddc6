use Rattle.std.proofs.Common.{◌-◌}
use Rattle.lock_manager.proofs.listing.+list_from.Given as goal

abbrev pub decreases-list_from : goal.decreases-list_from
decreases-list_from g l = 16 - l.part
