use Rattle.std.proofs.Common.{◌≡◌, length}
use Rattle.std.specs.Prelude.{find}
use Rattle.lock_manager.specs.Advisory.{is_owned_advisory}
use Rattle.lock_manager.proofs.unlock_all.first_advisory.Given as goal

abbrev pub invariant-looks : goal.invariant-looks
invariant-looks l = find is_owned_advisory l.left ≡ find is_owned_advisory l.fn.locals.entries

abbrev pub decreases-looks : goal.decreases-looks
decreases-looks l = length l.left
