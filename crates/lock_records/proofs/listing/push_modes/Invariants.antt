use Rattle.lock_records.specs.Rows.{AppendsRows}
use Rattle.lock_records.proofs.Lemmas.Listings.{shown_under}
use Rattle.lock_records.proofs.listing.push_modes.Given as goal

abbrev pub invariant-loop-number : goal.invariant-loop-number
invariant-loop-number l = AppendsRows l.fn.rows.items l.rows.items (shown_under l.holder l.number)
