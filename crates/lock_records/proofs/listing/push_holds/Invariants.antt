use Rattle.lock_records.specs.Rows.{AppendsRows, shown_below}
use Rattle.lock_records.proofs.listing.push_holds.Given as goal

abbrev pub invariant-loop-place : goal.invariant-loop-place
invariant-loop-place l = AppendsRows l.fn.rows.items l.rows.items (shown_below l.holders.slots l.place)
