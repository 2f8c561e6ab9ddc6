use Rattle.std.proofs.Common.{take}
use Rattle.lock_records.specs.Rows.{AppendsRows, awaited_in}
use Rattle.lock_records.proofs.listing.push_waits.Given as goal

abbrev pub invariant-loop-waiter : goal.invariant-loop-waiter
invariant-loop-waiter l = AppendsRows l.fn.rows.items l.rows.items (awaited_in l.tag (take l.waiter-index l.waiters))
