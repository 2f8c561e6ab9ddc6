use Rattle.std.proofs.Common.{arith}
use Rattle.lock_records.proofs.counts.counts_of.Goals as goal

pub overflow_add-requested : goal.overflow_add-requested
overflow_add-requested c = omega (arith, c.by_mode-granted.ensures.few c.loop-number.number, c.by_mode-awaited.ensures.few c.loop-number.number)
