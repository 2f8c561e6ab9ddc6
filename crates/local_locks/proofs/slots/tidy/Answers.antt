use Rattle.std.proofs.Common.{arith}
use Rattle.local_locks.specs.Slots.{opened}
use Rattle.local_locks.proofs.Lemmas.Slots.{length-present-le}
use Rattle.local_locks.proofs.Lemmas.OpenSlots.{length-opened}
use Rattle.local_locks.proofs.slots.tidy.Goals as goal

pub returns-then-len-clause-shorter : goal.returns-then-len-clause-shorter
returns-then-len-clause-shorter c = omega (arith, c.compact.ensures.full, length-present-le (opened c.args.slots.now.items), length-opened c.args.slots.now.items)
