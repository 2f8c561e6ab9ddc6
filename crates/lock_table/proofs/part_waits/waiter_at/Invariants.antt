use Rattle.std.proofs.Common.{◌≡◌, ◌+◌, length, take}
use Rattle.lock_table.specs.PartWaits.{queues_in}
use Rattle.lock_table.proofs.part_waits.waiter_at.Given as goal

abbrev pub invariant-loop-wait : goal.invariant-loop-wait
invariant-loop-wait l = l.before + length (queues_in (take l.wait-index l.waits) l.tag) ≡ l.place
