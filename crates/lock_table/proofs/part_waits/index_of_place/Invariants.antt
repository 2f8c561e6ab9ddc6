use Rattle.std.proofs.Common.{◌≡◌, ◌+◌, length, take}
use Rattle.lock_table.specs.PartWaits.{queues_in}
use Rattle.lock_table.proofs.part_waits.index_of_place.Given as goal

abbrev pub invariant-loop-index : goal.invariant-loop-index
invariant-loop-index l = l.before + length (queues_in (take l.index l.waits) l.tag) ≡ l.place
