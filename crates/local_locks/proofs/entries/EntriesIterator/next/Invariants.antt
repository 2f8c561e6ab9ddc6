use Rattle.std.proofs.Common.{◌≡◌, length}
use Rattle.local_locks.specs.Slots.{opened, present}
use Rattle.local_locks.proofs.entries.EntriesIterator.next.Given as goal

abbrev pub invariant-loop-first : goal.invariant-loop-first
invariant-loop-first l = present (opened l.self-inside.slots.now) ≡ present (opened l.initial.self-inside.slots.now)

abbrev pub decreases-loop-first : goal.decreases-loop-first
decreases-loop-first l = length l.self-inside.slots.now
