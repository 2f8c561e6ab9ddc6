use Rattle.local_locks.proofs.Lemmas.OpenSlots.{Settled}
use Rattle.local_locks.proofs.slots.settle.Given as goal

abbrev pub invariant-loop-place : goal.invariant-loop-place
invariant-loop-place l = Settled l.end l.initial.slots l.slots l.place
