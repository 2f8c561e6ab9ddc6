use Rattle.std.proofs.Common.{◌≡◌, take}
use Rattle.local_locks.specs.Slots.{opened, IsIndexed}
use Rattle.local_locks.proofs.slots.note_all.Given as goal

abbrev pub invariant-loop-place : goal.invariant-loop-place
invariant-loop-place l = record {
  indexed : IsIndexed (take l.place (opened l.slots)) l.index;
  room : l.index.places ≡ l.initial.index.places;
}
