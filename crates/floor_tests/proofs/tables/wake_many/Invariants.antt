use Rattle.std.specs.Prelude.{◌≡◌, None}
use Rattle.floor_tests.proofs.tables.wake_many.Given as goal

abbrev pub invariant-waits : goal.invariant-waits
invariant-waits g l = g.P.PartTable.begun l.part ≡ None
