use Rattle.std.specs.Prelude.{◌≡◌, None}
use Rattle.floor_tests.proofs.records.rows.hold_all.Given as goal

abbrev pub invariant-objects : goal.invariant-objects
invariant-objects g l = l.part.begun ≡ None
