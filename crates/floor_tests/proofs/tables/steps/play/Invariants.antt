use Rattle.std.specs.Prelude.{◌≡◌, None}
use Rattle.floor_tests.proofs.tables.steps.play.Given as goal

abbrev pub invariant-steps : goal.invariant-steps
invariant-steps g l = g.P.PartTable.begun l.part ≡ None
