use Rattle.std.specs.Prelude.{◌≡◌, None}
use Rattle.floor_tests.proofs.records.rows.crowd.Given as goal

abbrev pub invariant-sessions : goal.invariant-sessions
invariant-sessions g l = l.part.begun ≡ None
