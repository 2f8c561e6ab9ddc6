use Rattle.std.specs.Prelude.{◌≡◌, None}
use Rattle.floor_tests.proofs.records.keepers.call_in_turn.Given as goal

abbrev pub invariant-calls : goal.invariant-calls
invariant-calls g l = (l.plain.begun ≡ None) × (l.records.begun ≡ None)
