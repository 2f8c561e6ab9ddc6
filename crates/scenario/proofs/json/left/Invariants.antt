use Rattle.std.proofs.Common.{◌≡◌, map, take}
use Rattle.serde_json.specs.Data.{string}
use Rattle.serde_json.specs.View.{view}
use Rattle.scenario.proofs.json.left.Given as goal

abbrev pub invariant-names : goal.invariant-names
invariant-names l = map view l.names.items ≡ map (λ name. string name.bytes) (take l.name-index l.waiting)
