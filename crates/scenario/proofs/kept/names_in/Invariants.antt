use Rattle.std.proofs.Common.{◌≡◌, map, take}
use Rattle.scenario.proofs.kept.names_in.Given as goal

abbrev pub invariant-places : goal.invariant-places
invariant-places g l = l.names.items ≡ map (λ one. one.name) (take l.place l.sessions)
