use Rattle.std.proofs.Common.{◌≡◌, take}
use Rattle.std.specs.List.{flat_map}
use Rattle.sql_locks.specs.Reach.{hopped}
use Rattle.sql_locks.proofs.locks.hop_all.Given as goal

abbrev pub invariant-loop-number : goal.invariant-loop-number
invariant-loop-number l = l.reached.items ≡ flat_map (hopped l.links l.hop) (take l.number-index l.found.items)
