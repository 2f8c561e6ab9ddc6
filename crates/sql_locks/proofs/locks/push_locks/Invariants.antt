use Rattle.std.proofs.Common.{◌≡◌, ◌++◌, map, take}
use Rattle.sql_locks.proofs.locks.push_locks.Given as goal

abbrev pub invariant-loop-relation : goal.invariant-loop-relation
invariant-loop-relation l =
    l.locks.items ≡ l.fn.locks.items ++ map (λ x. record { relation = x; mode = l.mode }) (take l.relation-index l.reached.items)
