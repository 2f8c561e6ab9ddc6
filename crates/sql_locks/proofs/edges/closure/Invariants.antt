use Rattle.std.proofs.Common.{length}
use Rattle.sql_locks.specs.Reach.{edges_of}
use Rattle.sql_locks.proofs.Lemmas.Follow.{IsUnderWay}
use Rattle.sql_locks.proofs.edges.closure.Given as goal

abbrev pub invariant-steps : goal.invariant-steps
invariant-steps l = IsUnderWay (edges_of l.fn.along l.links) l.start l.found.items l.rest.items

abbrev pub decreases-steps : goal.decreases-steps
decreases-steps l = length l.rest.items
