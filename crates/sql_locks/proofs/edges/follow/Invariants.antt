use Rattle.std.proofs.Common.{take}
use Rattle.sql_locks.specs.Follow.{IsFollowed}
use Rattle.sql_locks.proofs.edges.follow.Given as goal

abbrev pub invariant-loop-edge : goal.invariant-loop-edge
invariant-loop-edge l = IsFollowed l.fn.found.items (take l.edge-index l.edges.items) l.found.items l.rest.items
