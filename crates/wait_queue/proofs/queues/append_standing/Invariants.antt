use Rattle.std.proofs.Common.{◌≡◌, ◌++◌, take}
use Rattle.wait_queue.specs.Queues.{standing}
use Rattle.wait_queue.proofs.queues.append_standing.Given as goal

abbrev pub invariant-loop-at : goal.invariant-loop-at
invariant-loop-at g l = l.found.items ≡ l.fn.found.items ++ standing (take l.at ((g.P.PartTable.content l.part).waits l.tag)) l.mode
