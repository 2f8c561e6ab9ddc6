use Rattle.std.proofs.Common.{◌≡◌, ◌++◌}
use Rattle.wait_queue.specs.Queues.{holding_of, lists_below}
use Rattle.wait_queue.proofs.queues.append_holding.Given as goal

abbrev pub invariant-loop-number : goal.invariant-loop-number
invariant-loop-number g l =
    l.found.items ≡ l.fn.found.items ++ lists_below l.number (holding_of (g.P.PartTable.content l.part) l.tag l.session l.mode)
