use Rattle.std.proofs.Common.{◌≡◌, ◌≤◌, ◌-◌, length, take, map}
use Rattle.lock_table.specs.Waiter.{shown_wait}
use Rattle.wait_queue.proofs.queues.queue_of.Given as goal

abbrev pub invariant-loop-waiter : goal.invariant-loop-waiter
invariant-loop-waiter g l =
    let queue = (g.P.PartTable.content l.part).waits l.tag in
    record {
      within : length l.rows.items ≤ length queue;
      so_far : map shown_wait l.rows.items ≡ take (length l.rows.items) queue;
    }

abbrev pub decreases-loop-waiter : goal.decreases-loop-waiter
decreases-loop-waiter g l = length ((g.P.PartTable.content l.part).waits l.tag) - length l.rows.items
