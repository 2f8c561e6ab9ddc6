use Rattle.std.proofs.Common.{◌≡◌, ◌≤◌, ◌-◌, false, length, take}
use Rattle.lock_table.specs.Queue.{waits_there}
use Rattle.wait_queue.proofs.queues.wait_of.Given as goal

abbrev pub invariant-loop-waiter : goal.invariant-loop-waiter
invariant-loop-waiter g l =
    let queue = (g.P.PartTable.content l.part).waits l.tag in
    record {
      within : l.place ≤ length queue;
      passed : waits_there (take l.place queue) l.session ≡ false;
    }

abbrev pub decreases-loop-waiter : goal.decreases-loop-waiter
decreases-loop-waiter g l = length ((g.P.PartTable.content l.part).waits l.tag) - l.place
