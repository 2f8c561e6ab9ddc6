use Rattle.std.proofs.Common.{◌≤◌, ◌-◌, take, length}
use Rattle.modes_core.specs.ModeSet.{set_has}
use Rattle.lock_table.specs.Walk.{StandFor, NoneAgainst}
use Rattle.lock_table.proofs.answering.walk.walk_until.Given as goal

abbrev pub invariant-loop-waiter : goal.invariant-loop-waiter
invariant-loop-waiter g l =
    let queue = (g.P.PartTable.content l.part).waits l.tag in
    record {
      within : l.place ≤ length queue;
      passed : NoneAgainst (set_has l.modes) (take l.place queue);
      ahead : StandFor (set_has l.ahead) (take l.place queue);
    }

abbrev pub decreases-loop-waiter : goal.decreases-loop-waiter
decreases-loop-waiter g l = length ((g.P.PartTable.content l.part).waits l.tag) - l.place
