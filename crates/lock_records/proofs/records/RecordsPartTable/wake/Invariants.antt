use Rattle.std.proofs.Common.{◌≡◌, ◌-◌, ◌+◌, ◌≤◌, List, length}
use Rattle.modes_core.specs.ModeSet.{set_has}
use Rattle.lock_table.specs.Content.{Wait}
use Rattle.lock_table.specs.Capacity.{IsNotAbove}
use Rattle.lock_records.specs.Queues.{queue_on, waiting_in}
use Rattle.lock_table.specs.Walk.{StandFor}
use Rattle.lock_records.specs.View.{content_of}
use Rattle.lock_records.proofs.Lemmas.Wakings.{WakingTo}
use Rattle.lock_records.proofs.records.RecordsPartTable.wake.Given as goal

abbrev pub invariant-loop-waiter : goal.invariant-loop-waiter
invariant-loop-waiter l =
    (done : List Wait) × (todo : List Wait) × WakingTo (content_of l.fn.self) l.tag (content_of l.self) done todo l.self.woken
    × (length done ≡ l.place) × StandFor (set_has l.ahead) done × (l.self.begun ≡ l.fn.self.begun)
    × (length l.self.woken + waiting_in l.self.queues ≤ l.self.capacity.woken) × IsNotAbove l.fn.self.capacity l.self.capacity

abbrev pub decreases-loop-waiter : goal.decreases-loop-waiter
decreases-loop-waiter l = length (queue_on l.self.queues l.tag) - l.place
