use Rattle.std.proofs.Common.{◌≡◌, ◌≤◌, ◌==◌, false, length, drop}
use Rattle.std.specs.List.{list_any}
use Rattle.lock_records.proofs.wait_queues.place_of.Given as goal

abbrev pub invariant-loop-left : goal.invariant-loop-left
invariant-loop-left l =
    record {
      within : l.left ≤ length l.waiters;
      none_behind : list_any (λ waiter. waiter.session == l.session) (drop l.left l.waiters) ≡ false;
    }

abbrev pub decreases-loop-left : goal.decreases-loop-left
decreases-loop-left l = l.left
