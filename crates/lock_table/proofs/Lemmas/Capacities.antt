use Rattle.std.proofs.Common.{◌≡◌, ◌≤◌, sym, subst, arith}
use Rattle.lock_table.specs.Capacity.{Capacity, IsNotAbove}

-- Equal capacities, and one after another.

not_above-itself : (capacity : Capacity) → IsNotAbove capacity capacity
not_above-itself capacity = record { locks = omega arith; holders = omega arith; queues = omega arith; waits = omega arith; woken = omega arith; places = omega arith }

pub not_above-same : (old new : Capacity) → new ≡ old → IsNotAbove old new
not_above-same old new same = subst (IsNotAbove old) (sym same) (not_above-itself old)

pub not_above-then : (old mid new : Capacity) → IsNotAbove old mid → IsNotAbove mid new → IsNotAbove old new
not_above-then old mid new first then = record {
  locks = omega (arith, first.locks, then.locks);
  holders = omega (arith, first.holders, then.holders);
  queues = omega (arith, first.queues, then.queues);
  waits = omega (arith, first.waits, then.waits);
  woken = omega (arith, first.woken, then.woken);
  places = omega (arith, first.places, then.places);
}
