use Rattle.lw_lock.specs.Since.{StaysSince}
use Rattle.lw_lock.proofs.acquires.acquire_held.Given as goal

abbrev pub invariant-loop : goal.invariant-loop
invariant-loop g l = StaysSince (g.L.Guarded.on_way l.fn.lock 1) l.fn.state l.state
