use Rattle.lw_lock.specs.Since.{StaysSince}
use Rattle.lw_lock.proofs.acquires.attempt_again_or_see.Given as goal

abbrev pub invariant-loop : goal.invariant-loop
invariant-loop g l = StaysSince (g.L.Guarded.queued l.fn.lock) l.fn.state l.state
