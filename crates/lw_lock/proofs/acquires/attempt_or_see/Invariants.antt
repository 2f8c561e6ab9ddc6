use Rattle.std.proofs.Common.{ℕ}
use Rattle.lw_lock.specs.Since.{StaysSince}
use Rattle.lw_lock.proofs.acquires.attempt_or_see.Given as goal

abbrev pub invariant-loop : goal.invariant-loop
invariant-loop g l = (lost : ℕ) → StaysSince (g.L.Guarded.on_way l.fn.lock lost) l.fn.state l.state
