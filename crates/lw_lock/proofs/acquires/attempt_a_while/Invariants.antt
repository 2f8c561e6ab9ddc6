use Rattle.std.proofs.Common.{◌+◌}
use Rattle.lw_lock.specs.Since.{TurnsInto}
use Rattle.lw_lock.proofs.acquires.attempt_a_while.Given as goal

abbrev pub invariant-loop-attempt : goal.invariant-loop-attempt
invariant-loop-attempt g l =
    TurnsInto (g.L.Guarded.on_way l.fn.lock 1) (g.L.Guarded.on_way l.fn.lock (l.attempt + 1)) l.fn.state l.state
