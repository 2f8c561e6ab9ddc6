use Rattle.refused_memory.proofs.telling.+with_waiters.Given as goal

abbrev pub decreases-with_waiters : goal.decreases-with_waiters
decreases-with_waiters g l = l.waiters
