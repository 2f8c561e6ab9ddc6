use Rattle.lock_manager.proofs.Lemmas.Sessions.Held.{IsHeldBelow}
use Rattle.lock_manager.proofs.held.modes_held.Given as goal

abbrev pub invariant-loop-number : goal.invariant-loop-number
invariant-loop-number l = IsHeldBelow l.locals.entries l.tag l.number l.held
