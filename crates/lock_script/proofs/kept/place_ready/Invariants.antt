use Rattle.lock_script.proofs.Lemmas.Ready.{IsFirstOf}
use Rattle.lock_script.proofs.kept.place_ready.Given as goal

abbrev pub invariant-queues : goal.invariant-queues
invariant-queues g l = IsFirstOf l.fn.sessions.waiting l.queues l.place l.found
