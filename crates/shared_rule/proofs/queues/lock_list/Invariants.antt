use Rattle.shared_rule.specs.Acquires.{IsAsBefore}
use Rattle.shared_rule.proofs.queues.lock_list.Given as goal

abbrev pub invariant-loop : goal.invariant-loop
invariant-loop g l = IsAsBefore g.T.PartTable.content l.fn.seat l.seat

abbrev pub ghosts-try_lock_list : goal.ghosts-try_lock_list
ghosts-try_lock_list g a = record { sizes = a.words.now.key }
