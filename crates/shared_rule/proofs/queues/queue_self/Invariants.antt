use Rattle.shared_rule.specs.LwLocks.{lock_number}
use Rattle.shared_rule.specs.Marks.{SetHasWaiters, JoinedList}
use Rattle.shared_rule.proofs.queues.queue_self.Given as goal

abbrev pub ghosts-set_has_waiters : goal.ghosts-set_has_waiters
ghosts-set_has_waiters g a = record { mark = λ _. SetHasWaiters (lock_number a.lock.now) }

abbrev pub ghosts-join_list : goal.ghosts-join_list
ghosts-join_list g a = record { mark = λ _. JoinedList a.mode }
