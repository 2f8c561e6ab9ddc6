use Rattle.shared_rule.proofs.wakeups.wake_waiters.Given as goal

abbrev pub ghosts-try_lock_list : goal.ghosts-try_lock_list
ghosts-try_lock_list g a = record { sizes = a.words.now.key }
