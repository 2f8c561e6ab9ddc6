use Rattle.lw_word.specs.declared.words.LwMode.TheVariants.{Exclusive}
use Rattle.shared_rule.proofs.locks.attempt_free_fast.Given as goal

abbrev pub ghosts-look_at_lock : goal.ghosts-look_at_lock
ghosts-look_at_lock g a = record { mode = Exclusive }

abbrev pub ghosts-attempt_fast : goal.ghosts-attempt_fast
ghosts-attempt_fast g a = record { sizes = a.words.now.key }
