use Rattle.lw_word.specs.declared.words.LwMode.TheVariants.{Exclusive}
use Rattle.shared_rule.proofs.partitions.attempt_free_part.Given as goal

abbrev pub ghosts-look_at_lock : goal.ghosts-look_at_lock
ghosts-look_at_lock g a = record { mode = Exclusive }

abbrev pub ghosts-attempt_part : goal.ghosts-attempt_part
ghosts-attempt_part g a = record { sizes = a.words.now.key }
