use Rattle.lw_word.specs.declared.words.LwMode.TheVariants.{Shared}
use Rattle.shared_rule.proofs.sharing.attempt_free_share.Given as goal

abbrev pub ghosts-look_at_lock : goal.ghosts-look_at_lock
ghosts-look_at_lock g a = record { mode = Shared }

abbrev pub ghosts-attempt_share : goal.ghosts-attempt_share
ghosts-attempt_share g a = record { sizes = a.words.now.key }
