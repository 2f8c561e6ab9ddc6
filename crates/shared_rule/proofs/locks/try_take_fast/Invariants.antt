use Rattle.shared_rule.specs.Marks.{LoadedFast}
use Rattle.shared_rule.proofs.locks.try_take_fast.Given as goal

abbrev pub ghosts-load_fast : goal.ghosts-load_fast
ghosts-load_fast g a = record { mark = LoadedFast }

abbrev pub ghosts-take_own_fast : goal.ghosts-take_own_fast
ghosts-take_own_fast g a = record { sizes = a.words.now.key }
