use Rattle.shared_rule.specs.Marks.{LoadedSleep}
use Rattle.shared_rule.proofs.lists.load_sleep.Given as goal

abbrev pub ghosts-load_as : goal.ghosts-load_as
ghosts-load_as g a = record { mark = LoadedSleep }
