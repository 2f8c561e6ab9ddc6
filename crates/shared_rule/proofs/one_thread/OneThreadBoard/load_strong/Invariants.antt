use Rattle.shared_rule.specs.Marks.{LoadedStrong}
use Rattle.shared_rule.proofs.one_thread.OneThreadBoard.load_strong.Given as goal

abbrev pub ghosts-load_strong : goal.ghosts-load_strong
ghosts-load_strong g a = record { mark = LoadedStrong a.index }
