use Rattle.manager_tests.proofs.tests.unsteady.play_with_pauses.Given as goal

abbrev pub ghosts-play_at : goal.ghosts-play_at
ghosts-play_at g a = record { manager = record { table = a.opener.table; limit = 0; groups = 0; max_local = 0 } }
