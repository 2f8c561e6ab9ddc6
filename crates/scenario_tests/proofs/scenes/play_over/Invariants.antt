use Rattle.scenario_tests.proofs.scenes.play_over.Given as goal

abbrev pub ghosts-play_in_turn : goal.ghosts-play_in_turn
ghosts-play_in_turn g a = record { manager = g.D.Desk.manager a.desk }
