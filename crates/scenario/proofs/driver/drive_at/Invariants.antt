use Rattle.scenario.proofs.driver.drive_at.Given as goal

abbrev pub ghosts-drive_once : goal.ghosts-drive_once
ghosts-drive_once g a = record { manager = g.D.Desk.manager a.desk }

abbrev pub ghosts-drive_reusing : goal.ghosts-drive_reusing
ghosts-drive_reusing g a = record { manager = g.D.Desk.manager a.desk }
