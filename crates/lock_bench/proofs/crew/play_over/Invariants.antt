use Rattle.connections.specs.Managers.{manager_in}
use Rattle.lock_bench.proofs.crew.play_over.Given as goal

abbrev pub ghosts-play_at : goal.ghosts-play_at
ghosts-play_at g a = record { manager = manager_in g.D.Desk.manager a.slot.now }
