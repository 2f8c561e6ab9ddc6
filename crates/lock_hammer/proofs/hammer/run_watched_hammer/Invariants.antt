use Rattle.connections.specs.Managers.{manager_in}
use Rattle.lock_hammer.proofs.hammer.run_watched_hammer.Given as goal

abbrev pub ghosts-hammer_at : goal.ghosts-hammer_at
ghosts-hammer_at g a = record { manager = manager_in (λ desk. desk.manager.now) a.slot.now }
