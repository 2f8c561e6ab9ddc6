use Rattle.connections.specs.Managers.{manager_in}
use Rattle.refused_memory.proofs.desk_cases.perform.Given as goal

abbrev pub ghosts-with_pool : goal.ghosts-with_pool
ghosts-with_pool g a = record { manager = manager_in g.D.Desk.manager a.slot.now }

abbrev pub ghosts-at_desk : goal.ghosts-at_desk
ghosts-at_desk g a = record { manager = manager_in g.D.Desk.manager a.slot.now }
