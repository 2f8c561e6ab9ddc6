use Rattle.connections.specs.Managers.{manager_in}
use Rattle.manager_tests.proofs.tests.tell_over.Given as goal

abbrev pub ghosts-tell_at : goal.ghosts-tell_at
ghosts-tell_at g a = record { manager = manager_in g.D.Desk.manager a.slot.now }
