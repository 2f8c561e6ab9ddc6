use Rattle.lock_world.proofs.Lemmas.Closed.{closed-empty}
use Rattle.lock_world.proofs.laws.closed_numbers_are_forgotten.Goals as goal

pub returns : goal.returns
returns c =
    λ limit groups events w session few run dead. closed-empty limit groups events w session few run dead
