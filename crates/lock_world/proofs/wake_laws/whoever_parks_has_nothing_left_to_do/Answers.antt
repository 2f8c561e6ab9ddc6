use Rattle.lock_world.proofs.Lemmas.Wakes.Runs.{keeps-well, well-parked}
use Rattle.lock_world.proofs.wake_laws.whoever_parks_has_nothing_left_to_do.Goals as goal

pub returns : goal.returns
returns c = λ limit groups turns v d run. well-parked v d (keeps-well limit groups turns v d run)
