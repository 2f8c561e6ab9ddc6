use Rattle.lock_world.specs.World.{opening}
use Rattle.lock_world.proofs.Lemmas.SafeWorld.Opening.{opening-safe}
use Rattle.lock_world.proofs.Lemmas.SafeWorld.Runs.{through-safe, Runs-safe}
use Rattle.lock_world.proofs.laws.every_world_is_safe.Goals as goal

pub returns-clause-last : goal.returns-clause-last
returns-clause-last c =
    λ limit groups events w few run. Runs-safe (opening limit groups) events w (opening-safe limit groups few) run

pub returns-clause-on_the_way : goal.returns-clause-on_the_way
returns-clause-on_the_way c =
    λ limit groups events worlds place w few run at. through-safe (opening limit groups) events worlds (opening-safe limit groups few) run place w at
