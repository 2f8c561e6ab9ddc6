use Rattle.lock_world.specs.World.{opening}
use Rattle.lock_world.proofs.Lemmas.SafeWorld.Opening.{opening-safe}
use Rattle.lock_world.proofs.Lemmas.Unique.Runs.{one_run}
use Rattle.lock_world.proofs.laws.one_world_comes.Goals as goal

pub returns : goal.returns
returns c =
    λ limit groups events w v few one two. one_run (opening limit groups) events w v (opening-safe limit groups few) one two
