use Rattle.lock_world.proofs.Lemmas.SafeWorld.Opening.{opening-safe}
use Rattle.lock_world.proofs.laws.opening_is_safe.Goals as goal

pub returns : goal.returns
returns c =
    λ limit groups few. opening-safe limit groups few
