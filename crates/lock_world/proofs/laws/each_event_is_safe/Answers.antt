use Rattle.lock_world.proofs.Lemmas.SafeWorld.Runs.{event-safe}
use Rattle.lock_world.proofs.laws.each_event_is_safe.Goals as goal

pub returns : goal.returns
returns c =
    λ w v event safe h. event-safe w event v safe h
