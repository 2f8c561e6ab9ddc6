use Rattle.std.proofs.Common.{ℕ, refl, inr}
use Rattle.lock_world.specs.declared.events.Step.{Step}
use Rattle.lock_model.specs.declared.machine.state.Machine.{Machine}
use Rattle.lock_world.specs.World.{World}
use Rattle.lock_world.specs.Happens.{Lawful, Next}
use Rattle.lock_world.specs.SafeWorld.{SafeWorld}
use Rattle.lock_model.specs.Shows.{Shows}

module _ (m : Machine) (w : World) (safe : SafeWorld w) (shows : Shows m w) where
  -- An event that isn't lawful leaves the machine as it was.
  pub skipped : (s : ℕ) (step : Step) → (Lawful w (record { session = s; step = step }) → ⊥)
      → (v : World) × Next w (record { session = s; step = step }) v × Shows m v
  skipped s step not_lawful = (w, inr (not_lawful, refl), shows)
