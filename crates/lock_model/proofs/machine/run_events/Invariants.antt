use Rattle.std.proofs.Common.{take}
use Rattle.lock_world.specs.World.{World, opening}
use Rattle.lock_world.specs.Happens.{Runs}
use Rattle.lock_world.specs.SafeWorld.{SafeWorld}
use Rattle.lock_model.specs.Shows.{Shows}
use Rattle.lock_model.proofs.machine.run_events.Given as goal

-- The machine shows the World that the events so far lead to.
abbrev pub invariant-loop-event : goal.invariant-loop-event
invariant-loop-event l = (w : World) × Runs (opening 64 l.groups) (take l.event-index l.events) w × SafeWorld w × Shows l.machine w
