use Rattle.lock_world.proofs.Lemmas.Wakes.Runs.{keeps-well, keeps-in_order, keeps-order, well-not_all}
use Rattle.lock_world.proofs.wake_laws.no_circle_of_sleepers.Goals as goal

pub returns-clause-in_order : goal.returns-clause-in_order
returns-clause-in_order c = λ limit groups turns v d run. keeps-order limit groups turns v d run

pub returns-clause-somebody_runs : goal.returns-clause-somebody_runs
returns-clause-somebody_runs c = λ limit groups turns v d run.
    well-not_all v d (keeps-well limit groups turns v d (keeps-in_order limit groups turns v d run)) (keeps-order limit groups turns v d run)
