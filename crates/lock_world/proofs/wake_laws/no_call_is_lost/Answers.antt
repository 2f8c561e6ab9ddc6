use Rattle.lock_world.proofs.Lemmas.Wakes.Runs.{keeps-well, well-waits, well-sleeps}
use Rattle.lock_world.proofs.wake_laws.no_call_is_lost.Goals as goal

pub returns-clause-waits : goal.returns-clause-waits
returns-clause-waits c = λ limit groups turns v d run. well-waits v d (keeps-well limit groups turns v d run)

pub returns-clause-sleeps : goal.returns-clause-sleeps
returns-clause-sleeps c = λ limit groups turns v d run. well-sleeps v d (keeps-well limit groups turns v d run)
