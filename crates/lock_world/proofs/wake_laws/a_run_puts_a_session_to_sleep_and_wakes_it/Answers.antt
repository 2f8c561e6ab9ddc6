use Rattle.lock_world.proofs.Lemmas.Wakes.Example.{sleep-and-wakeup}
use Rattle.lock_world.proofs.wake_laws.a_run_puts_a_session_to_sleep_and_wakes_it.Goals as goal

pub returns : goal.returns
returns c = sleep-and-wakeup
