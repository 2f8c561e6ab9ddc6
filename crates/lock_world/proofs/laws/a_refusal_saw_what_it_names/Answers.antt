use Rattle.lock_world.proofs.Lemmas.Refusals.{refusals-saw}
use Rattle.lock_world.proofs.Lemmas.SafeWorld.Opening.{opening-safe}
use Rattle.lock_world.proofs.laws.a_refusal_saw_what_it_names.Goals as goal

pub returns : goal.returns
returns c = λ limit groups events worlds few run. refusals-saw limit groups events worlds (opening-safe limit groups few) run
