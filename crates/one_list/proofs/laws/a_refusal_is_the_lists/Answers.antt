use Rattle.lock_world.proofs.Lemmas.SafeWorld.Opening.{opening-safe}
use Rattle.one_list.proofs.Lemmas.Requests.{refusals}
use Rattle.one_list.proofs.laws.a_refusal_is_the_lists.Goals as goal

pub returns : goal.returns
returns c = λ limit groups events worlds few run. refusals limit groups events worlds (opening-safe limit groups few) run
