use Rattle.lock_world.proofs.Lemmas.SafeWorld.Opening.{opening-safe}
use Rattle.one_list.proofs.Lemmas.Requests.{answers}
use Rattle.one_list.proofs.laws.an_answer_is_the_lists.Goals as goal

pub returns : goal.returns
returns c = λ limit groups events worlds few run. answers limit groups events worlds (opening-safe limit groups few) run
