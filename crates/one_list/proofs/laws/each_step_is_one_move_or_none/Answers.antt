use Rattle.one_list.proofs.Lemmas.Steps.{step-moves}
use Rattle.one_list.proofs.laws.each_step_is_one_move_or_none.Goals as goal

pub returns : goal.returns
returns c = λ w v event safe h. step-moves w safe event.session event.step v h
