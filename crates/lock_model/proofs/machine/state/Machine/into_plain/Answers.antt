use Rattle.std.proofs.Common.{refl}
use Rattle.lock_model.proofs.Lemmas.Shows.Runs.{plain-shown}
use Rattle.lock_model.proofs.machine.state.Machine.into_plain.Goals as goal

pub returns-clause-shown : goal.returns-clause-shown
returns-clause-shown c = λ w safe shows. plain-shown c.args.self w safe shows _ _ _ c.as_slice.ensures.value c.as_slice-2.ensures.value (c.in_ok-holds.ensures.all, c.in_ok-holds.ensures.each_once) c.in_ok-waits.ensures.all c.in_ok-waits.ensures.by_tag refl refl refl refl refl
