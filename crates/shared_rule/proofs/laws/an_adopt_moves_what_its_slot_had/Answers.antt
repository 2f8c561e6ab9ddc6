use Rattle.std.proofs.Common.{refl}
use Rattle.shared_rule.proofs.Lemmas.Adopted.{was-in_slot}
use Rattle.shared_rule.proofs.laws.an_adopt_moves_what_its_slot_had.Goals as goal

pub returns : goal.returns
returns g c = λ sizes state rule partition owner slot tag mode hand in_hand recorded had_not has.
    was-in_slot partition owner slot tag mode hand.taken had_not sizes.sessions sizes.groups rule.events rule.world hand rule.run in_hand refl recorded has
