use Rattle.shared_rule.proofs.Lemmas.NoLie.{load-shows}
use Rattle.shared_rule.proofs.laws.no_load_of_a_counter_lies.Goals as goal

pub returns : goal.returns
returns g c =
    λ sizes state rule number index shown marks stands within idle.
    load-shows g.T.PartTable.content g.T.PartTable.begun sizes state rule number index shown marks stands within idle
