use Rattle.lock_records.proofs.Lemmas.Tallies.{IsTally-new, none-there}
use Rattle.modes_core.specs.Mode.{number_of}
use Rattle.lock_records.proofs.tally.Tally.new.Goals as goal

pub invariant_of-result : goal.invariant_of-result
invariant_of-result c = IsTally-new c.empty.result c.empty.ensures

pub returns : goal.returns
returns c = λ mode. none-there (number_of mode)
