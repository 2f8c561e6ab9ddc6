use Rattle.std.proofs.lemmas.Bool.{leb-true, le-leb}
use Rattle.modes_core.specs.Mode.{number_of}
use Rattle.modes_core.proofs.Lemmas.Conflicts.{weak-conflict}
use Rattle.modes_core.proofs.mode_sets.slot_modes_conflict_with_counted_ones.Goals as goal

pub returns : goal.returns
returns c mode other weak clash = leb-true 5 (number_of other) (weak-conflict mode other (le-leb (number_of mode) 3 weak) clash)
