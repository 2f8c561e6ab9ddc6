use Rattle.modes_core.proofs.Lemmas.Conflicts.{conflict_comm}
use Rattle.modes_core.proofs.mode_sets.conflict_is_symmetric.Goals as goal

pub returns : goal.returns
returns c = conflict_comm
