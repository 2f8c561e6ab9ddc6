use Rattle.local_locks.proofs.Lemmas.Levels.{well_owned}
use Rattle.local_locks.proofs.tables.LocalTable.reserve.Goals as goal

pub returns-after-count-clause-well_owned : goal.returns-after-count-clause-well_owned
returns-after-count-clause-well_owned c = well_owned _ _ _ _ _ _ _ _ _ _ _ c.self.invariant.0
