use Rattle.std.proofs.Common.{subst}
use Rattle.local_locks.specs.Owned.{IsWellOwned}
use Rattle.local_locks.proofs.Lemmas.Levels.{well_owned}
use Rattle.local_locks.proofs.tables.LocalTable.entries.Goals as goal

pub returns-clause-well_owned : goal.returns-clause-well_owned
returns-clause-well_owned c = subst IsWellOwned c.self.view_is (well_owned _ _ _ _ _ _ _ _ _ _ _ c.self.invariant.0)
