use Rattle.std.proofs.Common.{subst}
use Rattle.local_locks.specs.Owned.{IsWellOwned}
use Rattle.local_locks.proofs.Lemmas.Levels.{well_owned}
use Rattle.local_locks.proofs.tables.LocalTable.total.Goals as goal

pub returns-in-Some-clause-well_owned : goal.returns-in-Some-clause-well_owned
returns-in-Some-clause-well_owned c = subst IsWellOwned c.self.view_is (well_owned _ _ _ _ _ _ _ _ _ _ _ c.self.invariant.0)

pub returns-in-None-clause-well_owned : goal.returns-in-None-clause-well_owned
returns-in-None-clause-well_owned c = subst IsWellOwned c.self.view_is (well_owned _ _ _ _ _ _ _ _ _ _ _ c.self.invariant.0)
