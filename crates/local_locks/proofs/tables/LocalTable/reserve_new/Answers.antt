use Rattle.std.proofs.Common.{subst}
use Rattle.local_locks.specs.Owned.{IsWellOwned}
use Rattle.local_locks.proofs.Lemmas.Levels.{well_owned}
use Rattle.local_locks.proofs.tables.LocalTable.reserve_new.Goals as goal

pub returns-then-self-clause-well_owned : goal.returns-then-self-clause-well_owned
returns-then-self-clause-well_owned c = subst IsWellOwned c.self.view_is (well_owned _ _ _ _ _ _ _ _ _ _ _ c.self.invariant.0)

pub returns-then-has_room-clause-well_owned : goal.returns-then-has_room-clause-well_owned
returns-then-has_room-clause-well_owned c = subst IsWellOwned c.self.view_is (well_owned _ _ _ _ _ _ _ _ _ _ _ c.self.invariant.0)
