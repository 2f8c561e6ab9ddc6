use Rattle.std.proofs.Common.{ap, subst, arith, length}
use Rattle.local_locks.specs.Owned.{IsWellOwned}
use Rattle.local_locks.specs.Slots.{opened}
use Rattle.local_locks.specs.Levels.{row_at}
use Rattle.local_locks.proofs.Lemmas.Levels.{well_owned, length-outer}
use Rattle.local_locks.proofs.tables.LocalTable.level.Goals as goal

pub returns-clause-level : goal.returns-clause-level
returns-clause-level c =
    omega (arith, ap (λ v. length v.outer) c.self.view_is, length-outer c.self.inside.depth (opened c.self.inside.slots.items) (row_at c.self.inside.outer.items))

pub returns-clause-well_owned : goal.returns-clause-well_owned
returns-clause-well_owned c = subst IsWellOwned c.self.view_is (well_owned _ _ _ _ _ _ _ _ _ _ _ c.self.invariant.0)
