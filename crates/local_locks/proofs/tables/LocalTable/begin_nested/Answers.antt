use Rattle.std.proofs.Common.{◌+◌, ◌∷◌, ◌++◌, [], refl, ap, subst, ◌∙◌, length, arith, add-one}
use Rattle.local_locks.specs.Owned.{IsWellOwned, of_transaction}
use Rattle.local_locks.specs.Slots.{opened}
use Rattle.local_locks.specs.Levels.{row_at, outer_of}
use Rattle.local_locks.proofs.Lemmas.Levels.{well_owned, length-outer, had-now}
use Rattle.local_locks.proofs.Lemmas.LevelSteps.{leveled-begun}
use Rattle.local_locks.proofs.Lemmas.LevelTables.{table-with}
use Rattle.local_locks.proofs.tables.LocalTable.begin_nested.Goals as goal

pub returns-then-self-eq-MOST_INNER-clause-well_owned : goal.returns-then-self-eq-MOST_INNER-clause-well_owned
returns-then-self-eq-MOST_INNER-clause-well_owned c = subst IsWellOwned c.self.view_is (well_owned _ _ _ _ _ _ _ _ _ _ _ c.self.invariant.0)

pub returns-clause-too_deep : goal.returns-clause-too_deep
returns-clause-too_deep c = (
  λ refused. absurd (let bad = refused in cc),
  λ same. absurd (c.if-self-eq-MOST_INNER.false (omega (
    arith,
    same,
    ap (λ v. length v.outer) c.self.view_is,
    length-outer c.self.inside.depth (opened c.self.inside.slots.items) (row_at c.self.inside.outer.items),
  ))),
)

pub returns-clause-level : goal.returns-clause-level
returns-clause-level c = omega (arith, length-outer (c.self.inside.depth + 1) (opened c.self.inside.slots.items) (row_at c.self.inside.outer.items))

pub returns-clause-outer : goal.returns-clause-outer
returns-clause-outer c =
    let slots = opened c.self.inside.slots.items in
    let rows = row_at c.self.inside.outer.items in
    ap (λ n. outer_of n slots rows) (add-one c.self.inside.depth)
    ∙ ((λ i. outer_of c.self.inside.depth slots rows ++ had-now c.self.inside.depth slots rows c.self.invariant.0.leveled.within i ∷ [])
    ∙ (λ i. (c.self.view_is i).outer ++ of_transaction (c.self.view_is i).entries ∷ []))

pub returns-clause-well_owned : goal.returns-clause-well_owned
returns-clause-well_owned c =
    well_owned _ _ _ _ _ _ _ _ _ _ _
    (table-with c.self.invariant.0 c.self.invariant.0.table
    (leveled-begun (opened c.self.inside.slots.items) c.self.inside.outer.items c.self.inside.depth c.self.inside.touched c.len-self-inside.result c.self.invariant.0.leveled c.if-self-eq-MOST_INNER.false)
    (omega arith) refl refl refl)
