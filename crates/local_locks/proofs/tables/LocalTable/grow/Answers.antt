use Rattle.std.proofs.Common.{◌≤◌, ◌∙◌, sym, refl, subst, arith, length}
use Rattle.std.specs.Prelude.{vec_capacity}
use Rattle.local_locks.specs.Owned.{IsWellOwned}
use Rattle.local_locks.specs.Levels.{IsLeveledTable}
use Rattle.local_locks.proofs.Lemmas.Levels.{well_owned}
use Rattle.local_locks.proofs.Lemmas.LevelRows.{unless_err}
use Rattle.local_locks.proofs.Lemmas.LevelTables.{grown-table}
use Rattle.local_locks.proofs.tables.LocalTable.grow.Goals as goal

pub returns-then-len-eq-MAX_SLOTS-clause-well_owned : goal.returns-then-len-eq-MAX_SLOTS-clause-well_owned
returns-then-len-eq-MAX_SLOTS-clause-well_owned c = subst IsWellOwned c.self.view_is (well_owned _ _ _ _ _ _ _ _ _ _ _ c.self.invariant.0)

pub returns-then-is_err-clause-well_owned : goal.returns-then-is_err-clause-well_owned
returns-then-is_err-clause-well_owned c =
    let table : IsLeveledTable c.self.inside.slots.items (vec_capacity c.self.inside.slots) c.self.inside.index c.self.inside.len c.self.inside.max_local c.self.inside.progress
    c.lengthen.new.outer.items c.self.inside.depth c.self.inside.touched =
    grown-table c.self.invariant.0 refl (λ h p. refl) c.lengthen.ensures.same c.lengthen.ensures.longer (omega (arith, c.self.invariant.0.enough, c.lengthen.ensures.longer)) in
    well_owned _ _ _ _ _ _ _ _ _ _ _ table

pub invariant_of-self-then-is_err-2 : goal.invariant_of-self-then-is_err-2
invariant_of-self-then-is_err-2 c = (
  let listed : c.places.result ≤ length c.lengthen.new.outer.items = unless_err c.lengthen.result _ (sym c.is_err.ensures.value ∙ c.if-is_err.false) c.lengthen.ensures.ok in
      grown-table {index' = c.self.inside.index} c.self.invariant.0 c.reserve.ensures.items (λ h p. refl) c.lengthen.ensures.same c.lengthen.ensures.longer (omega (arith, listed, c.places.ensures.is)),
  c.self.invariant.1,
)

pub returns-then-is_err-2-clause-well_owned : goal.returns-then-is_err-2-clause-well_owned
returns-then-is_err-2-clause-well_owned c = well_owned _ _ _ _ _ _ _ _ _ _ _ (invariant_of-self-then-is_err-2 c).0

pub returns-then-is_err-3-clause-well_owned : goal.returns-then-is_err-3-clause-well_owned
returns-then-is_err-3-clause-well_owned c =
    let listed : c.places.result ≤ length c.lengthen.new.outer.items = unless_err c.lengthen.result _ (sym c.is_err.ensures.value ∙ c.if-is_err.false) c.lengthen.ensures.ok in
    let table : IsLeveledTable c.reserve.new.self.items (vec_capacity c.reserve.new.self) c.self.inside.index c.self.inside.len c.self.inside.max_local c.self.inside.progress
    c.lengthen-2.new.outer.items c.self.inside.depth c.self.inside.touched =
    grown-table c.self.invariant.0 c.reserve.ensures.items (λ h p. refl) (λ k. c.lengthen-2.ensures.same k ∙ c.lengthen.ensures.same k)
    (omega (arith, c.lengthen.ensures.longer, c.lengthen-2.ensures.longer)) (omega (arith, listed, c.places.ensures.is, c.lengthen-2.ensures.longer)) in
    well_owned _ _ _ _ _ _ _ _ _ _ _ table

pub invariant_of-self-then-is_err-4 : goal.invariant_of-self-then-is_err-4
invariant_of-self-then-is_err-4 c = (
  let cap : c.capacity.result ≤ length c.lengthen-2.new.outer.items = unless_err c.lengthen-2.result _ (sym c.is_err-3.ensures.value ∙ c.if-is_err-3.false) c.lengthen-2.ensures.ok in
      grown-table c.self.invariant.0 c.reserve.ensures.items c.reserve-2.ensures.notes (λ k. c.lengthen-2.ensures.same k ∙ c.lengthen.ensures.same k)
      (omega (arith, c.lengthen.ensures.longer, c.lengthen-2.ensures.longer)) (omega (arith, cap, c.capacity.ensures)),
  c.self.invariant.1,
)

pub returns-then-is_err-4-clause-well_owned : goal.returns-then-is_err-4-clause-well_owned
returns-then-is_err-4-clause-well_owned c = well_owned _ _ _ _ _ _ _ _ _ _ _ (invariant_of-self-then-is_err-4 c).0

pub invariant_of-self-2 : goal.invariant_of-self-2
invariant_of-self-2 c = (
  let cap : c.capacity.result ≤ length c.lengthen-2.new.outer.items = unless_err c.lengthen-2.result _ (sym c.is_err-3.ensures.value ∙ c.if-is_err-3.false) c.lengthen-2.ensures.ok in
      grown-table c.self.invariant.0 c.reserve.ensures.items c.reserve-2.ensures.notes (λ k. c.lengthen-2.ensures.same k ∙ c.lengthen.ensures.same k)
      (omega (arith, c.lengthen.ensures.longer, c.lengthen-2.ensures.longer)) (omega (arith, cap, c.capacity.ensures)),
  c.self.invariant.1,
)

pub returns-clause-well_owned : goal.returns-clause-well_owned
returns-clause-well_owned c = well_owned _ _ _ _ _ _ _ _ _ _ _ (invariant_of-self-2 c).0
