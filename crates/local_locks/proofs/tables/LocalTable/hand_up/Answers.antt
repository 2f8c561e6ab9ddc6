use Rattle.std.proofs.Common.{◌≡◌, ◌-◌, List, length, take, suc, refl, sym, ap, subst, ◌∙◌, arith}
use Rattle.local_locks.specs.declared.records.Entry.{Entry}
use Rattle.local_locks.specs.Owned.{IsWellOwned}
use Rattle.local_locks.specs.Slots.{opened}
use Rattle.local_locks.specs.Levels.{row_at, outer_of, IsLeveled}
use Rattle.local_locks.proofs.Lemmas.OpenSlots.{length-opened}
use Rattle.local_locks.proofs.Lemmas.Levels.{well_owned, length-outer, outer-taken}
use Rattle.local_locks.proofs.Lemmas.LevelRows.{paced-ended}
use Rattle.local_locks.proofs.Lemmas.LevelSteps.{leveled-handed}
use Rattle.local_locks.proofs.Lemmas.LevelTables.{table-with}
use Rattle.local_locks.proofs.tables.LocalTable.hand_up.Goals as goal

pub returns-then-self-eq0-clause-well_owned : goal.returns-then-self-eq0-clause-well_owned
returns-then-self-eq0-clause-well_owned c = subst IsWellOwned c.self.view_is (well_owned _ _ _ _ _ _ _ _ _ _ _ c.self.invariant.0)

pub invariant_of-self : goal.invariant_of-self
invariant_of-self c = (
  let es = c.self.inside.slots.items in
      let is : c.self.inside.depth ≡ suc (c.self.inside.depth - 1) = omega (arith, c.if-self-eq0.false) in
      table-with c.self.invariant.0 c.self.invariant.0.table
      (leveled-handed (opened es) c.self.inside.outer.items c.cut_all.new.outer.items (c.self.inside.depth - 1) c.self.inside.touched
      (subst (λ n. IsLeveled (opened es) c.self.inside.outer.items n c.self.inside.touched) is c.self.invariant.0.leveled)
      (λ k late within. c.cut_all.ensures.cut k late (omega (arith, c.len.ensures, c.self.inside.slots.ok.0, length-opened es))) c.cut_all.ensures.before
      (λ k past. c.cut_all.ensures.behind k (omega (arith, c.len.ensures, c.self.inside.slots.ok.0, length-opened es)))).0
      (omega arith) c.cut_all.ensures.number refl refl,
  paced-ended c.self.inside.depth c.self.inside.at_once c.self.inside.hint c.most_at_once-self-inside.result c.self.invariant.1 c.if-self-eq0.false c.most_at_once-self-inside.ensures,
)

pub returns-clause-level : goal.returns-clause-level
returns-clause-level c =
    omega (arith, c.if-self-eq0.false, length-outer (c.self.inside.depth - 1) (opened c.self.inside.slots.items) (row_at c.cut_all.new.outer.items))

pub returns-clause-outer : goal.returns-clause-outer
returns-clause-outer c =
    let es = c.self.inside.slots.items in
    let is : c.self.inside.depth ≡ suc (c.self.inside.depth - 1) = omega (arith, c.if-self-eq0.false) in
    (leveled-handed (opened es) c.self.inside.outer.items c.cut_all.new.outer.items (c.self.inside.depth - 1) c.self.inside.touched
    (subst (λ n. IsLeveled (opened es) c.self.inside.outer.items n c.self.inside.touched) is c.self.invariant.0.leveled)
    (λ k late within. c.cut_all.ensures.cut k late (omega (arith, c.len.ensures, c.self.inside.slots.ok.0, length-opened es))) c.cut_all.ensures.before
    (λ k past. c.cut_all.ensures.behind k (omega (arith, c.len.ensures, c.self.inside.slots.ok.0, length-opened es)))).1
    ∙ (sym (outer-taken (c.self.inside.depth - 1) (opened es) (row_at c.self.inside.outer.items))
    ∙ (ap (λ (o : List (List Entry)). take (length o - 1) o) (ap (λ n. outer_of n (opened es) (row_at c.self.inside.outer.items)) (sym is))
    ∙ ap (λ v. take (length v.outer - 1) v.outer) c.self.view_is))

pub returns-clause-well_owned : goal.returns-clause-well_owned
returns-clause-well_owned c = well_owned _ _ _ _ _ _ _ _ _ _ _ (invariant_of-self c).0
