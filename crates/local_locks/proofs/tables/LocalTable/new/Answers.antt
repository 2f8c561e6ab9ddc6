use Rattle.std.proofs.Common.{refl, inl, ◌≤◌, ap, sym, subst, ◌∙◌, List, length, arith}
use Rattle.local_locks.specs.declared.records.Entry.{Entry}
use Rattle.local_locks.specs.declared.ends.Progress.{Progress}
use Rattle.local_locks.specs.Slots.{opened, IsTable, at_start}
use Rattle.local_locks.specs.Levels.{Rows, row_at}
use Rattle.local_locks.proofs.Lemmas.EndSteps.{table-empty}
use Rattle.local_locks.proofs.Lemmas.Levels.{well_owned}
use Rattle.local_locks.proofs.Lemmas.LevelRows.{leveled-empty, unless_err}
use Rattle.local_locks.proofs.tables.LocalTable.new.Goals as goal

pub invariant_of-result : goal.invariant_of-result
invariant_of-result c = (
  let slots = c.in-Ok.ensures {u = tt} in
      let listed : 16 ≤ length c.lengthen.new.outer.items = unless_err c.lengthen.result _ (sym c.is_err.ensures.value ∙ c.if-is_err.false) c.lengthen.ensures.ok in
      record {
        table =
            subst (λ (p : Progress). IsTable c.in-Ok.slots.items c.in-Ok-new.index 0 c.args.max_local p) (sym c.start.ensures)
            (subst (λ (es : List Entry). IsTable es c.in-Ok-new.index 0 c.args.max_local at_start) (sym slots.items)
            (table-empty c.in-Ok-new.index c.args.max_local (c.in-Ok-new.ensures {u = tt}).empty));
        leveled =
            leveled-empty (opened c.in-Ok.slots.items) c.lengthen.new.outer.items 0
            (λ k. c.lengthen.ensures.same k ∙ ap (λ (rows : Rows). row_at rows k) c.new-outer.ensures.items);
        lists = omega (arith, ap (λ (es : List Entry). length es) slots.items);
        enough = omega (arith, listed, slots.exact);
      },
  inl (refl, refl),
)

pub returns-clause-well_owned : goal.returns-clause-well_owned
returns-clause-well_owned c = well_owned _ _ _ _ _ _ _ _ _ _ _ (invariant_of-result c).0
