use Rattle.local_locks.specs.Levels.{row_at}
use Rattle.local_locks.proofs.Lemmas.Levels.{outer-same}
use Rattle.local_locks.proofs.Lemmas.LevelSteps.{leveled-moved}
use Rattle.local_locks.proofs.Lemmas.LevelTables.{table-with}
use Rattle.std.proofs.Common.{ap, ◌∙◌, sym, subst, arith}
use Rattle.local_locks.specs.declared.ends.Progress.{Progress}
use Rattle.local_locks.specs.Owned.{IsWellOwned}
use Rattle.local_locks.specs.Slots.{opened, IsKept}
use Rattle.local_locks.proofs.Lemmas.Levels.{well_owned}
use Rattle.local_locks.proofs.Lemmas.EndSteps.{kept-compact}
use Rattle.local_locks.proofs.Lemmas.Slots.{length-present-le}
use Rattle.local_locks.proofs.Lemmas.OpenSlots.{length-opened}
use Rattle.local_locks.proofs.tables.LocalTable.use_slots_again.Goals as goal

pub invariant_of-self : goal.invariant_of-self
invariant_of-self c = (
  table-with c.self.invariant.0
      (record {
        kept = subst (λ (p : Progress). IsKept (opened c.compact.new.slots.items) c.compact.new.index c.self.inside.len c.self.inside.max_local p) (sym c.start-self-inside.ensures)
            (kept-compact (opened c.self.inside.slots.items) (opened c.compact.new.slots.items) c.self.inside.index c.compact.new.index c.self.inside.len c.self.inside.max_local c.self.inside.progress
            c.self.invariant.0.table.kept c.compact.ensures.indexed c.compact.ensures.entries);
        few = omega (arith, c.compact.ensures.full, c.self.invariant.0.table.few, length-present-le (opened c.self.inside.slots.items), length-opened c.self.inside.slots.items);
      })
      (leveled-moved (opened c.self.inside.slots.items) (opened c.compact.new.slots.items) c.self.inside.outer.items c.compact.new.outer.items c.self.inside.depth c.self.inside.touched
      c.self.invariant.0.leveled c.compact.ensures.moved)
      (omega (arith, c.compact.ensures.full, length-present-le (opened c.self.inside.slots.items), length-opened c.self.inside.slots.items))
      c.compact.ensures.moved.number c.compact.ensures.slot_room c.compact.ensures.index_room,
  c.self.invariant.1,
)

pub returns-then-slots-eq-MAX_SLOTS-clause-well_owned : goal.returns-then-slots-eq-MAX_SLOTS-clause-well_owned
returns-then-slots-eq-MAX_SLOTS-clause-well_owned c = well_owned _ _ _ _ _ _ _ _ _ _ _ (invariant_of-self c).0

pub returns-else-self-slots-clause-well_owned : goal.returns-else-self-slots-clause-well_owned
returns-else-self-slots-clause-well_owned c = subst IsWellOwned c.self.view_is (well_owned _ _ _ _ _ _ _ _ _ _ _ c.self.invariant.0)

pub returns-then-slots-eq-MAX_SLOTS-clause-outer : goal.returns-then-slots-eq-MAX_SLOTS-clause-outer
returns-then-slots-eq-MAX_SLOTS-clause-outer c =
    outer-same c.self.inside.depth (opened c.compact.new.slots.items) (opened c.self.inside.slots.items) (row_at c.compact.new.outer.items) (row_at c.self.inside.outer.items)
    (λ level below. c.compact.ensures.told level)
    ∙ ap (λ v. v.outer) c.self.view_is
