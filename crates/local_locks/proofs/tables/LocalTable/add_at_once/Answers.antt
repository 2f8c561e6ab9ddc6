use Rattle.std.specs.Prelude.{vec_capacity}
use Rattle.local_locks.specs.Levels.{IsLeveledTable}
use Rattle.local_locks.proofs.Lemmas.LevelRows.{paced-first, leveled-first}
use Rattle.local_locks.proofs.Lemmas.LevelTables.{table-with}
use Rattle.std.proofs.Common.{inl, Vec, Global, ◌≡◌, ◌<◌, List, length, true, refl, sym, ap, subst, ◌∙◌, arith}
use Rattle.std.specs.Prelude.{is_some}
use Rattle.local_locks.specs.Owned.{IsWellOwned, max_count, is_of, count_for, has_entry, owner_count_of, with_one_more}
use Rattle.local_locks.specs.Slots.{IsPlaceOf, opened, entry_at, present}
use Rattle.local_locks.specs.declared.records.Entry.{Entry}
use Rattle.local_locks.proofs.Lemmas.Levels.{well_owned}
use Rattle.local_locks.proofs.Lemmas.Looks.{place_read}
use Rattle.local_locks.proofs.Lemmas.TableSteps.{IsTable-raised_held, entries-raised, owner_count-at}
use Rattle.local_locks.proofs.tables.LocalTable.add_at_once.Goals as goal

pub returns-in-Nothing-clause-well_owned : goal.returns-in-Nothing-clause-well_owned
returns-in-Nothing-clause-well_owned c = subst IsWellOwned c.self.view_is (well_owned _ _ _ _ _ _ _ _ _ _ _ c.self.invariant.0)

pub returns-in-Unknown-clause-well_owned : goal.returns-in-Unknown-clause-well_owned
returns-in-Unknown-clause-well_owned c = subst IsWellOwned c.self.view_is (well_owned _ _ _ _ _ _ _ _ _ _ _ c.self.invariant.0)

pub returns-then-not-raise_held-clause-well_owned : goal.returns-then-not-raise_held-clause-well_owned
returns-then-not-raise_held-clause-well_owned c =
    well_owned _ _ _ _ _ _ _ _ _ _ _
    (subst (λ (v : Vec Entry Global). IsLeveledTable v.items (vec_capacity v) c.self.inside.index c.self.inside.len c.self.inside.max_local c.self.inside.progress
    c.self.inside.outer.items c.self.inside.depth c.self.inside.touched) (sym (c.raise_held.ensures.same c.if-not-raise_held.true)) c.self.invariant.0)

-- ---- one more is counted

seen : (c : goal.After-self-1) → (c.in-Place.place < length c.self.inside.slots.items) × (is_of c.args.tag.now c.args.mode (entry_at c.self.inside.slots.items c.in-Place.place) ≡ true)
seen c = subst (λ (l : List Entry). (c.in-Place.place < length l) × (is_of c.args.tag.now c.args.mode (entry_at l c.in-Place.place) ≡ true)) c.deref.ensures.value (c.in-Place.ensures {u = tt})

-- it is the first level
first : (c : goal.After-self-1) → (c.self.inside.depth ≡ 0) × (c.self.inside.at_once ≡ max_count)
first c =
    paced-first c.self.inside.depth c.self.inside.at_once c.self.inside.hint c.self.invariant.1 (omega (arith, (c.raise_held.ensures.raised.0 c.if-not-raise_held.false).1))

counts : (c : goal.After-self-1) → (0 < count_for c.args.owner (entry_at c.self.inside.slots.items c.in-Place.place)) × (count_for c.args.owner (entry_at c.self.inside.slots.items c.in-Place.place) < max_count)
counts c =
    let raised = c.raise_held.ensures.raised.0 c.if-not-raise_held.false in
    (raised.0, omega (arith, raised.1, (first c).1))

at : (c : goal.After-self-1) → IsPlaceOf c.self.inside.slots.items c.args.tag.now c.args.mode c.in-Place.place
at c =
    place_read c.self.inside.slots.items c.self.inside.index c.self.invariant.0.table.kept.indexed c.args.tag.now c.args.mode c.args.owner c.in-Place.place
    (entry_at c.self.inside.slots.items c.in-Place.place) refl (seen c).1 (counts c).0

pub invariant_of-self-in-Place : goal.invariant_of-self-in-Place
invariant_of-self-in-Place c = (
  table-with c.self.invariant.0
      (IsTable-raised_held c.self.inside.slots.items c.raise_held.new.slots.items c.self.inside.index c.self.inside.len c.self.inside.max_local c.self.inside.progress c.args.tag.now c.args.mode
      c.in-Place.place c.args.owner c.self.invariant.0.table (at c) (counts c).0 (counts c).1 (c.raise_held.ensures.slots c.if-not-raise_held.false) c.raise_held.ensures.number)
      (leveled-first _ _ _ _ _ _ c.self.invariant.0.leveled (first c).0) (omega (arith, c.raise_held.ensures.number)) refl c.raise_held.ensures.capacity refl,
  inl (first c),
)

pub returns-else-not-raise_held-clause-well_owned : goal.returns-else-not-raise_held-clause-well_owned
returns-else-not-raise_held-clause-well_owned c = well_owned _ _ _ _ _ _ _ _ _ _ _ (invariant_of-self-in-Place c).0

pub returns-else-not-raise_held-clause-entries : goal.returns-else-not-raise_held-clause-entries
returns-else-not-raise_held-clause-entries c held =
    let es = c.self.inside.slots.items in
    ap present (c.raise_held.ensures.slots c.if-not-raise_held.false)
    ∙ (entries-raised (opened es) c.self.inside.index c.args.tag.now c.args.mode c.args.owner c.in-Place.place (entry_at es c.in-Place.place) c.self.invariant.0.table.kept.indexed (at c).there (at c).own
    ∙ ap (λ v. with_one_more v.entries c.args.tag.now c.args.mode c.args.owner) c.self.view_is)

pub returns-else-not-raise_held-clause-held : goal.returns-else-not-raise_held-clause-held
returns-else-not-raise_held-clause-held c held =
    let es = c.self.inside.slots.items in
    let count = owner_count-at (present (opened es)) c.args.tag.now c.args.mode c.args.owner (entry_at es c.in-Place.place) (at c).found in
    let view = ap (λ v. owner_count_of v.entries c.args.tag.now c.args.mode c.args.owner) c.self.view_is in (
      sym (ap (λ v. has_entry v.entries c.args.tag.now c.args.mode) c.self.view_is) ∙ ap is_some (at c).found,
      omega (arith, (counts c).1, count, view),
    )
