use Rattle.std.proofs.Common.{◌≡◌, ◌≢◌, List, sym, ap, subst, ◌∙◌}
use Rattle.std.proofs.lemmas.List.{get_or_default}
use Rattle.local_locks.specs.Owned.{IsWellOwned, max_count, count_for, with_one_more}
use Rattle.std.specs.Prelude.{vec_capacity}
use Rattle.local_locks.specs.Levels.{IsLeveledTable}
use Rattle.local_locks.specs.Slots.{IsPlaceOf, opened, entry_at, present}
use Rattle.local_locks.specs.declared.ends.Progress.{Progress}
use Rattle.local_locks.specs.declared.records.Entry.{Entry}
use Rattle.local_locks.proofs.Lemmas.Levels.{well_owned}
use Rattle.local_locks.proofs.Lemmas.TableSteps.{entries-raised}
use Rattle.local_locks.proofs.Lemmas.LevelRows.{paced-looked}
use Rattle.local_locks.proofs.Lemmas.LevelTables.{raised-table}
use Rattle.local_locks.proofs.tables.LocalTable.add_looked_up.Goals as goal

pub returns-in_default-clause-well_owned : goal.returns-in_default-clause-well_owned
returns-in_default-clause-well_owned c = subst IsWellOwned c.self.view_is (well_owned _ _ _ _ _ _ _ _ _ _ _ c.self.invariant.0)

pub returns-then-count-clause-well_owned : goal.returns-then-count-clause-well_owned
returns-then-count-clause-well_owned c = subst IsWellOwned c.self.view_is (well_owned _ _ _ _ _ _ _ _ _ _ _ c.self.invariant.0)

-- ---- one more is counted

pub invariant_of-self : goal.invariant_of-self
invariant_of-self c = (
  let es = c.self.inside.slots.items in
      let at = subst (λ (l : List Entry). IsPlaceOf l c.args.tag.now c.args.mode c.in-Some.place) c.deref.ensures.value (c.in-Some.ensures {u = tt}) in
      let read : entry_at es c.in-Some.place ≡ c.index.result.now = sym (c.index.ensures ∙ get_or_default es c.in-Some.place c.index.result.now _ at.within) in
      let limit : count_for c.args.owner (entry_at es c.in-Some.place) ≢ max_count = λ full. c.if-count.false (c.count.ensures ∙ (sym (ap (count_for c.args.owner) read) ∙ full)) in
      let now : c.index-2.result.now.transaction ≡ (entry_at es c.in-Some.place).transaction =
      ap (λ (x : Entry). x.transaction) (c.index-2.ensures ∙ get_or_default es c.in-Some.place c.index-2.result.now _ at.within) in
      let k = c.keep.ensures in
      subst (λ (p : Progress). IsLeveledTable c.raise.new.slots.items (vec_capacity c.raise.new.slots) c.self.inside.index c.self.inside.len c.self.inside.max_local p
      c.keep.new.outer.items c.self.inside.depth c.keep.new.touched) (sym c.go_back_to.ensures)
      (raised-table c.in-Some.place c.index-2.result.now.transaction c.args.owner c.self.invariant.0 at limit c.raise.ensures.slots c.raise.ensures.number c.raise.ensures.capacity k.number now
      (record { filled = k.filled; same = k.same; others = k.others; touched_ = k.touched; no_more = k.no_more })).0,
  paced-looked c.self.inside.depth c.self.inside.at_once c.self.inside.hint c.set_hint.new.hint c.self.invariant.1 c.set_hint.ensures.inner,
)

pub returns-clause-well_owned : goal.returns-clause-well_owned
returns-clause-well_owned c = well_owned _ _ _ _ _ _ _ _ _ _ _ (invariant_of-self c).0

pub returns-clause-entries : goal.returns-clause-entries
returns-clause-entries c held =
    let es = c.self.inside.slots.items in
    let at = subst (λ (l : List Entry). IsPlaceOf l c.args.tag.now c.args.mode c.in-Some.place) c.deref.ensures.value (c.in-Some.ensures {u = tt}) in
    ap present c.raise.ensures.slots
    ∙ (entries-raised (opened es) c.self.inside.index c.args.tag.now c.args.mode c.args.owner c.in-Some.place (entry_at es c.in-Some.place) c.self.invariant.0.table.kept.indexed at.there at.own
    ∙ ap (λ v. with_one_more v.entries c.args.tag.now c.args.mode c.args.owner) c.self.view_is)

pub returns-clause-outer : goal.returns-clause-outer
returns-clause-outer c =
    let es = c.self.inside.slots.items in
    let at = subst (λ (l : List Entry). IsPlaceOf l c.args.tag.now c.args.mode c.in-Some.place) c.deref.ensures.value (c.in-Some.ensures {u = tt}) in
    let read : entry_at es c.in-Some.place ≡ c.index.result.now = sym (c.index.ensures ∙ get_or_default es c.in-Some.place c.index.result.now _ at.within) in
    let limit : count_for c.args.owner (entry_at es c.in-Some.place) ≢ max_count = λ full. c.if-count.false (c.count.ensures ∙ (sym (ap (count_for c.args.owner) read) ∙ full)) in
    let now : c.index-2.result.now.transaction ≡ (entry_at es c.in-Some.place).transaction =
    ap (λ (x : Entry). x.transaction) (c.index-2.ensures ∙ get_or_default es c.in-Some.place c.index-2.result.now _ at.within) in
    let k = c.keep.ensures in
    (raised-table c.in-Some.place c.index-2.result.now.transaction c.args.owner c.self.invariant.0 at limit c.raise.ensures.slots c.raise.ensures.number c.raise.ensures.capacity k.number now
    (record { filled = k.filled; same = k.same; others = k.others; touched_ = k.touched; no_more = k.no_more })).1
    ∙ ap (λ v. v.outer) c.self.view_is
