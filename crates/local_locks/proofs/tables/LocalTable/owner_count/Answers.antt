use Rattle.std.proofs.Common.{◌≡◌, List, sym, ap, subst, ◌∙◌}
use Rattle.std.specs.Prelude.{None}
use Rattle.std.proofs.lemmas.List.{get_or_default}
use Rattle.local_locks.specs.declared.records.Entry.{Entry}
use Rattle.local_locks.specs.Owned.{IsWellOwned, entry_for, own_count_of}
use Rattle.local_locks.specs.Slots.{IsPlaceOf, opened, entry_at, present}
use Rattle.local_locks.specs.Levels.{row_at, own_count_in}
use Rattle.local_locks.proofs.Lemmas.Levels.{well_owned, own_count-at, own_count-none}
use Rattle.local_locks.proofs.tables.LocalTable.owner_count.Goals as goal

pub returns-in-Some-clause-count : goal.returns-in-Some-clause-count
returns-in-Some-clause-count c =
    let es = c.self.inside.slots.items in
    let at = subst (λ (l : List Entry). IsPlaceOf l c.args.tag c.args.mode c.in-Some.place) c.deref.ensures.value (c.in-Some.ensures {u = tt}) in
    let read : c.index.result.now ≡ entry_at es c.in-Some.place = c.index.ensures ∙ get_or_default es c.in-Some.place c.index.result.now _ at.within in
    c.own_count.ensures
    ∙ ((λ i. own_count_in c.self.inside.depth (row_at (c.deref-in-Some.ensures.value i) c.in-Some.place) c.args.owner (read i))
    ∙ (sym (own_count-at (opened es) c.self.inside.index c.self.inside.outer.items c.self.inside.depth c.self.inside.touched 0 0 0 c.args.tag c.args.mode
    c.self.invariant.0.table.kept.indexed c.self.invariant.0.leveled c.args.owner c.in-Some.place (entry_at es c.in-Some.place) at.there at.own)
    ∙ ap (λ v. own_count_of v c.args.tag c.args.mode c.args.owner) c.self.view_is))

pub returns-in-Some-clause-well_owned : goal.returns-in-Some-clause-well_owned
returns-in-Some-clause-well_owned c = subst IsWellOwned c.self.view_is (well_owned _ _ _ _ _ _ _ _ _ _ _ c.self.invariant.0)

pub returns-in-None-clause-count : goal.returns-in-None-clause-count
returns-in-None-clause-count c =
    let es = c.self.inside.slots.items in
    let none = subst (λ (l : List Entry). entry_for (present (opened l)) c.args.tag c.args.mode ≡ None) c.deref.ensures.value (c.in-None.ensures {u = tt}) in
    sym (own_count-none (opened es) c.self.inside.index c.self.inside.outer.items c.self.inside.depth c.self.inside.touched 0 0 0 c.args.tag c.args.mode
    c.self.invariant.0.table.kept.indexed c.self.invariant.0.leveled c.args.owner none)
    ∙ ap (λ v. own_count_of v c.args.tag c.args.mode c.args.owner) c.self.view_is

pub returns-in-None-clause-well_owned : goal.returns-in-None-clause-well_owned
returns-in-None-clause-well_owned c = subst IsWellOwned c.self.view_is (well_owned _ _ _ _ _ _ _ _ _ _ _ c.self.invariant.0)
