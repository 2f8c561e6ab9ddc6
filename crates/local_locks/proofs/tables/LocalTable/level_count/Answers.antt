use Rattle.std.proofs.Common.{◌≡◌, ◌<◌, List, length, sym, ap, subst, ◌∙◌, arith}
use Rattle.std.specs.Prelude.{None}
use Rattle.std.proofs.lemmas.List.{get_or_default}
use Rattle.local_locks.specs.declared.records.Entry.{Entry}
use Rattle.local_locks.specs.Owned.{IsWellOwned, entry_for, level_count_of}
use Rattle.local_locks.specs.Slots.{IsPlaceOf, opened, entry_at, present}
use Rattle.local_locks.specs.Levels.{row_at, level_count_in}
use Rattle.local_locks.proofs.Lemmas.Levels.{well_owned, level_count-at, level_count-none}
use Rattle.local_locks.proofs.tables.LocalTable.level_count.Goals as goal

pub returns-in-Some-clause-count : goal.returns-in-Some-clause-count
returns-in-Some-clause-count c =
    let es = c.self.inside.slots.items in
    let rows = c.self.inside.outer.items in
    let at = subst (λ (l : List Entry). IsPlaceOf l c.args.tag c.args.mode c.in-Some.place) c.deref.ensures.value (c.in-Some.ensures {u = tt}) in
    let read : c.index.result.now ≡ entry_at es c.in-Some.place = c.index.ensures ∙ get_or_default es c.in-Some.place c.index.result.now _ at.within in
    let listed : c.in-Some.place < length rows = omega (arith, at.within, c.self.invariant.0.lists) in
    let row : c.index-in-Some.result.now ≡ row_at rows c.in-Some.place = c.index-in-Some.ensures ∙ get_or_default rows c.in-Some.place c.index-in-Some.result.now _ listed in
    c.level_count.ensures
    ∙ ((λ i. level_count_in (row i) c.args.level (read i))
    ∙ (sym (level_count-at (opened es) c.self.inside.index rows c.self.inside.depth c.self.inside.touched 0 0 0 c.args.tag c.args.mode
    c.self.invariant.0.table.kept.indexed c.self.invariant.0.leveled c.in-Some.place (entry_at es c.in-Some.place) c.args.level at.there at.own)
    ∙ ap (λ v. level_count_of v c.args.tag c.args.mode c.args.level) c.self.view_is))

pub returns-in-Some-clause-well_owned : goal.returns-in-Some-clause-well_owned
returns-in-Some-clause-well_owned c = subst IsWellOwned c.self.view_is (well_owned _ _ _ _ _ _ _ _ _ _ _ c.self.invariant.0)

pub returns-in-None-clause-count : goal.returns-in-None-clause-count
returns-in-None-clause-count c =
    let none = subst (λ (l : List Entry). entry_for (present (opened l)) c.args.tag c.args.mode ≡ None) c.deref.ensures.value (c.in-None.ensures {u = tt}) in
    sym (level_count-none (opened c.self.inside.slots.items) c.self.inside.index c.self.inside.outer.items c.self.inside.depth c.self.inside.touched 0 0 0 c.args.tag c.args.mode
    c.self.invariant.0.table.kept.indexed c.self.invariant.0.leveled c.args.level none)
    ∙ ap (λ v. level_count_of v c.args.tag c.args.mode c.args.level) c.self.view_is

pub returns-in-None-clause-well_owned : goal.returns-in-None-clause-well_owned
returns-in-None-clause-well_owned c = subst IsWellOwned c.self.view_is (well_owned _ _ _ _ _ _ _ _ _ _ _ c.self.invariant.0)
