use Rattle.std.proofs.Common.{◌≡◌, ◌-◌, ◌+◌, ◌<◌, List, ◌∷◌, Some, length, take, suc, refl, sym, ap, subst, ◌∙◌, arith}
use Rattle.std.specs.Prelude.{vec_capacity}
use Rattle.std.proofs.lemmas.List.{get_or_default}
use Rattle.local_locks.specs.declared.ends.End.TheVariants.{Inner}
use Rattle.local_locks.specs.declared.ends.Progress.{Progress}
use Rattle.local_locks.specs.declared.records.Entry.{Entry}
use Rattle.local_locks.specs.Owned.{count_in_all, ended_by, left_by, with_next_ended, without_innermost}
use Rattle.local_locks.specs.Slots.{opened, slot_at, present, at_start, IsKept}
use Rattle.local_locks.specs.Levels.{row_at, had_in, outer_of, without_level, IsLeveled, IsLeveledTable}
use Rattle.local_locks.proofs.Lemmas.Slots.{and_some}
use Rattle.local_locks.proofs.Lemmas.OpenSlots.{length-opened, opened_some}
use Rattle.local_locks.proofs.Lemmas.Ends.{ended_by-next, ended_by-none, left_by-next}
use Rattle.local_locks.proofs.Lemmas.EndSteps.{kept-compact}
use Rattle.local_locks.proofs.Lemmas.Levels.{well_owned, length-outer, outer-same, outer-taken}
use Rattle.local_locks.proofs.Lemmas.LevelRows.{paced-ended}
use Rattle.local_locks.proofs.Lemmas.LevelSteps.{leveled-moved, outer-gone}
use Rattle.local_locks.proofs.Lemmas.LevelTables.{table-with, taken-table, forgot-one, leveled-past}
use Rattle.local_locks.proofs.Lemmas.InnerSteps.{without, found-depth, outer-settled, leveled-settled, leveled-all, kept-settled, find-all, left-all, find-inner, present-inner, nothing-inner}
use Rattle.local_locks.proofs.tables.LocalTable.end_innermost.Goals as goal

-- ---- it came to the end of the slots

pub tidy-requires-clause-indexed : goal.tidy-requires-clause-indexed
tidy-requires-clause-indexed c =
    let es = c.self.inside.slots.items in
    let mid = c.settle_inner-place.new.slots.items in
    let rows = c.self.inside.outer.items in
    let rows' = c.settle_inner-place.new.outer.items in
    let place = c.settle_inner-place.result in
    let d = c.self.inside.depth - 1 in
    let is : c.self.inside.depth ≡ suc d = omega (arith, c.requires.nested, ap (λ v. length v.outer) c.self.view_is, length-outer c.self.inside.depth (opened es) (row_at rows)) in
    let leveled : IsLeveled (opened es) rows (suc d) c.self.inside.touched = subst (λ n. IsLeveled (opened es) rows n c.self.inside.touched) is c.self.invariant.0.leveled in
    let settled = c.settle_inner-place.ensures.settled in
    let stay = c.settle_inner-place.ensures.stay in
    let kept : IsKept (opened mid) c.self.inside.index c.self.inside.len c.self.inside.max_local at_start =
    kept-settled (opened es) (opened mid) rows rows' d place c.self.inside.touched leveled settled stay c.self.inside.index c.self.inside.len c.self.inside.max_local c.self.inside.progress c.self.invariant.0.table.kept in
    kept.indexed

pub invariant_of-self : goal.invariant_of-self
invariant_of-self c = (
  let es = c.self.inside.slots.items in
      let mid = c.settle_inner-place.new.slots.items in
      let rows = c.self.inside.outer.items in
      let rows' = c.settle_inner-place.new.outer.items in
      let place = c.settle_inner-place.result in
      let d = c.self.inside.depth - 1 in
      let is : c.self.inside.depth ≡ suc d = omega (arith, c.requires.nested, ap (λ v. length v.outer) c.self.view_is, length-outer c.self.inside.depth (opened es) (row_at rows)) in
      let leveled : IsLeveled (opened es) rows (suc d) c.self.inside.touched = subst (λ n. IsLeveled (opened es) rows n c.self.inside.touched) is c.self.invariant.0.leveled in
      let settled = c.settle_inner-place.ensures.settled in
      let stay = c.settle_inner-place.ensures.stay in
      let kept : IsKept (opened mid) c.self.inside.index c.self.inside.len c.self.inside.max_local at_start =
      kept-settled (opened es) (opened mid) rows rows' d place c.self.inside.touched leveled settled stay c.self.inside.index c.self.inside.len c.self.inside.max_local c.self.inside.progress c.self.invariant.0.table.kept in
      let all : place ≡ length (opened es) = omega (arith, c.if-place-len.true, c.len.ensures, c.settle_inner-place.new.slots.ok.0, c.settle_inner-place.ensures.number, length-opened es) in
      let done = leveled-all (opened es) (opened mid) rows rows' d place c.self.inside.touched leveled settled stay all in
      table-with c.self.invariant.0
      (record {
        kept = subst (λ (p : Progress). IsKept (opened c.tidy.new.slots.items) c.tidy.new.index c.self.inside.len c.self.inside.max_local p) (sym c.start-self-inside.ensures)
            (kept-compact (opened mid) (opened c.tidy.new.slots.items) c.self.inside.index c.tidy.new.index c.self.inside.len c.self.inside.max_local at_start kept c.tidy.ensures.indexed c.tidy.ensures.entries);
        few = omega (arith, c.tidy.ensures.shorter, c.settle_inner-place.ensures.number, c.self.invariant.0.table.few);
      })
      (leveled-moved (opened mid) (opened c.tidy.new.slots.items) rows' c.tidy.new.outer.items d 0 done c.tidy.ensures.moved)
      (omega (arith, c.tidy.ensures.shorter, c.settle_inner-place.ensures.number)) (c.tidy.ensures.moved.number ∙ settled.lists)
      (c.tidy.ensures.capacity ∙ c.settle_inner-place.ensures.capacity) c.tidy.ensures.index_room,
  paced-ended c.self.inside.depth c.self.inside.at_once c.self.inside.hint c.most_at_once-self-inside.result c.self.invariant.1
      (omega (arith, c.requires.nested, ap (λ v. length v.outer) c.self.view_is, length-outer c.self.inside.depth (opened c.self.inside.slots.items) (row_at c.self.inside.outer.items))) c.most_at_once-self-inside.ensures,
)

pub returns-then-place-len-clause-last : goal.returns-then-place-len-clause-last
returns-then-place-len-clause-last c =
    let es = c.self.inside.slots.items in
    let mid = c.settle_inner-place.new.slots.items in
    let rows = c.self.inside.outer.items in
    let rows' = c.settle_inner-place.new.outer.items in
    let place = c.settle_inner-place.result in
    let d = c.self.inside.depth - 1 in
    let is : c.self.inside.depth ≡ suc d = omega (arith, c.requires.nested, ap (λ v. length v.outer) c.self.view_is, length-outer c.self.inside.depth (opened es) (row_at rows)) in
    let leveled : IsLeveled (opened es) rows (suc d) c.self.inside.touched = subst (λ n. IsLeveled (opened es) rows n c.self.inside.touched) is c.self.invariant.0.leveled in
    let settled = c.settle_inner-place.ensures.settled in
    let stay = c.settle_inner-place.ensures.stay in
    let all : place ≡ length (opened es) = omega (arith, c.if-place-len.true, c.len.ensures, c.settle_inner-place.new.slots.ok.0, c.settle_inner-place.ensures.number, length-opened es) in
    let found : without_innermost c.args.self.now ≡ present (without d (opened es) (row_at rows)) =
    sym (ap without_innermost c.self.view_is)
    ∙ found-depth (opened es) c.self.inside.index rows c.self.inside.depth d c.self.inside.touched 0 0 0 is c.self.invariant.0.table.kept.indexed c.self.invariant.0.leveled in
    ap (ended_by Inner) found
    ∙ ended_by-none Inner (present (without d (opened es) (row_at rows))) (find-all (opened es) (opened mid) rows rows' d place c.self.inside.touched leveled settled stay all)

pub returns-then-place-len-clause-left : goal.returns-then-place-len-clause-left
returns-then-place-len-clause-left c =
    let es = c.self.inside.slots.items in
    let mid = c.settle_inner-place.new.slots.items in
    let rows = c.self.inside.outer.items in
    let rows' = c.settle_inner-place.new.outer.items in
    let place = c.settle_inner-place.result in
    let d = c.self.inside.depth - 1 in
    let is : c.self.inside.depth ≡ suc d = omega (arith, c.requires.nested, ap (λ v. length v.outer) c.self.view_is, length-outer c.self.inside.depth (opened es) (row_at rows)) in
    let leveled : IsLeveled (opened es) rows (suc d) c.self.inside.touched = subst (λ n. IsLeveled (opened es) rows n c.self.inside.touched) is c.self.invariant.0.leveled in
    let settled = c.settle_inner-place.ensures.settled in
    let stay = c.settle_inner-place.ensures.stay in
    let all : place ≡ length (opened es) = omega (arith, c.if-place-len.true, c.len.ensures, c.settle_inner-place.new.slots.ok.0, c.settle_inner-place.ensures.number, length-opened es) in
    let found : without_innermost c.args.self.now ≡ present (without d (opened es) (row_at rows)) =
    sym (ap without_innermost c.self.view_is)
    ∙ found-depth (opened es) c.self.inside.index rows c.self.inside.depth d c.self.inside.touched 0 0 0 is c.self.invariant.0.table.kept.indexed c.self.invariant.0.leveled in
    c.tidy.ensures.entries
    ∙ (left-all (opened es) (opened mid) rows rows' d place c.self.inside.touched leveled settled stay all ∙ sym (ap (left_by Inner) found))

pub returns-then-place-len-clause-ended : goal.returns-then-place-len-clause-ended
returns-then-place-len-clause-ended c =
    let es = c.self.inside.slots.items in
    let mid = c.settle_inner-place.new.slots.items in
    let rows = c.self.inside.outer.items in
    let rows' = c.settle_inner-place.new.outer.items in
    let place = c.settle_inner-place.result in
    let d = c.self.inside.depth - 1 in
    let is : c.self.inside.depth ≡ suc d = omega (arith, c.requires.nested, ap (λ v. length v.outer) c.self.view_is, length-outer c.self.inside.depth (opened es) (row_at rows)) in
    let leveled : IsLeveled (opened es) rows (suc d) c.self.inside.touched = subst (λ n. IsLeveled (opened es) rows n c.self.inside.touched) is c.self.invariant.0.leveled in
    let settled = c.settle_inner-place.ensures.settled in
    let stay = c.settle_inner-place.ensures.stay in
    outer-same d (opened c.tidy.new.slots.items) (opened mid) (row_at c.tidy.new.outer.items) (row_at rows') (λ level below. c.tidy.ensures.told level)
    ∙ (outer-settled (opened es) (opened mid) rows rows' d place c.self.inside.touched leveled settled stay d (omega arith)
    ∙ (sym (outer-taken d (opened es) (row_at rows))
    ∙ (ap (λ (o : List (List Entry)). take (length o - 1) o) (ap (λ n. outer_of n (opened es) (row_at rows)) (sym is))
    ∙ ap (λ v. take (length v.outer - 1) v.outer) c.self.view_is)))

pub returns-then-place-len-clause-well_owned : goal.returns-then-place-len-clause-well_owned
returns-then-place-len-clause-well_owned c = well_owned _ _ _ _ _ _ _ _ _ _ _ (invariant_of-self c).0

-- ---- it found an entry that it takes away

pub take_ended-requires-clause-indexed : goal.take_ended-requires-clause-indexed
take_ended-requires-clause-indexed c =
    let es = c.self.inside.slots.items in
    let mid = c.settle_inner-place.new.slots.items in
    let rows = c.self.inside.outer.items in
    let rows' = c.settle_inner-place.new.outer.items in
    let place = c.settle_inner-place.result in
    let d = c.self.inside.depth - 1 in
    let is : c.self.inside.depth ≡ suc d = omega (arith, c.requires.nested, ap (λ v. length v.outer) c.self.view_is, length-outer c.self.inside.depth (opened es) (row_at rows)) in
    let leveled : IsLeveled (opened es) rows (suc d) c.self.inside.touched = subst (λ n. IsLeveled (opened es) rows n c.self.inside.touched) is c.self.invariant.0.leveled in
    let settled = c.settle_inner-place.ensures.settled in
    let stay = c.settle_inner-place.ensures.stay in
    let kept : IsKept (opened mid) c.self.inside.index c.self.inside.len c.self.inside.max_local at_start =
    kept-settled (opened es) (opened mid) rows rows' d place c.self.inside.touched leveled settled stay c.self.inside.index c.self.inside.len c.self.inside.max_local c.self.inside.progress c.self.invariant.0.table.kept in
    kept.indexed

pub overflow_sub-self-2 : goal.overflow_sub-self-2
overflow_sub-self-2 c =
    let es = c.self.inside.slots.items in
    let mid = c.settle_inner-place.new.slots.items in
    let rows = c.self.inside.outer.items in
    let rows' = c.settle_inner-place.new.outer.items in
    let place = c.settle_inner-place.result in
    let d = c.self.inside.depth - 1 in
    let is : c.self.inside.depth ≡ suc d = omega (arith, c.requires.nested, ap (λ v. length v.outer) c.self.view_is, length-outer c.self.inside.depth (opened es) (row_at rows)) in
    let leveled : IsLeveled (opened es) rows (suc d) c.self.inside.touched = subst (λ n. IsLeveled (opened es) rows n c.self.inside.touched) is c.self.invariant.0.leveled in
    let settled = c.settle_inner-place.ensures.settled in
    let stay = c.settle_inner-place.ensures.stay in
    let kept : IsKept (opened mid) c.self.inside.index c.self.inside.len c.self.inside.max_local at_start =
    kept-settled (opened es) (opened mid) rows rows' d place c.self.inside.touched leveled settled stay c.self.inside.index c.self.inside.len c.self.inside.max_local c.self.inside.progress c.self.invariant.0.table.kept in
    omega (arith, kept.number, c.take_ended.ensures.taken.number)

pub invariant_of-self-2 : goal.invariant_of-self-2
invariant_of-self-2 c = (
  let es = c.self.inside.slots.items in
      let mid = c.settle_inner-place.new.slots.items in
      let rows = c.self.inside.outer.items in
      let rows' = c.settle_inner-place.new.outer.items in
      let place = c.settle_inner-place.result in
      let d = c.self.inside.depth - 1 in
      let is : c.self.inside.depth ≡ suc d = omega (arith, c.requires.nested, ap (λ v. length v.outer) c.self.view_is, length-outer c.self.inside.depth (opened es) (row_at rows)) in
      let leveled : IsLeveled (opened es) rows (suc d) c.self.inside.touched = subst (λ n. IsLeveled (opened es) rows n c.self.inside.touched) is c.self.invariant.0.leveled in
      let settled = c.settle_inner-place.ensures.settled in
      let stay = c.settle_inner-place.ensures.stay in
      let kept : IsKept (opened mid) c.self.inside.index c.self.inside.len c.self.inside.max_local at_start =
      kept-settled (opened es) (opened mid) rows rows' d place c.self.inside.touched leveled settled stay c.self.inside.index c.self.inside.len c.self.inside.max_local c.self.inside.progress c.self.invariant.0.table.kept in
      let within : place < length (opened es) = omega (arith, c.if-place-len.false, c.len.ensures, c.settle_inner-place.new.slots.ok.0, c.settle_inner-place.ensures.number, c.settle_inner-place.ensures.within, length-opened es) in
      let ended = and_some (λ e. count_in_all (without_level d (row_at rows place) e) ≡ 0) (slot_at (opened es) place) (c.settle_inner-place.ensures.ended (omega (arith, within, length-opened es))) in
      let f = c.forget.ensures in
      let forgot = forgot-one rows' c.forget.new.outer.items place f.empty f.before f.behind in
      let t = c.take_ended.ensures.taken in
      let middle : IsLeveledTable mid (vec_capacity c.settle_inner-place.new.slots) c.self.inside.index c.self.inside.len c.self.inside.max_local c.start-self-inside.result rows' c.self.inside.depth place =
      table-with c.self.invariant.0
      (record {
        kept = subst (λ (p : Progress). IsKept (opened mid) c.self.inside.index c.self.inside.len c.self.inside.max_local p) (sym c.start-self-inside.ensures) kept;
        few = omega (arith, c.settle_inner-place.ensures.number, c.self.invariant.0.table.few);
      })
      (subst (λ n. IsLeveled (opened mid) rows' n place) (sym is) (leveled-settled (opened es) (opened mid) rows rows' d place c.self.inside.touched leveled settled stay place (omega arith)))
      (omega (arith, c.settle_inner-place.ensures.number)) settled.lists c.settle_inner-place.ensures.capacity refl in
      let taken = taken-table place middle t c.take_ended.ensures.indexed c.take_ended.ensures.capacity c.take_ended.ensures.index_room f.number forgot.0 forgot.1 in
      record {
        table = taken.table;
        leveled = leveled-past (opened c.take_ended.new.slots.items) c.forget.new.outer.items c.self.inside.depth place taken.leveled forgot.0;
        lists = taken.lists;
        enough = taken.enough;
      },
  c.self.invariant.1,
)

pub returns-clause-well_owned : goal.returns-clause-well_owned
returns-clause-well_owned c = well_owned _ _ _ _ _ _ _ _ _ _ _ (invariant_of-self-2 c).0

-- the entries without it, as the end finds them
pub returns-clause-entries : goal.returns-clause-entries
returns-clause-entries c = λ _.
    let es = c.self.inside.slots.items in
    let mid = c.settle_inner-place.new.slots.items in
    let rows = c.self.inside.outer.items in
    let rows' = c.settle_inner-place.new.outer.items in
    let place = c.settle_inner-place.result in
    let d = c.self.inside.depth - 1 in
    let is : c.self.inside.depth ≡ suc d = omega (arith, c.requires.nested, ap (λ v. length v.outer) c.self.view_is, length-outer c.self.inside.depth (opened es) (row_at rows)) in
    let leveled : IsLeveled (opened es) rows (suc d) c.self.inside.touched = subst (λ n. IsLeveled (opened es) rows n c.self.inside.touched) is c.self.invariant.0.leveled in
    let settled = c.settle_inner-place.ensures.settled in
    let stay = c.settle_inner-place.ensures.stay in
    let within : place < length (opened es) = omega (arith, c.if-place-len.false, c.len.ensures, c.settle_inner-place.new.slots.ok.0, c.settle_inner-place.ensures.number, c.settle_inner-place.ensures.within, length-opened es) in
    let ended = and_some (λ e. count_in_all (without_level d (row_at rows place) e) ≡ 0) (slot_at (opened es) place) (c.settle_inner-place.ensures.ended (omega (arith, within, length-opened es))) in
    let f = c.forget.ensures in
    let forgot = forgot-one rows' c.forget.new.outer.items place f.empty f.before f.behind in
    let t = c.take_ended.ensures.taken in
    let found : without_innermost c.args.self.now ≡ present (without d (opened es) (row_at rows)) =
    sym (ap without_innermost c.self.view_is)
    ∙ found-depth (opened es) c.self.inside.index rows c.self.inside.depth d c.self.inside.touched 0 0 0 is c.self.invariant.0.table.kept.indexed c.self.invariant.0.leveled in
    found-depth (opened c.take_ended.new.slots.items) c.take_ended.new.index c.forget.new.outer.items c.self.inside.depth d (place + 1) 0 0 0 is c.take_ended.ensures.indexed (invariant_of-self-2 c).0.leveled
    ∙ (present-inner (opened es) (opened mid) rows rows' d place c.self.inside.touched leveled settled stay (opened c.take_ended.new.slots.items) c.forget.new.outer.items ended.0 ended.1 ended.2 t.gone t.others forgot.1
    ∙ sym (ap (with_next_ended Inner) found))

pub returns-clause-next : goal.returns-clause-next
returns-clause-next c =
    let es = c.self.inside.slots.items in
    let mid = c.settle_inner-place.new.slots.items in
    let rows = c.self.inside.outer.items in
    let rows' = c.settle_inner-place.new.outer.items in
    let place = c.settle_inner-place.result in
    let d = c.self.inside.depth - 1 in
    let is : c.self.inside.depth ≡ suc d = omega (arith, c.requires.nested, ap (λ v. length v.outer) c.self.view_is, length-outer c.self.inside.depth (opened es) (row_at rows)) in
    let leveled : IsLeveled (opened es) rows (suc d) c.self.inside.touched = subst (λ n. IsLeveled (opened es) rows n c.self.inside.touched) is c.self.invariant.0.leveled in
    let settled = c.settle_inner-place.ensures.settled in
    let stay = c.settle_inner-place.ensures.stay in
    let within : place < length (opened es) = omega (arith, c.if-place-len.false, c.len.ensures, c.settle_inner-place.new.slots.ok.0, c.settle_inner-place.ensures.number, c.settle_inner-place.ensures.within, length-opened es) in
    let ended = and_some (λ e. count_in_all (without_level d (row_at rows place) e) ≡ 0) (slot_at (opened es) place) (c.settle_inner-place.ensures.ended (omega (arith, within, length-opened es))) in
    let f = c.forget.ensures in
    let forgot = forgot-one rows' c.forget.new.outer.items place f.empty f.before f.behind in
    let t = c.take_ended.ensures.taken in
    let found : without_innermost c.args.self.now ≡ present (without d (opened es) (row_at rows)) =
    sym (ap without_innermost c.self.view_is)
    ∙ found-depth (opened es) c.self.inside.index rows c.self.inside.depth d c.self.inside.touched 0 0 0 is c.self.invariant.0.table.kept.indexed c.self.invariant.0.leveled in
    let there : slot_at (opened mid) place ≡ Some ended.0 = settled.others place (omega arith) ∙ ended.1 in
    let read : c.index-entry.result.now ≡ ended.0 =
    c.index-entry.ensures ∙ (get_or_default mid place c.index-entry.result.now _ (opened_some mid place ended.0 there).0 ∙ (opened_some mid place ended.0 there).1) in
    ap (ended_by Inner) found
    ∙ (ended_by-next Inner (present (without d (opened es) (row_at rows))) (without_level d (row_at rows place) ended.0)
    (find-inner (opened es) (opened mid) rows rows' d place c.self.inside.touched leveled settled stay (opened c.take_ended.new.slots.items) c.forget.new.outer.items ended.0 ended.1 ended.2 t.gone t.others forgot.1)
    ∙ (λ i. ((sym read i).tag, (sym read i).mode) ∷ ended_by Inner (ap (with_next_ended Inner) (sym found) i))
    ∙ ap (λ (l : List Entry). (c.index-entry.result.now.tag, c.index-entry.result.now.mode) ∷ ended_by Inner l) (sym (returns-clause-entries c refl)))

pub returns-clause-outlives : goal.returns-clause-outlives
returns-clause-outlives c = λ _. ap (left_by Inner) (returns-clause-entries c refl) ∙ left_by-next Inner (without_innermost c.args.self.now)

pub returns-clause-outer : goal.returns-clause-outer
returns-clause-outer c = λ _.
    let es = c.self.inside.slots.items in
    let mid = c.settle_inner-place.new.slots.items in
    let rows = c.self.inside.outer.items in
    let rows' = c.settle_inner-place.new.outer.items in
    let place = c.settle_inner-place.result in
    let d = c.self.inside.depth - 1 in
    let is : c.self.inside.depth ≡ suc d = omega (arith, c.requires.nested, ap (λ v. length v.outer) c.self.view_is, length-outer c.self.inside.depth (opened es) (row_at rows)) in
    let leveled : IsLeveled (opened es) rows (suc d) c.self.inside.touched = subst (λ n. IsLeveled (opened es) rows n c.self.inside.touched) is c.self.invariant.0.leveled in
    let settled = c.settle_inner-place.ensures.settled in
    let stay = c.settle_inner-place.ensures.stay in
    let within : place < length (opened es) = omega (arith, c.if-place-len.false, c.len.ensures, c.settle_inner-place.new.slots.ok.0, c.settle_inner-place.ensures.number, c.settle_inner-place.ensures.within, length-opened es) in
    let ended = and_some (λ e. count_in_all (without_level d (row_at rows place) e) ≡ 0) (slot_at (opened es) place) (c.settle_inner-place.ensures.ended (omega (arith, within, length-opened es))) in
    let f = c.forget.ensures in
    let forgot = forgot-one rows' c.forget.new.outer.items place f.empty f.before f.behind in
    let t = c.take_ended.ensures.taken in
    let there : slot_at (opened mid) place ≡ Some ended.0 = settled.others place (omega arith) ∙ ended.1 in
    outer-gone (opened mid) (opened c.take_ended.new.slots.items) rows' c.forget.new.outer.items c.self.inside.depth place ended.0 there t.gone t.others forgot.1
    (λ level below. ap (λ row. had_in row level ended.0.transaction) (settled.other_lists place (omega arith))
    ∙ nothing-inner (opened es) (opened mid) rows rows' d place c.self.inside.touched leveled settled stay (opened c.take_ended.new.slots.items) c.forget.new.outer.items ended.0 ended.1 ended.2 t.gone t.others forgot.1 level (omega (arith, is)))
    ∙ (outer-settled (opened es) (opened mid) rows rows' d place c.self.inside.touched leveled settled stay c.self.inside.depth (omega (arith, is))
    ∙ ap (λ v. v.outer) c.self.view_is)
