use Rattle.std.proofs.Common.{refl, inl, ◌≡◌, ◌≢◌, ◌-◌, ℕ, [], ◌∷◌, ◌++◌, Some, sym, ap, subst, ◌∙◌, length, take, drop, get_or, arith}
use Rattle.std.specs.Prelude.{List, find}
use Rattle.std.proofs.lemmas.List.{take_at}
use Rattle.local_locks.specs.declared.records.Entry.{Entry}
use Rattle.local_locks.specs.Owned.{is_ended, ended_by, left_by, with_next_ended}
use Rattle.local_locks.specs.Slots.{IsKept, IsIndexed, opened, slot_at, present, came_to, reached}
use Rattle.local_locks.specs.declared.ends.Progress.{Progress}
use Rattle.local_locks.proofs.Lemmas.Levels.{well_owned}
use Rattle.local_locks.specs.Levels.{row_at}
use Rattle.local_locks.proofs.Lemmas.Levels.{length-outer}
use Rattle.local_locks.proofs.Lemmas.LevelRows.{leveled-empty}
use Rattle.local_locks.proofs.Lemmas.LevelTables.{table-with, leveled-ended, moved-first}
use Rattle.local_locks.proofs.Lemmas.Kept.{past-le}
use Rattle.local_locks.proofs.Lemmas.OpenSlots.{length-opened, opened_some}
use Rattle.local_locks.proofs.Lemmas.Ends.{ended_by-next, ended_by-none, left_by-next, with_next_ended-none, present-passed, find-passed}
use Rattle.local_locks.proofs.Lemmas.EndSteps.{Walked, walked-slots, kept-walked, kept-tidy, kept-next, walked_ended, walked_passed, walked_place}
use Rattle.local_locks.proofs.Lemmas.TableSteps.{kept-taken}
use Rattle.local_locks.proofs.tables.LocalTable.end_transaction.Goals as goal

-- ---- it came to the end of the slots

walked : (c : goal.After-come_to) → Walked c.args.end (opened c.self.inside.slots.items) (opened c.settle-place.new.slots) c.settle-place.result
walked c = walked-slots c.args.end c.deref_mut.result.now c.self.inside.slots.items c.settle-place.new.slots c.settle-place.result c.deref_mut.ensures.value
    c.settle-place.auto.slots c.settle-place.ensures.within c.settle-place.ensures.kept c.settle-place.ensures.settled c.settle-place.ensures.others c.settle-place.ensures.ended

-- the slots after the walk
slots_are : (c : goal.After-come_to) → take c.self.inside.slots.len (c.settle-place.new.slots ++ drop (length c.settle-place.new.slots) c.self.inside.slots.items) ≡ c.settle-place.new.slots
slots_are c =
    take_at c.settle-place.new.slots (drop (length c.settle-place.new.slots) c.self.inside.slots.items) c.self.inside.slots.len
    (omega (arith, c.settle-place.auto.slots, c.deref_mut.ensures.len))

at_end : (c : goal.After-come_to) → c.settle-place.result ≡ length (opened c.self.inside.slots.items)
at_end c = c.if-place-len.true ∙ (c.len-2.ensures ∙ (c.self.inside.slots.ok.0 ∙ sym (length-opened c.self.inside.slots.items)))

-- the entries after they were moved together
gathered : (c : goal.After-come_to) → present (opened c.tidy.new.slots.items) ≡ present (opened c.settle-place.new.slots)
gathered c = c.tidy.ensures.entries ∙ ap (λ (es : List Entry). present (opened es)) (slots_are c)

pub tidy-requires-clause-indexed : goal.tidy-requires-clause-indexed
tidy-requires-clause-indexed c =
    let walked = walked-slots c.args.end c.deref_mut.result.now c.self.inside.slots.items c.settle-place.new.slots c.settle-place.result c.deref_mut.ensures.value
    c.settle-place.auto.slots c.settle-place.ensures.within c.settle-place.ensures.kept c.settle-place.ensures.settled c.settle-place.ensures.others c.settle-place.ensures.ended in
    let is = take_at c.settle-place.new.slots (drop (length c.settle-place.new.slots) c.self.inside.slots.items) c.self.inside.slots.len (omega (arith, c.settle-place.auto.slots, c.deref_mut.ensures.len)) in
    let kept = kept-walked c.args.end (opened c.self.inside.slots.items) (opened c.settle-place.new.slots) c.settle-place.result c.self.inside.index c.self.inside.len c.self.inside.max_local c.self.inside.progress walked c.self.invariant.0.table.kept in
    subst (λ (es : List Entry). IsIndexed (opened es) c.self.inside.index) (sym is) kept.indexed

pub invariant_of-self : goal.invariant_of-self
invariant_of-self c = (
  let es = c.self.inside.slots.items in
      let mid = take c.self.inside.slots.len (c.settle-place.new.slots ++ drop (length c.settle-place.new.slots) es) in
      let forgot : (k : ℕ) (e : Entry) → slot_at (opened mid) k ≡ Some e → row_at c.forget.new.outer.items k ≡ [] =
      λ k e at. c.forget.ensures.empty k (omega arith) (omega (arith, (opened_some mid k e at).0, ap (λ (l : List Entry). length l) (slots_are c), c.settle-place.auto.slots, c.deref_mut.ensures.len, at_end c, length-opened es)) in
      table-with c.self.invariant.0
      (record {
        kept = subst (λ (p : Progress). IsKept (opened c.tidy.new.slots.items) c.tidy.new.index c.self.inside.len c.self.inside.max_local p) (sym c.come_to.ensures)
            (kept-tidy c.args.end (opened c.self.inside.slots.items) (opened c.settle-place.new.slots) (opened c.tidy.new.slots.items) c.settle-place.result c.len-then-place-len.result c.self.inside.index c.tidy.new.index
            c.self.inside.len c.self.inside.max_local c.self.inside.progress (walked c) (at_end c) c.self.invariant.0.table.kept c.tidy.ensures.indexed (gathered c));
        few = omega (arith, c.tidy.ensures.shorter, ap (λ (es : List Entry). length es) (slots_are c), c.settle-place.auto.slots, c.deref_mut.ensures.len, c.self.inside.slots.ok.0, c.self.invariant.0.table.few);
      })
      (leveled-empty (opened c.tidy.new.slots.items) c.tidy.new.outer.items c.self.inside.touched (moved-first (opened mid) (opened c.tidy.new.slots.items) c.forget.new.outer.items c.tidy.new.outer.items c.tidy.ensures.moved forgot))
      (omega (arith, c.tidy.ensures.shorter, ap (λ (l : List Entry). length l) (slots_are c), c.settle-place.auto.slots, c.deref_mut.ensures.len, c.self.inside.slots.ok.0))
      (c.tidy.ensures.moved.number ∙ c.forget.ensures.number) c.tidy.ensures.capacity c.tidy.ensures.index_room,
  inl (refl, refl),
)

pub returns-then-place-len-clause-well_owned : goal.returns-then-place-len-clause-well_owned
returns-then-place-len-clause-well_owned c = well_owned _ _ _ _ _ _ _ _ _ _ _ (invariant_of-self c).0

pub returns-then-place-len-clause-entries : goal.returns-then-place-len-clause-entries
returns-then-place-len-clause-entries c =
    let passed = walked_passed c.args.end (opened c.self.inside.slots.items) (opened c.settle-place.new.slots) c.settle-place.result (walked c) (at_end c) in
    gathered c
    ∙ (present-passed c.args.end (opened c.self.inside.slots.items) (opened c.settle-place.new.slots) passed
    ∙ ap (λ v. with_next_ended c.args.end v.entries) c.self.view_is)

pub returns-then-place-len-clause-last : goal.returns-then-place-len-clause-last
returns-then-place-len-clause-last c =
    let passed = walked_passed c.args.end (opened c.self.inside.slots.items) (opened c.settle-place.new.slots) c.settle-place.result (walked c) (at_end c) in
    sym (ap (λ v. ended_by c.args.end v.entries) c.self.view_is)
    ∙ ended_by-none c.args.end (present (opened c.self.inside.slots.items)) (find-passed c.args.end (opened c.self.inside.slots.items) (opened c.settle-place.new.slots) passed)

pub returns-then-place-len-clause-left : goal.returns-then-place-len-clause-left
returns-then-place-len-clause-left c =
    let passed = walked_passed c.args.end (opened c.self.inside.slots.items) (opened c.settle-place.new.slots) c.settle-place.result (walked c) (at_end c) in
    gathered c
    ∙ (present-passed c.args.end (opened c.self.inside.slots.items) (opened c.settle-place.new.slots) passed
    ∙ (with_next_ended-none c.args.end (present (opened c.self.inside.slots.items)) (find-passed c.args.end (opened c.self.inside.slots.items) (opened c.settle-place.new.slots) passed)
    ∙ ap (λ v. left_by c.args.end v.entries) c.self.view_is))

pub returns-then-place-len-clause-outlives : goal.returns-then-place-len-clause-outlives
returns-then-place-len-clause-outlives c =
    let passed = walked_passed c.args.end (opened c.self.inside.slots.items) (opened c.settle-place.new.slots) c.settle-place.result (walked c) (at_end c) in
    ap (left_by c.args.end) (gathered c)
    ∙ (ap (left_by c.args.end) (present-passed c.args.end (opened c.self.inside.slots.items) (opened c.settle-place.new.slots) passed)
    ∙ (left_by-next c.args.end (present (opened c.self.inside.slots.items))
    ∙ ap (λ v. left_by c.args.end v.entries) c.self.view_is))

-- ---- it found an entry that it takes away

pub take_ended-requires-clause-indexed : goal.take_ended-requires-clause-indexed
take_ended-requires-clause-indexed c =
    let walked = walked-slots c.args.end c.deref_mut.result.now c.self.inside.slots.items c.settle-place.new.slots c.settle-place.result c.deref_mut.ensures.value
    c.settle-place.auto.slots c.settle-place.ensures.within c.settle-place.ensures.kept c.settle-place.ensures.settled c.settle-place.ensures.others c.settle-place.ensures.ended in
    let is = take_at c.settle-place.new.slots (drop (length c.settle-place.new.slots) c.self.inside.slots.items) c.self.inside.slots.len (omega (arith, c.settle-place.auto.slots, c.deref_mut.ensures.len)) in
    let kept = kept-walked c.args.end (opened c.self.inside.slots.items) (opened c.settle-place.new.slots) c.settle-place.result c.self.inside.index c.self.inside.len c.self.inside.max_local c.self.inside.progress walked c.self.invariant.0.table.kept in
    subst (λ (es : List Entry). IsIndexed (opened es) c.self.inside.index) (sym is) kept.indexed

pub overflow_sub-self : goal.overflow_sub-self
overflow_sub-self c =
    let walked = walked-slots c.args.end c.deref_mut.result.now c.self.inside.slots.items c.settle-place.new.slots c.settle-place.result c.deref_mut.ensures.value
    c.settle-place.auto.slots c.settle-place.ensures.within c.settle-place.ensures.kept c.settle-place.ensures.settled c.settle-place.ensures.others c.settle-place.ensures.ended in
    let is = take_at c.settle-place.new.slots (drop (length c.settle-place.new.slots) c.self.inside.slots.items) c.self.inside.slots.len (omega (arith, c.settle-place.auto.slots, c.deref_mut.ensures.len)) in
    let kept = kept-walked c.args.end (opened c.self.inside.slots.items) (opened c.settle-place.new.slots) c.settle-place.result c.self.inside.index c.self.inside.len c.self.inside.max_local c.self.inside.progress walked c.self.invariant.0.table.kept in
    let number = sym (ap (λ (es : List Entry). length (present (opened es))) is) ∙ c.take_ended.ensures.taken.number in
    omega (arith, kept.number, number)

pub invariant_of-self-2 : goal.invariant_of-self-2
invariant_of-self-2 c = (
  let walked = walked-slots c.args.end c.deref_mut.result.now c.self.inside.slots.items c.settle-place.new.slots c.settle-place.result c.deref_mut.ensures.value
      c.settle-place.auto.slots c.settle-place.ensures.within c.settle-place.ensures.kept c.settle-place.ensures.settled c.settle-place.ensures.others c.settle-place.ensures.ended in
      let is = take_at c.settle-place.new.slots (drop (length c.settle-place.new.slots) c.self.inside.slots.items) c.self.inside.slots.len (omega (arith, c.settle-place.auto.slots, c.deref_mut.ensures.len)) in
      let kept = kept-walked c.args.end (opened c.self.inside.slots.items) (opened c.settle-place.new.slots) c.settle-place.result c.self.inside.index c.self.inside.len c.self.inside.max_local c.self.inside.progress walked c.self.invariant.0.table.kept in
      let number = sym (ap (λ (es : List Entry). length (present (opened es))) is) ∙ c.take_ended.ensures.taken.number in
      let es = c.self.inside.slots.items in
      let t = c.take_ended.ensures.taken in
      let mid : (k : ℕ) → slot_at (opened (take c.self.inside.slots.len (c.settle-place.new.slots ++ drop (length c.settle-place.new.slots) es))) k ≡ slot_at (opened c.settle-place.new.slots) k =
      λ k. ap (λ (l : List Entry). slot_at (opened l) k) is in
      table-with c.self.invariant.0
      (record {
        kept = subst (λ (p : Progress). IsKept (opened c.take_ended.new.slots.items) c.take_ended.new.index (c.self.inside.len - 1) c.self.inside.max_local p) (sym c.come_to-2.ensures)
            (kept-next c.args.end (opened c.take_ended.new.slots.items) c.take_ended.new.index (c.self.inside.len - 1) c.self.inside.max_local c.settle-place.result c.take_ended.ensures.taken.gone
            (kept-taken (opened c.settle-place.new.slots) (opened c.take_ended.new.slots.items) c.self.inside.index c.take_ended.new.index c.self.inside.len c.self.inside.max_local (came_to c.args.end c.settle-place.result) c.settle-place.result
            kept c.take_ended.ensures.indexed c.take_ended.ensures.taken.gone (λ k apart. c.take_ended.ensures.taken.others k apart ∙ ap (λ (es : List Entry). slot_at (opened es) k) is) number));
        few = omega (arith, c.take_ended.ensures.taken.shorter, ap (λ (es : List Entry). length es) is, c.settle-place.auto.slots, c.deref_mut.ensures.len, c.self.inside.slots.ok.0, c.self.invariant.0.table.few);
      })
      (leveled-ended c.args.end (opened es) (opened c.take_ended.new.slots.items) c.self.inside.outer.items c.forget-2.new.outer.items c.self.inside.depth c.self.inside.touched c.min-from.result c.settle-place.result
      c.self.invariant.0.leveled (past-le c.args.end (opened es) (reached c.args.end c.self.inside.progress) c.min-from.result (omega (arith, c.min-from.ensures, c.reached.ensures)) (c.self.invariant.0.table.kept.past c.args.end)) c.settle-place.ensures.on
      (λ k before. t.others k (λ q. omega arith) ∙ (mid k ∙ walked.settled k before)) t.gone (λ k after. t.others k (λ q. omega arith) ∙ (mid k ∙ walked.others k (omega arith)))
      c.forget-2.ensures.empty c.forget-2.ensures.before c.forget-2.ensures.behind)
      (omega (arith, t.shorter, ap (λ (l : List Entry). length l) is, c.settle-place.auto.slots, c.deref_mut.ensures.len, c.self.inside.slots.ok.0))
      c.forget-2.ensures.number c.take_ended.ensures.capacity c.take_ended.ensures.index_room,
  c.self.invariant.1,
)

pub returns-clause-well_owned : goal.returns-clause-well_owned
returns-clause-well_owned c = well_owned _ _ _ _ _ _ _ _ _ _ _ (invariant_of-self-2 c).0

-- the entry that the end takes away next, and the entries without it
stepped : (c : goal.After-self-2-1) →
    (present (opened c.take_ended.new.slots.items) ≡ with_next_ended c.args.end (present (opened c.self.inside.slots.items))) × (find (is_ended c.args.end) (present (opened c.self.inside.slots.items)) ≡ Some c.index-entry.result.now)
stepped c =
    let walked = walked-slots c.args.end c.deref_mut.result.now c.self.inside.slots.items c.settle-place.new.slots c.settle-place.result c.deref_mut.ensures.value
    c.settle-place.auto.slots c.settle-place.ensures.within c.settle-place.ensures.kept c.settle-place.ensures.settled c.settle-place.ensures.others c.settle-place.ensures.ended in
    let is = take_at c.settle-place.new.slots (drop (length c.settle-place.new.slots) c.self.inside.slots.items) c.self.inside.slots.len (omega (arith, c.settle-place.auto.slots, c.deref_mut.ensures.len)) in
    let kept = kept-walked c.args.end (opened c.self.inside.slots.items) (opened c.settle-place.new.slots) c.settle-place.result c.self.inside.index c.self.inside.len c.self.inside.max_local c.self.inside.progress walked c.self.invariant.0.table.kept in
    let stops : c.settle-place.result ≢ length c.self.inside.slots.items = λ same. c.if-place-len.false (same ∙ sym (c.len-2.ensures ∙ c.self.inside.slots.ok.0)) in
    let at = walked_place c.args.end c.self.inside.slots.items c.settle-place.new.slots c.settle-place.result c.index-entry.result.now walked stops
    (c.index-entry.ensures ∙ ap (λ (es : List Entry). get_or es c.settle-place.result c.index-entry.result.now) is) in
    walked_ended c.args.end (opened c.self.inside.slots.items) (opened c.settle-place.new.slots) (opened c.take_ended.new.slots.items) c.settle-place.result c.index-entry.result.now walked at
    c.take_ended.ensures.taken.gone (λ k apart. c.take_ended.ensures.taken.others k apart ∙ ap (λ (es : List Entry). slot_at (opened es) k) is)

pub returns-clause-entries : goal.returns-clause-entries
returns-clause-entries c = (stepped c).0 ∙ ap (λ v. with_next_ended c.args.end v.entries) c.self.view_is

pub returns-clause-next : goal.returns-clause-next
returns-clause-next c =
    sym (ap (λ v. ended_by c.args.end v.entries) c.self.view_is)
    ∙ (ended_by-next c.args.end (present (opened c.self.inside.slots.items)) c.index-entry.result.now (stepped c).1
    ∙ ap (λ (l : List Entry). (c.index-entry.result.now.tag, c.index-entry.result.now.mode) ∷ ended_by c.args.end l) (sym (stepped c).0))

pub returns-clause-outlives : goal.returns-clause-outlives
returns-clause-outlives c =
    ap (left_by c.args.end) (stepped c).0
    ∙ (left_by-next c.args.end (present (opened c.self.inside.slots.items)) ∙ ap (λ v. left_by c.args.end v.entries) c.self.view_is)

pub returns-clause-level : goal.returns-clause-level
returns-clause-level c = λ _.
    omega (
      arith,
      ap (λ v. length v.outer) c.self.view_is,
      length-outer c.self.inside.depth (opened c.self.inside.slots.items) (row_at c.self.inside.outer.items),
      length-outer c.self.inside.depth (opened c.take_ended.new.slots.items) (row_at c.forget-2.new.outer.items),
    )
