use Rattle.std.proofs.Common.{List, ◌≡◌, ◌<◌, ◌≤◌, ℕ, Some, None, sym, ap, ◌∙◌, arith, length, inl, inr, take, subst, Vec, Global, vec_capacity}
use Rattle.std.specs.Prelude.{IsSomeAnd}
use Rattle.std.proofs.lemmas.Bool.{false≢true, cases_lt, cases_eq}
use Rattle.std.proofs.lemmas.List.{length-take, get_or_default}
use Rattle.local_locks.specs.declared.records.Entry.{Entry}
use Rattle.local_locks.specs.Owned.{count_in_all}
use Rattle.local_locks.specs.Slots.{Slots, opened, slot_at, present, entry_at, entry_in}
use Rattle.local_locks.proofs.Lemmas.Slots.{present-take, slot_at-take, slot_at-past, length-full, length-present-le, and_some}
use Rattle.local_locks.proofs.Lemmas.OpenSlots.{length-opened, opened-take, opened_some, slot_at-opened, entry_in-empty, entry_in-held}
use Rattle.local_locks.specs.Levels.{Rows, row_at, had, told, AreMoved}
use Rattle.local_locks.proofs.Lemmas.Levels.{had-alike}
use Rattle.local_locks.proofs.Lemmas.Rows.{moved-on, moved-down}
use Rattle.local_locks.proofs.slots.gather.Goals as goal
use Rattle.local_locks.proofs.slots.gather.Goals.{then-is_held, else-is_held}

-- past the entries kept, all slots are empty
empty_past : (c : goal.After-truncate) → (k : ℕ) → c.loop-place.kept ≤ k → slot_at (opened c.loop-place.slots.items) k ≡ None
empty_past c k past =
    elim (cases_lt k c.loop-place.place) [
      | inl before ↦ c.loop-place.invariant.gap k past before
      | inr after ↦ slot_at-past (opened c.loop-place.slots.items) k (omega (arith, length-opened c.loop-place.slots.items, c.len-place-end.ensures, c.args.slots.now.ok.0, c.loop-place.invariant.number))
    ]

-- the slots after the cut
slots_are : (c : goal.After-truncate) → opened c.truncate.new.self.items ≡ take c.loop-place.kept (opened c.loop-place.slots.items)
slots_are c = ap opened c.truncate.ensures.items ∙ opened-take c.loop-place.kept c.loop-place.slots.items

same : (c : goal.After-truncate) → (k : ℕ) → slot_at (opened c.truncate.new.self.items) k ≡ slot_at (opened c.loop-place.slots.items) k
same c k = ap (λ (s : Slots). slot_at s k) (slots_are c) ∙ slot_at-take c.loop-place.kept (opened c.loop-place.slots.items) (empty_past c) k

pub returns-clause-entries : goal.returns-clause-entries
returns-clause-entries c =
    ap present (slots_are c)
    ∙ (present-take c.loop-place.kept (opened c.loop-place.slots.items) (empty_past c) ∙ c.loop-place.invariant.entries)

-- each slot that is left has an entry
full : (c : goal.After-truncate) → (k : ℕ) → k < length (opened c.truncate.new.self.items) → IsSomeAnd (slot_at (opened c.truncate.new.self.items) k) (λ _. Unit {0})
full c k within =
    let number : length (opened c.truncate.new.self.items) ≡ length (take c.loop-place.kept (opened c.loop-place.slots.items)) = ap (λ s. length s) (slots_are c) in
    let below : k < c.loop-place.kept = omega (arith, number, length-take c.loop-place.kept (opened c.loop-place.slots.items), within) in
    subst (λ o. IsSomeAnd o (λ _. Unit {0})) (sym (same c k)) (c.loop-place.invariant.full k below)

pub returns-clause-number : goal.returns-clause-number
returns-clause-number c =
    sym (length-opened c.truncate.new.self.items) ∙ (sym (length-full (opened c.truncate.new.self.items) (full c)) ∙ ap (λ s. length s) (returns-clause-entries c))

pub returns-clause-full : goal.returns-clause-full
returns-clause-full c =
    let new = c.truncate.new.self.items in
    record {
      few = omega (arith, returns-clause-number c, length-present-le (opened c.args.slots.now.items), length-opened c.args.slots.now.items, c.requires);
      held = λ k within.
          let here = and_some (λ _. Unit {0}) (slot_at (opened new) k) (full c k (omega (arith, length-opened new))) in
          here.1 ∙ ap (λ (x : Entry). Some x) (sym (opened_some new k here.0 here.1).1);
    }

-- the slots after the cut say what they said
pub returns-clause-told : goal.returns-clause-told
returns-clause-told c = λ level.
    had-alike level (opened c.truncate.new.self.items) (opened c.loop-place.slots.items) (row_at c.loop-place.outer.items) (row_at c.loop-place.outer.items)
    (λ k. ap (told level (row_at c.loop-place.outer.items k)) (same c k))
    ∙ c.loop-place.invariant.told level

pub returns-clause-moved : goal.returns-clause-moved
returns-clause-moved c =
    let moved = c.loop-place.invariant.moved in
    record {
      number = moved.number;
      from = λ k e at. moved.from k e (sym (same c k) ∙ at);
      empty = λ k none. moved.empty k (sym (same c k) ∙ none);
    }

pub loop-place-preserved : goal.loop-place-preserved
loop-place-preserved c =
    let es = c.loop-place.slots.items in
    let inv = c.loop-place.invariant in
    elim c.if-is_held.branch [
      | then-is_held w ↦
          let m = w.move_down.ensures in
          let are = ap (λ (v : Vec Entry Global). opened v.items) w.slots-is in
          let within : c.loop-place.place < length es = omega (arith, c.loop-place-test.true, inv.number, c.len-place-end.ensures, c.args.slots.now.ok.0) in
          let read : c.index.result.now ≡ entry_at es c.loop-place.place = c.index.ensures ∙ get_or_default es c.loop-place.place c.index.result.now _ within in
          let there : slot_at (opened es) c.loop-place.place ≡ Some c.index.result.now =
          slot_at-opened es c.loop-place.place ∙ (ap entry_in (sym read) ∙ entry_in-held c.index.result.now (c.is_held.ensures.0 w.if-is_held.true)) in
          record {
            entries = ap present are ∙ (m.entries ∙ inv.entries);
            number = ap (λ (v : Vec Entry Global). length v.items) w.slots-is ∙ (m.number ∙ inv.number);
            slot_room = ap (λ (v : Vec Entry Global). vec_capacity v) w.slots-is ∙ (m.capacity ∙ inv.slot_room);
            below = omega (arith, w.kept-is, inv.below);
            full = λ k before. elim (cases_eq k c.loop-place.kept) [
              | inl here ↦ subst (λ o. IsSomeAnd o (λ _. Unit {0})) (sym (ap (λ (s : Slots). slot_at s k) are ∙ (ap (slot_at (opened w.move_down.new.slots.items)) here ∙ m.here))) tt
              | inr apart ↦
                  let under : k < c.loop-place.kept = omega (arith, w.kept-is) in
                  subst (λ o. IsSomeAnd o (λ _. Unit {0})) (sym (ap (λ (s : Slots). slot_at s k) are ∙ m.before k under)) (inv.full k under)
            ];
            gap = λ k past before. ap (λ (s : Slots). slot_at s k) are ∙ m.empty k (omega (arith, w.kept-is)) (omega arith);
            lists = ap (λ (v : Vec (List ℕ) Global). length v.items) w.outer-is ∙ (w.move_row.ensures.number ∙ inv.lists);
            moved =
                subst (λ (p : Slots × Rows). AreMoved (opened c.args.slots.now.items) c.args.outer.now.items p.0 p.1) (λ i. (sym are i, (sym w.outer-is i).items))
                (moved-on (opened c.args.slots.now.items) (opened es) (opened w.move_down.new.slots.items) c.args.outer.now.items c.loop-place.outer.items w.move_row.new.outer.items inv.moved
                (moved-down (opened es) (opened w.move_down.new.slots.items) c.loop-place.outer.items w.move_row.new.outer.items c.loop-place.kept c.loop-place.place c.index.result.now
                inv.moved.empty there inv.below inv.gap m.here m.empty m.before m.behind w.move_row.ensures.number w.move_row.ensures.here w.move_row.ensures.empty w.move_row.ensures.others));
            told = λ level.
                (λ i. had level (are i) (row_at (w.outer-is i).items))
                ∙ (m.told level (row_at c.loop-place.outer.items) (row_at w.move_row.new.outer.items) w.move_row.ensures.here w.move_row.ensures.others ∙ inv.told level);
          }
      | else-is_held w ↦
          let within : c.loop-place.place < length es = omega (arith, c.loop-place-test.true, inv.number, c.len-place-end.ensures, c.args.slots.now.ok.0) in
          let read : c.index.result.now ≡ entry_at es c.loop-place.place = c.index.ensures ∙ get_or_default es c.loop-place.place c.index.result.now _ within in
          let none : count_in_all c.index.result.now ≡ 0 = elim (cases_eq (count_in_all c.index.result.now) 0) [
            | inl zero ↦ zero
            | inr held ↦ absurd (false≢true (sym w.if-is_held.false ∙ c.is_held.ensures.1 held))
          ] in
          let empty : slot_at (opened es) c.loop-place.place ≡ None = slot_at-opened es c.loop-place.place ∙ entry_in-empty (entry_at es c.loop-place.place) (ap count_in_all (sym read) ∙ none) in
          let are = ap (λ (v : Vec Entry Global). opened v.items) w.slots-is in
          record {
            entries = ap present are ∙ inv.entries;
            number = ap (λ (v : Vec Entry Global). length v.items) w.slots-is ∙ inv.number;
            slot_room = ap (λ (v : Vec Entry Global). vec_capacity v) w.slots-is ∙ inv.slot_room;
            below = omega (arith, w.kept-is, inv.below);
            full = λ k before. subst (λ o. IsSomeAnd o (λ _. Unit {0})) (sym (ap (λ (s : Slots). slot_at s k) are)) (inv.full k (omega (arith, w.kept-is)));
            gap = λ k past before. ap (λ (s : Slots). slot_at s k) are ∙ elim (cases_eq k c.loop-place.place) [
              | inl same ↦ ap (slot_at (opened es)) same ∙ empty
              | inr apart ↦ inv.gap k (omega (arith, w.kept-is)) (omega arith)
            ];
            lists = ap (λ (v : Vec (List ℕ) Global). length v.items) w.outer-is ∙ inv.lists;
            moved =
                subst (λ (p : Slots × Rows). AreMoved (opened c.args.slots.now.items) c.args.outer.now.items p.0 p.1) (λ i. (sym are i, (sym w.outer-is i).items)) inv.moved;
            told = λ level. (λ i. had level (are i) (row_at (w.outer-is i).items)) ∙ inv.told level;
          }
    ]
