use Rattle.std.proofs.Common.{inl, Vec, Global, ◌≡◌, ◌≢◌, ℕ, ◌<◌, List, length, refl, sym, ap, subst, ◌∙◌, arith}
use Rattle.std.proofs.lemmas.List.{get_or_default}
use Rattle.local_locks.specs.declared.answers.Unlocked.TheVariants.{Released, StillHeld}
use Rattle.std.specs.Prelude.{vec_capacity, slice_index_or}
use Rattle.modes_core.specs.declared.sessions.Owner.{Owner}
use Rattle.local_locks.specs.declared.records.Entry.{Entry}
use Rattle.local_locks.specs.Owned.{IsWellOwned, max_count, count_for, count_in_all, own_count_of, total_of, with_one_less}
use Rattle.local_locks.specs.Levels.{row_at, IsLeveledTable}
use Rattle.local_locks.proofs.Lemmas.Levels.{owned_of, own_count-at}
use Rattle.local_locks.proofs.Lemmas.LevelRows.{paced-hinted, leveled-first, first_lists}
use Rattle.local_locks.proofs.Lemmas.LevelSteps.{own_count-first}
use Rattle.local_locks.proofs.Lemmas.LevelTables.{table-with, taken-table}
use Rattle.local_locks.specs.Slots.{Slots, IsIndexed, IsKept, IsTable, IsPlaceOf, opened, entry_at, present}
use Rattle.local_locks.proofs.Lemmas.OpenSlots.{slot_at-opened, entry_in-held, more-by}
use Rattle.local_locks.proofs.Lemmas.Looks.{place_read, some_held}
use Rattle.local_locks.proofs.Lemmas.Levels.{well_owned}
use Rattle.local_locks.proofs.Lemmas.TableSteps.{kept-lowered, entries-lowered, entries-taken, total-lowered, IsCounted-lowered}
use Rattle.local_locks.proofs.tables.LocalTable.drop_at_once.Goals as goal
use Rattle.local_locks.proofs.tables.LocalTable.drop_at_once.Goals.{Then-lower_held}

-- ---- it doesn't say

pub returns-then-hint-len-clause-well_owned : goal.returns-then-hint-len-clause-well_owned
returns-then-hint-len-clause-well_owned c = subst IsWellOwned c.self.view_is (well_owned _ _ _ _ _ _ _ _ _ _ _ c.self.invariant.0)

pub returns-then-not-is_of-clause-well_owned : goal.returns-then-not-is_of-clause-well_owned
returns-then-not-is_of-clause-well_owned c = subst IsWellOwned c.self.view_is (well_owned _ _ _ _ _ _ _ _ _ _ _ c.self.invariant.0)

pub returns-then-not-is_only-clause-well_owned : goal.returns-then-not-is_only-clause-well_owned
returns-then-not-is_only-clause-well_owned c =
    well_owned _ _ _ _ _ _ _ _ _ _ _
    (subst (λ (v : Vec Entry Global). IsLeveledTable v.items (vec_capacity v) c.self.inside.index c.self.inside.len c.self.inside.max_local c.self.inside.progress
    c.self.inside.outer.items c.self.inside.depth c.self.inside.touched) (sym (c.lower_held.ensures.same c.if-lower_held.false)) c.self.invariant.0)

-- ---- the owner has it more than once, so it stays

-- it is the first level
first : (c : Then-lower_held) → (c.self.inside.depth ≡ 0) × (c.self.inside.at_once ≡ max_count)
first c =
    paced-hinted c.self.inside.depth c.self.inside.at_once c.self.inside.hint c.self.invariant.1
    (omega (arith, c.if-hint-len.false, c.len.ensures, c.self.inside.slots.ok.0, c.self.invariant.0.table.few))

above_one : (c : Then-lower_held) → 1 < count_for c.args.owner (entry_at c.self.inside.slots.items c.self.inside.hint)
above_one c = c.lower_held.ensures.lowered.0 c.if-lower_held.true

at : (c : Then-lower_held) → IsPlaceOf c.self.inside.slots.items c.args.tag.now c.args.mode c.self.inside.hint
at c =
    let es = c.self.inside.slots.items in
    let within : c.self.inside.hint < length es = omega (arith, c.if-hint-len.false, c.len.ensures, c.self.inside.slots.ok.0) in
    place_read es c.self.inside.index c.self.invariant.0.table.kept.indexed c.args.tag.now c.args.mode c.args.owner c.self.inside.hint
    c.index.result.now (c.index.ensures ∙ get_or_default es c.self.inside.hint c.index.result.now _ within)
    (sym c.is_of.ensures ∙ c.if-not-is_of.false) (omega (arith, above_one c))

more : (c : Then-lower_held) → count_in_all (entry_at c.self.inside.slots.items c.self.inside.hint) ≢ 1
more c = more-by c.args.owner (entry_at c.self.inside.slots.items c.self.inside.hint) (above_one c)

pub invariant_of-self : goal.invariant_of-self
invariant_of-self c = (
  let es = c.self.inside.slots.items in
      table-with c.self.invariant.0
      (record {
        kept = subst (λ (s : Slots). IsKept s c.self.inside.index c.self.inside.len c.self.inside.max_local c.self.inside.progress) (sym (c.lower_held.ensures.slots c.if-lower_held.true))
            (kept-lowered (opened es) c.self.inside.index c.self.inside.len c.self.inside.max_local c.self.inside.progress c.self.inside.hint c.args.owner (entry_at es c.self.inside.hint)
            c.self.invariant.0.table.kept (at c).there (omega (arith, above_one c)) (more c));
        few = omega (arith, c.lower_held.ensures.number, c.self.invariant.0.table.few);
      })
      (leveled-first _ _ _ _ _ _ c.self.invariant.0.leveled (first c).0) (omega (arith, c.lower_held.ensures.number)) refl c.lower_held.ensures.capacity refl,
  inl (first c),
)

pub returns-then-lower_held-clause-well_owned : goal.returns-then-lower_held-clause-well_owned
returns-then-lower_held-clause-well_owned c = well_owned _ _ _ _ _ _ _ _ _ _ _ (invariant_of-self c).0

pub returns-then-lower_held-clause-entries : goal.returns-then-lower_held-clause-entries
returns-then-lower_held-clause-entries c = λ _.
    let es = c.self.inside.slots.items in
    ap present (c.lower_held.ensures.slots c.if-lower_held.true)
    ∙ (entries-lowered (opened es) c.self.inside.index c.args.tag.now c.args.mode c.args.owner c.self.inside.hint (entry_at es c.self.inside.hint) c.self.invariant.0.table.kept.indexed (at c).there (at c).own (more c)
    ∙ ap (λ v. with_one_less v.entries c.args.tag.now c.args.mode c.args.owner) c.self.view_is)

pub returns-then-lower_held-clause-held : goal.returns-then-lower_held-clause-held
returns-then-lower_held-clause-held c =
    let es = c.self.inside.slots.items in
    let count = own_count-at (opened es) c.self.inside.index c.self.inside.outer.items c.self.inside.depth c.self.inside.touched 0 0 0 c.args.tag.now c.args.mode
    c.self.invariant.0.table.kept.indexed c.self.invariant.0.leveled c.args.owner c.self.inside.hint (entry_at es c.self.inside.hint) (at c).there (at c).own in
    let first = own_count-first c.self.inside.depth (row_at c.self.inside.outer.items c.self.inside.hint) c.args.owner (entry_at es c.self.inside.hint) (first c).0 in
    let view = ap (λ v. own_count_of v c.args.tag.now c.args.mode c.args.owner) c.self.view_is in
    λ _. omega (arith, above_one c, count, first, view)

pub returns-then-lower_held-clause-answer : goal.returns-then-lower_held-clause-answer
returns-then-lower_held-clause-answer c =
    let es = c.self.inside.slots.items in
    let counted = IsCounted-lowered c.args.owner (entry_at es c.self.inside.hint) (omega (arith, above_one c)) (more c) (c.self.invariant.0.table.kept.counted c.self.inside.hint (entry_at es c.self.inside.hint) (at c).there) in
    let some = subst (λ (s : Slots). 0 < total_of (present s) c.args.tag.now c.args.mode) (sym (c.lower_held.ensures.slots c.if-lower_held.true))
    (total-lowered (opened es) c.self.inside.index c.args.tag.now c.args.mode c.args.owner c.self.inside.hint (entry_at es c.self.inside.hint) c.self.invariant.0.table.kept.indexed (at c).there (at c).own counted) in
    (λ same. some, λ above. refl)

-- ---- it is the owner's only count, so it goes

-- the counts of the entry that was read
counts_read :
    (es : List Entry) (place : ℕ) (owner : Owner) (e : Entry) → place < length es → e ≡ slice_index_or es place e → (count_for owner e ≡ 1) × (count_in_all e ≡ 1) →
    (count_for owner (entry_at es place) ≡ 1) × (count_in_all (entry_at es place) ≡ 1)
counts_read es place owner e within is counts =
    let read : e ≡ entry_at es place = is ∙ get_or_default es place e _ within in
    (sym (ap (count_for owner) read) ∙ counts.0, sym (ap count_in_all read) ∙ counts.1)

pub take_last-requires-clause-indexed : goal.take_last-requires-clause-indexed
take_last-requires-clause-indexed c =
    subst (λ (es : List Entry). IsIndexed (opened es) c.self.inside.index) (sym (ap (λ v. v.items) (c.lower_held.ensures.same c.if-lower_held.false))) c.self.invariant.0.table.kept.indexed

pub take_last-requires-clause-last : goal.take_last-requires-clause-last
take_last-requires-clause-last c = omega (arith, c.if-hint-len-2.false, c.len-else-not-is_only.ensures, c.lower_held.new.slots.ok.0)

pub take_last-requires-clause-there : goal.take_last-requires-clause-there
take_last-requires-clause-there c =
    let es = c.lower_held.new.slots.items in
    let e = entry_at es c.self.inside.hint in
    let one = (counts_read es c.self.inside.hint c.args.owner c.index-2.result.now (omega (arith, c.if-hint-len-2.false, c.len-else-not-is_only.ensures, c.lower_held.new.slots.ok.0)) c.index-2.ensures
    ((c.if-not-is_only.ensures {u = tt}).0 refl)).1 in
    slot_at-opened es c.self.inside.hint ∙ entry_in-held e (λ none. omega (arith, one, none))

pub overflow_sub-self : goal.overflow_sub-self
overflow_sub-self c =
    let es = c.lower_held.new.slots.items in
    let same = ap (λ v. v.items) (c.lower_held.ensures.same c.if-lower_held.false) in
    let one = (counts_read es c.self.inside.hint c.args.owner c.index-2.result.now (omega (arith, c.if-hint-len-2.false, c.len-else-not-is_only.ensures, c.lower_held.new.slots.ok.0)) c.index-2.ensures
    ((c.if-not-is_only.ensures {u = tt}).0 refl)).0 in
    let was : count_for c.args.owner (entry_at c.self.inside.slots.items c.self.inside.hint) ≡ 1 = ap (λ (l : List Entry). count_for c.args.owner (entry_at l c.self.inside.hint)) (sym same) ∙ one in
    omega (arith, c.self.invariant.0.table.kept.number, some_held c.self.inside.slots.items c.self.inside.index c.self.invariant.0.table.kept.indexed c.args.owner c.self.inside.hint (omega (arith, was)))

same : (c : goal.After-self-2-1) → c.lower_held.new.slots.items ≡ c.self.inside.slots.items
same c = ap (λ v. v.items) (c.lower_held.ensures.same c.if-lower_held.false)

still : (c : goal.After-self-2-1) → IsTable c.lower_held.new.slots.items c.self.inside.index c.self.inside.len c.self.inside.max_local c.self.inside.progress
still c = subst (λ (es : List Entry). IsTable es c.self.inside.index c.self.inside.len c.self.inside.max_local c.self.inside.progress) (sym (same c)) c.self.invariant.0.table

only : (c : goal.After-self-2-1) → (count_for c.args.owner (entry_at c.lower_held.new.slots.items c.self.inside.hint) ≡ 1) × (count_in_all (entry_at c.lower_held.new.slots.items c.self.inside.hint) ≡ 1)
only c =
    counts_read c.lower_held.new.slots.items c.self.inside.hint c.args.owner c.index-2.result.now (omega (arith, c.if-hint-len-2.false, c.len-else-not-is_only.ensures, c.lower_held.new.slots.ok.0))
    c.index-2.ensures ((c.if-not-is_only.ensures {u = tt}).0 refl)

at_only : (c : goal.After-self-2-1) → IsPlaceOf c.lower_held.new.slots.items c.args.tag.now c.args.mode c.self.inside.hint
at_only c =
    let es = c.self.inside.slots.items in
    let within : c.self.inside.hint < length es = omega (arith, c.if-hint-len.false, c.len.ensures, c.self.inside.slots.ok.0) in
    place_read c.lower_held.new.slots.items c.self.inside.index (still c).kept.indexed c.args.tag.now c.args.mode c.args.owner c.self.inside.hint c.index.result.now
    (c.index.ensures ∙ (get_or_default es c.self.inside.hint c.index.result.now _ within ∙ ap (λ (l : List Entry). entry_at l c.self.inside.hint) (sym (same c))))
    (sym c.is_of.ensures ∙ c.if-not-is_of.false) (omega (arith, (only c).0))

-- and the first level
first_too : (c : goal.After-self-2-1) → (c.self.inside.depth ≡ 0) × (c.self.inside.at_once ≡ max_count)
first_too c =
    paced-hinted c.self.inside.depth c.self.inside.at_once c.self.inside.hint c.self.invariant.1
    (omega (arith, c.if-hint-len.false, c.len.ensures, c.self.inside.slots.ok.0, c.self.invariant.0.table.few))

-- the entries that were there
were : (c : goal.After-self-2-1) → present (opened c.lower_held.new.slots.items) ≡ c.args.self.now.entries
were c = ap (λ (es : List Entry). present (opened es)) (same c) ∙ ap (λ v. v.entries) c.self.view_is

taken : (c : goal.After-self-2-1) → (present (opened c.take_last.new.slots.items) ≡ with_one_less (present (opened c.lower_held.new.slots.items)) c.args.tag.now c.args.mode c.args.owner) × (total_of (present (opened c.take_last.new.slots.items)) c.args.tag.now c.args.mode ≡ 0)
taken c =
    let es = c.lower_held.new.slots.items in
    entries-taken (present (opened es)) (present (opened c.take_last.new.slots.items)) c.args.tag.now c.args.mode c.args.owner (entry_at es c.self.inside.hint)
    (at_only c).found (at_only c).own (only c).1 c.take_last.ensures.taken.entries

pub invariant_of-self-2 : goal.invariant_of-self-2
invariant_of-self-2 c = (
  let e = c.take_last.ensures in
      taken-table c.self.inside.hint
      (subst (λ (v : Vec Entry Global). IsLeveledTable v.items (vec_capacity v) c.self.inside.index c.self.inside.len c.self.inside.max_local c.self.inside.progress
      c.self.inside.outer.items c.self.inside.depth c.self.inside.touched) (sym (c.lower_held.ensures.same c.if-lower_held.false)) c.self.invariant.0)
      e.taken e.indexed e.capacity e.index_room refl
      (first_lists _ _ _ _ c.self.invariant.0.leveled (first_too c).0 c.self.inside.hint) (λ k apart. refl),
  inl (paced-hinted c.self.inside.depth c.self.inside.at_once c.self.inside.hint c.self.invariant.1 (omega (arith, c.if-hint-len.false, c.len.ensures, c.self.inside.slots.ok.0, c.self.invariant.0.table.few))),
)

pub returns-clause-well_owned : goal.returns-clause-well_owned
returns-clause-well_owned c =
    well_owned _ _ _ _ _ _ _ _ _ _ _ (invariant_of-self-2 c).0

pub returns-clause-entries : goal.returns-clause-entries
returns-clause-entries c = λ _. (taken c).0 ∙ ap (λ (es : List Entry). with_one_less es c.args.tag.now c.args.mode c.args.owner) (were c)

pub returns-clause-held : goal.returns-clause-held
returns-clause-held c =
    let es = c.lower_held.new.slots.items in
    let count = own_count-at (opened es) c.self.inside.index c.self.inside.outer.items c.self.inside.depth c.self.inside.touched 0 0 0 c.args.tag.now c.args.mode
    (still c).kept.indexed (leveled-first _ _ _ _ _ c.self.inside.touched c.self.invariant.0.leveled (first_too c).0) c.args.owner c.self.inside.hint (entry_at es c.self.inside.hint)
    (at_only c).there (at_only c).own in
    let first = own_count-first c.self.inside.depth (row_at c.self.inside.outer.items c.self.inside.hint) c.args.owner (entry_at es c.self.inside.hint) (first_too c).0 in
    let view = ap (λ v. own_count_of v c.args.tag.now c.args.mode c.args.owner) c.self.view_is in
    let seen : own_count_of (owned_of (opened es) c.self.inside.outer.items c.self.inside.depth 0 0 0) c.args.tag.now c.args.mode c.args.owner
    ≡ own_count_of (owned_of (opened c.self.inside.slots.items) c.self.inside.outer.items c.self.inside.depth 0 0 0) c.args.tag.now c.args.mode c.args.owner =
    ap (λ (l : List Entry). own_count_of (owned_of (opened l) c.self.inside.outer.items c.self.inside.depth 0 0 0) c.args.tag.now c.args.mode c.args.owner) (same c) in
    λ _. omega (arith, (only c).0, count, first, seen, view)

pub returns-clause-answer : goal.returns-clause-answer
returns-clause-answer c =
    (λ same. absurd (let bad : Released ≡ StillHeld = same in cc), λ above. absurd (omega (arith, (taken c).1, above)))
