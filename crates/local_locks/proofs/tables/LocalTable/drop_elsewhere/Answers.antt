use Rattle.std.proofs.Common.{◌≡◌, ◌≢◌, ◌<◌, List, refl, sym, ap, subst, ◌∙◌, arith}
use Rattle.std.proofs.lemmas.List.{get_or_default}
use Rattle.local_locks.specs.declared.answers.Unlocked.TheVariants.{Released, StillHeld}
use Rattle.local_locks.specs.Owned.{IsWellOwned, entry_for, own_count_of, count_for, count_in_all, total_of, with_one_less}
use Rattle.std.specs.Prelude.{None}
use Rattle.local_locks.specs.Levels.{row_at, own_count_in, outer_of, IsLeveled}
use Rattle.local_locks.proofs.Lemmas.Levels.{own_count-at, own_count-none}
use Rattle.local_locks.proofs.Lemmas.LevelRows.{paced-looked}
use Rattle.local_locks.proofs.Lemmas.LevelSteps.{leveled-lowered, outer-gone, only-inner, own_count-within}
use Rattle.local_locks.proofs.Lemmas.LevelTables.{table-with, taken-table, forgot-one}
use Rattle.local_locks.specs.Slots.{Slots, IsKept, IsPlaceOf, key_hash, opened, entry_at, present}
use Rattle.local_locks.specs.declared.records.Entry.{Entry}
use Rattle.local_locks.proofs.Lemmas.Levels.{well_owned}
use Rattle.local_locks.proofs.Lemmas.Slots.{is_of-same}
use Rattle.local_locks.proofs.Lemmas.TableSteps.{kept-lowered, entries-lowered, entries-taken, total-lowered, IsCounted-lowered}
use Rattle.local_locks.proofs.tables.LocalTable.drop_elsewhere.Goals as goal

pub returns-in_default-clause-well_owned : goal.returns-in_default-clause-well_owned
returns-in_default-clause-well_owned c = subst IsWellOwned c.self.view_is (well_owned _ _ _ _ _ _ _ _ _ _ _ c.self.invariant.0)

pub returns-in_default-clause-not_held : goal.returns-in_default-clause-not_held
returns-in_default-clause-not_held c =
    let none = subst (λ (l : List Entry). entry_for (present (opened l)) c.args.tag.now c.args.mode ≡ None) c.deref.ensures.value (c.in_default.ensures {u = tt}) in (
      λ refused. sym (ap (λ v. own_count_of v c.args.tag.now c.args.mode c.args.owner) c.self.view_is)
          ∙ own_count-none (opened c.self.inside.slots.items) c.self.inside.index c.self.inside.outer.items c.self.inside.depth c.self.inside.touched 0 0 0 c.args.tag.now c.args.mode
          c.self.invariant.0.table.kept.indexed c.self.invariant.0.leveled c.args.owner none,
      λ nothing. refl,
    )

pub returns-then-own_count-eq0-clause-not_held : goal.returns-then-own_count-eq0-clause-not_held
returns-then-own_count-eq0-clause-not_held c =
    let es = c.self.inside.slots.items in
    let at = subst (λ (l : List Entry). IsPlaceOf l c.args.tag.now c.args.mode c.in-Some.place) c.deref.ensures.value (c.in-Some.ensures {u = tt}) in
    let read : entry_at es c.in-Some.place ≡ c.index-entry.result.now = sym (c.index-entry.ensures ∙ get_or_default es c.in-Some.place c.index-entry.result.now _ at.within) in
    let own : c.own_count.result ≡ own_count_in c.self.inside.depth (row_at c.self.inside.outer.items c.in-Some.place) c.args.owner (entry_at es c.in-Some.place) =
    c.own_count.ensures ∙ (λ i. own_count_in c.self.inside.depth (row_at (c.deref-2.ensures.value i) c.in-Some.place) c.args.owner (sym read i)) in
    let seen : own_count_of c.args.self.now c.args.tag.now c.args.mode c.args.owner ≡ c.own_count.result =
    sym (ap (λ v. own_count_of v c.args.tag.now c.args.mode c.args.owner) c.self.view_is)
    ∙ (own_count-at (opened es) c.self.inside.index c.self.inside.outer.items c.self.inside.depth c.self.inside.touched 0 0 0 c.args.tag.now c.args.mode
    c.self.invariant.0.table.kept.indexed c.self.invariant.0.leveled c.args.owner c.in-Some.place (entry_at es c.in-Some.place) at.there at.own ∙ sym own) in
    (λ refused. seen ∙ c.if-own_count-eq0.true, λ nothing. refl)

pub returns-then-own_count-eq0-clause-well_owned : goal.returns-then-own_count-eq0-clause-well_owned
returns-then-own_count-eq0-clause-well_owned c = subst IsWellOwned c.self.view_is (well_owned _ _ _ _ _ _ _ _ _ _ _ c.self.invariant.0)

-- ---- the last count goes

pub take_out-requires-clause-hashed : goal.take_out-requires-clause-hashed
take_out-requires-clause-hashed c =
    let at = subst (λ (l : List Entry). IsPlaceOf l c.args.tag.now c.args.mode c.in-Some.place) c.deref.ensures.value (c.in-Some.ensures {u = tt}) in
    let same = is_of-same c.args.tag.now c.args.mode (entry_at c.self.inside.slots.items c.in-Some.place) at.own in
    c.key_hash-hash.ensures ∙ (λ i. key_hash (sym same.0 i) (sym same.1 i))

pub invariant_of-self : goal.invariant_of-self
invariant_of-self c = (
  let e = c.take_out.ensures in
      let f = c.forget.ensures in
      let forgot = forgot-one c.self.inside.outer.items c.forget.new.outer.items c.in-Some.place f.empty f.before f.behind in
      taken-table c.in-Some.place c.self.invariant.0 e.taken e.indexed e.capacity e.index_room f.number forgot.0 forgot.1,
  paced-looked c.self.inside.depth c.self.inside.at_once c.self.inside.hint c.set_hint.new.hint c.self.invariant.1 c.set_hint.ensures.inner,
)

pub returns-then-total-eq1-clause-well_owned : goal.returns-then-total-eq1-clause-well_owned
returns-then-total-eq1-clause-well_owned c = well_owned _ _ _ _ _ _ _ _ _ _ _ (invariant_of-self c).0

pub returns-then-total-eq1-clause-not_held : goal.returns-then-total-eq1-clause-not_held
returns-then-total-eq1-clause-not_held c =
    let es = c.self.inside.slots.items in
    let at = subst (λ (l : List Entry). IsPlaceOf l c.args.tag.now c.args.mode c.in-Some.place) c.deref.ensures.value (c.in-Some.ensures {u = tt}) in
    let read : entry_at es c.in-Some.place ≡ c.index-entry.result.now = sym (c.index-entry.ensures ∙ get_or_default es c.in-Some.place c.index-entry.result.now _ at.within) in
    let own : c.own_count.result ≡ own_count_in c.self.inside.depth (row_at c.self.inside.outer.items c.in-Some.place) c.args.owner (entry_at es c.in-Some.place) =
    c.own_count.ensures ∙ (λ i. own_count_in c.self.inside.depth (row_at (c.deref-2.ensures.value i) c.in-Some.place) c.args.owner (sym read i)) in
    let seen : own_count_of c.args.self.now c.args.tag.now c.args.mode c.args.owner ≡ c.own_count.result =
    sym (ap (λ v. own_count_of v c.args.tag.now c.args.mode c.args.owner) c.self.view_is)
    ∙ (own_count-at (opened es) c.self.inside.index c.self.inside.outer.items c.self.inside.depth c.self.inside.touched 0 0 0 c.args.tag.now c.args.mode
    c.self.invariant.0.table.kept.indexed c.self.invariant.0.leveled c.args.owner c.in-Some.place (entry_at es c.in-Some.place) at.there at.own ∙ sym own) in
    (λ refused. absurd (let bad = refused in cc), λ nothing. absurd (c.if-own_count-eq0.false (sym seen ∙ nothing)))

pub returns-then-total-eq1-clause-outer : goal.returns-then-total-eq1-clause-outer
returns-then-total-eq1-clause-outer c =
    let es = c.self.inside.slots.items in
    let at = subst (λ (l : List Entry). IsPlaceOf l c.args.tag.now c.args.mode c.in-Some.place) c.deref.ensures.value (c.in-Some.ensures {u = tt}) in
    let read : entry_at es c.in-Some.place ≡ c.index-entry.result.now = sym (c.index-entry.ensures ∙ get_or_default es c.in-Some.place c.index-entry.result.now _ at.within) in
    let own : c.own_count.result ≡ own_count_in c.self.inside.depth (row_at c.self.inside.outer.items c.in-Some.place) c.args.owner (entry_at es c.in-Some.place) =
    c.own_count.ensures ∙ (λ i. own_count_in c.self.inside.depth (row_at (c.deref-2.ensures.value i) c.in-Some.place) c.args.owner (sym read i)) in
    let some : 0 < own_count_in c.self.inside.depth (row_at c.self.inside.outer.items c.in-Some.place) c.args.owner (entry_at es c.in-Some.place) = omega (arith, own, c.if-own_count-eq0.false) in
    let one : count_in_all (entry_at es c.in-Some.place) ≡ 1 = ap count_in_all read ∙ (sym c.total-total.ensures ∙ c.if-total-eq1.true) in
    let e = c.take_out.ensures in
    let f = c.forget.ensures in
    let forgot = forgot-one c.self.inside.outer.items c.forget.new.outer.items c.in-Some.place f.empty f.before f.behind in
    outer-gone (opened es) (opened c.take_out.new.slots.items) c.self.inside.outer.items c.forget.new.outer.items c.self.inside.depth c.in-Some.place (entry_at es c.in-Some.place) at.there
    e.taken.gone e.taken.others forgot.1
    (only-inner c.self.inside.depth (row_at c.self.inside.outer.items c.in-Some.place) c.args.owner (entry_at es c.in-Some.place)
    (c.self.invariant.0.leveled.rising c.in-Some.place (entry_at es c.in-Some.place) at.there) some one)
    ∙ ap (λ v. v.outer) c.self.view_is

pub returns-then-total-eq1-clause-answer : goal.returns-then-total-eq1-clause-answer
returns-then-total-eq1-clause-answer c =
    let es = c.self.inside.slots.items in
    let at = subst (λ (l : List Entry). IsPlaceOf l c.args.tag.now c.args.mode c.in-Some.place) c.deref.ensures.value (c.in-Some.ensures {u = tt}) in
    let read : entry_at es c.in-Some.place ≡ c.index-entry.result.now = sym (c.index-entry.ensures ∙ get_or_default es c.in-Some.place c.index-entry.result.now _ at.within) in
    let one : count_in_all (entry_at es c.in-Some.place) ≡ 1 = ap count_in_all read ∙ (sym c.total-total.ensures ∙ c.if-total-eq1.true) in
    let none = (entries-taken (present (opened es)) (present (opened c.take_out.new.slots.items)) c.args.tag.now c.args.mode c.args.owner (entry_at es c.in-Some.place) at.found at.own one c.take_out.ensures.taken.entries).1 in
    (λ same. absurd (let bad : Released ≡ StillHeld = same in cc), λ some. absurd (omega (arith, none, some)))

-- ---- other counts are left

pub invariant_of-self-else-total-eq1 : goal.invariant_of-self-else-total-eq1
invariant_of-self-else-total-eq1 c = (
  let es = c.self.inside.slots.items in
      let at = subst (λ (l : List Entry). IsPlaceOf l c.args.tag.now c.args.mode c.in-Some.place) c.deref.ensures.value (c.in-Some.ensures {u = tt}) in
      let read : entry_at es c.in-Some.place ≡ c.index-entry.result.now = sym (c.index-entry.ensures ∙ get_or_default es c.in-Some.place c.index-entry.result.now _ at.within) in
      let own : c.own_count.result ≡ own_count_in c.self.inside.depth (row_at c.self.inside.outer.items c.in-Some.place) c.args.owner (entry_at es c.in-Some.place) =
      c.own_count.ensures ∙ (λ i. own_count_in c.self.inside.depth (row_at (c.deref-2.ensures.value i) c.in-Some.place) c.args.owner (sym read i)) in
      let some : 0 < count_for c.args.owner (entry_at es c.in-Some.place) =
      omega (arith, own, c.if-own_count-eq0.false, own_count-within c.self.inside.depth (row_at c.self.inside.outer.items c.in-Some.place) c.args.owner (entry_at es c.in-Some.place)) in
      let more : count_in_all (entry_at es c.in-Some.place) ≢ 1 = λ one. c.if-total-eq1.false (c.total-total.ensures ∙ (sym (ap count_in_all read) ∙ one)) in
      table-with c.self.invariant.0
      (record {
        kept = subst (λ (s : Slots). IsKept s c.self.inside.index c.self.inside.len c.self.inside.max_local c.self.inside.progress) (sym c.lower.ensures.slots)
            (kept-lowered (opened c.self.inside.slots.items) c.self.inside.index c.self.inside.len c.self.inside.max_local c.self.inside.progress c.in-Some.place c.args.owner (entry_at es c.in-Some.place)
            c.self.invariant.0.table.kept at.there some more);
        few = omega (arith, c.lower.ensures.number, c.self.invariant.0.table.few);
      })
      (subst (λ (s : Slots). IsLeveled s c.self.inside.outer.items c.self.inside.depth c.self.inside.touched) (sym c.lower.ensures.slots)
      (leveled-lowered (opened es) c.self.inside.outer.items c.self.inside.depth c.self.inside.touched c.in-Some.place c.args.owner (entry_at es c.in-Some.place) c.self.invariant.0.leveled at.there
      (omega (arith, own, c.if-own_count-eq0.false))).0)
      (omega (arith, c.lower.ensures.number)) refl c.lower.ensures.capacity refl,
  c.self.invariant.1,
)

pub returns-else-total-eq1-clause-well_owned : goal.returns-else-total-eq1-clause-well_owned
returns-else-total-eq1-clause-well_owned c = well_owned _ _ _ _ _ _ _ _ _ _ _ (invariant_of-self-else-total-eq1 c).0

pub returns-else-total-eq1-clause-entries : goal.returns-else-total-eq1-clause-entries
returns-else-total-eq1-clause-entries c =
    let es = c.self.inside.slots.items in
    let at = subst (λ (l : List Entry). IsPlaceOf l c.args.tag.now c.args.mode c.in-Some.place) c.deref.ensures.value (c.in-Some.ensures {u = tt}) in
    let read : entry_at es c.in-Some.place ≡ c.index-entry.result.now = sym (c.index-entry.ensures ∙ get_or_default es c.in-Some.place c.index-entry.result.now _ at.within) in
    let more : count_in_all (entry_at es c.in-Some.place) ≢ 1 = λ one. c.if-total-eq1.false (c.total-total.ensures ∙ (sym (ap count_in_all read) ∙ one)) in
    ap present c.lower.ensures.slots
    ∙ (entries-lowered (opened c.self.inside.slots.items) c.self.inside.index c.args.tag.now c.args.mode c.args.owner c.in-Some.place (entry_at es c.in-Some.place) c.self.invariant.0.table.kept.indexed at.there at.own more
    ∙ ap (λ v. with_one_less v.entries c.args.tag.now c.args.mode c.args.owner) c.self.view_is)

pub returns-else-total-eq1-clause-answer : goal.returns-else-total-eq1-clause-answer
returns-else-total-eq1-clause-answer c =
    let es = c.self.inside.slots.items in
    let at = subst (λ (l : List Entry). IsPlaceOf l c.args.tag.now c.args.mode c.in-Some.place) c.deref.ensures.value (c.in-Some.ensures {u = tt}) in
    let read : entry_at es c.in-Some.place ≡ c.index-entry.result.now = sym (c.index-entry.ensures ∙ get_or_default es c.in-Some.place c.index-entry.result.now _ at.within) in
    let own : c.own_count.result ≡ own_count_in c.self.inside.depth (row_at c.self.inside.outer.items c.in-Some.place) c.args.owner (entry_at es c.in-Some.place) =
    c.own_count.ensures ∙ (λ i. own_count_in c.self.inside.depth (row_at (c.deref-2.ensures.value i) c.in-Some.place) c.args.owner (sym read i)) in
    let some : 0 < count_for c.args.owner (entry_at es c.in-Some.place) =
    omega (arith, own, c.if-own_count-eq0.false, own_count-within c.self.inside.depth (row_at c.self.inside.outer.items c.in-Some.place) c.args.owner (entry_at es c.in-Some.place)) in
    let more : count_in_all (entry_at es c.in-Some.place) ≢ 1 = λ one. c.if-total-eq1.false (c.total-total.ensures ∙ (sym (ap count_in_all read) ∙ one)) in
    let counted = IsCounted-lowered c.args.owner (entry_at es c.in-Some.place) some more (c.self.invariant.0.table.kept.counted c.in-Some.place (entry_at es c.in-Some.place) at.there) in
    let still = subst (λ (s : Slots). 0 < total_of (present s) c.args.tag.now c.args.mode) (sym c.lower.ensures.slots)
    (total-lowered (opened es) c.self.inside.index c.args.tag.now c.args.mode c.args.owner c.in-Some.place (entry_at es c.in-Some.place) c.self.invariant.0.table.kept.indexed at.there at.own counted) in
    (λ same. still, λ some. refl)

pub returns-else-total-eq1-clause-outer : goal.returns-else-total-eq1-clause-outer
returns-else-total-eq1-clause-outer c =
    let es = c.self.inside.slots.items in
    let at = subst (λ (l : List Entry). IsPlaceOf l c.args.tag.now c.args.mode c.in-Some.place) c.deref.ensures.value (c.in-Some.ensures {u = tt}) in
    let read : entry_at es c.in-Some.place ≡ c.index-entry.result.now = sym (c.index-entry.ensures ∙ get_or_default es c.in-Some.place c.index-entry.result.now _ at.within) in
    let own : c.own_count.result ≡ own_count_in c.self.inside.depth (row_at c.self.inside.outer.items c.in-Some.place) c.args.owner (entry_at es c.in-Some.place) =
    c.own_count.ensures ∙ (λ i. own_count_in c.self.inside.depth (row_at (c.deref-2.ensures.value i) c.in-Some.place) c.args.owner (sym read i)) in
    let some : 0 < own_count_in c.self.inside.depth (row_at c.self.inside.outer.items c.in-Some.place) c.args.owner (entry_at es c.in-Some.place) = omega (arith, own, c.if-own_count-eq0.false) in
    ap (λ (s : Slots). outer_of c.self.inside.depth s (row_at c.self.inside.outer.items)) c.lower.ensures.slots
    ∙ ((leveled-lowered (opened es) c.self.inside.outer.items c.self.inside.depth c.self.inside.touched c.in-Some.place c.args.owner (entry_at es c.in-Some.place) c.self.invariant.0.leveled at.there some).1
    ∙ ap (λ v. v.outer) c.self.view_is)

pub returns-else-total-eq1-clause-not_held : goal.returns-else-total-eq1-clause-not_held
returns-else-total-eq1-clause-not_held c =
    let es = c.self.inside.slots.items in
    let at = subst (λ (l : List Entry). IsPlaceOf l c.args.tag.now c.args.mode c.in-Some.place) c.deref.ensures.value (c.in-Some.ensures {u = tt}) in
    let read : entry_at es c.in-Some.place ≡ c.index-entry.result.now = sym (c.index-entry.ensures ∙ get_or_default es c.in-Some.place c.index-entry.result.now _ at.within) in
    let own : c.own_count.result ≡ own_count_in c.self.inside.depth (row_at c.self.inside.outer.items c.in-Some.place) c.args.owner (entry_at es c.in-Some.place) =
    c.own_count.ensures ∙ (λ i. own_count_in c.self.inside.depth (row_at (c.deref-2.ensures.value i) c.in-Some.place) c.args.owner (sym read i)) in
    let seen : own_count_of c.args.self.now c.args.tag.now c.args.mode c.args.owner ≡ c.own_count.result =
    sym (ap (λ v. own_count_of v c.args.tag.now c.args.mode c.args.owner) c.self.view_is)
    ∙ (own_count-at (opened es) c.self.inside.index c.self.inside.outer.items c.self.inside.depth c.self.inside.touched 0 0 0 c.args.tag.now c.args.mode
    c.self.invariant.0.table.kept.indexed c.self.invariant.0.leveled c.args.owner c.in-Some.place (entry_at es c.in-Some.place) at.there at.own ∙ sym own) in
    (λ refused. absurd (let bad = refused in cc), λ nothing. absurd (c.if-own_count-eq0.false (sym seen ∙ nothing)))
