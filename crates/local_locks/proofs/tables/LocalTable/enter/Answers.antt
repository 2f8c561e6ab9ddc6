use Rattle.std.specs.Prelude.{vec_capacity}
use Rattle.place_index.specs.Notes.{no_place}
use Rattle.local_locks.specs.Levels.{row_at, outer_of, IsLeveled}
use Rattle.local_locks.proofs.Lemmas.LevelRows.{paced-looked}
use Rattle.local_locks.proofs.Lemmas.LevelSteps.{Keeps_outer, leveled-pushed}
use Rattle.std.proofs.Common.{◌≡◌, ◌≤◌, min, ◌<◌, ◌+◌, ◌∷◌, ◌++◌, [], Some, false, sym, ap, subst, cond, ◌∙◌, length, arith}
use Rattle.local_locks.specs.Owned.{IsCounted, raised, new_entry, has_entry, with_one_more, change}
use Rattle.local_locks.specs.Slots.{Slots, IsKept, IsIndexed, opened, present, back_to}
use Rattle.local_locks.specs.declared.ends.Progress.{Progress}
use Rattle.local_locks.specs.declared.records.Entry.{Entry}
use Rattle.local_locks.proofs.Lemmas.Slots.{present-push}
use Rattle.local_locks.proofs.Lemmas.OpenSlots.{length-opened}
use Rattle.local_locks.proofs.Lemmas.Looks.{no_entry, absent_key, new_entry-key}
use Rattle.local_locks.proofs.Lemmas.Levels.{well_owned}
use Rattle.local_locks.proofs.Lemmas.TableSteps.{kept-pushed, IsCounted-new}
use Rattle.local_locks.proofs.tables.LocalTable.enter.Goals as goal

pub push_entry-requires-clause-absent : goal.push_entry-requires-clause-absent
push_entry-requires-clause-absent c =
    let es = c.self.inside.slots.items in
    let none : has_entry (present (opened es)) c.args.tag c.args.mode ≡ false = ap (λ v. has_entry v.entries c.args.tag c.args.mode) c.self.view_is ∙ c.requires.new in
    let key = new_entry-key c.args.tag c.args.mode c.args.owner c.new-entry.result c.new-entry.ensures in
    λ k at. absent_key es c.args.tag c.args.mode (no_entry (present (opened es)) c.args.tag c.args.mode none) k (at ∙ (λ i. Some (key.0 i, key.1 i)))

pub invariant_of-self : goal.invariant_of-self
invariant_of-self c = (
  let es = c.self.inside.slots.items in
      let room = ap (λ v. v.room) c.self.view_is in
      let number : length (present (opened es)) ≡ length c.args.self.now.entries = ap (λ v. length v.entries) c.self.view_is in
      let limit : c.self.inside.max_local ≡ c.args.self.now.max_local = ap (λ v. v.max_local) c.self.view_is in
      let below : c.self.inside.len < c.self.inside.max_local = omega (arith, c.self.invariant.0.table.kept.number, number, limit, c.requires.allowed) in
      let place : c.len-place.result ≡ length (opened es) = c.len-place.ensures ∙ (c.self.inside.slots.ok.0 ∙ sym (length-opened es)) in
      let k = c.keep.ensures in
      let keeps : Keeps_outer c.self.inside.outer.items c.keep.new.outer.items c.self.inside.depth c.self.inside.touched c.keep.new.touched (length (opened es)) 0 =
      subst (λ n. Keeps_outer c.self.inside.outer.items c.keep.new.outer.items c.self.inside.depth c.self.inside.touched c.keep.new.touched n 0) place
      (record { filled = k.filled; same = k.same; others = k.others; touched_ = k.touched; no_more = k.no_more }) in
      record {
        table = record {
          kept = subst (λ (s : Slots). IsKept s c.push_entry.new.index (c.self.inside.len + 1) c.self.inside.max_local c.go_back_to.new.self) (sym c.push_entry.ensures.slots)
              (subst (λ (p : Progress). IsKept (opened es ++ Some c.new-entry.result ∷ []) c.push_entry.new.index (c.self.inside.len + 1) c.self.inside.max_local p)
              (sym (c.go_back_to.ensures ∙ ap (λ n. back_to n c.self.inside.progress) place))
              (kept-pushed (opened es) c.self.inside.index c.push_entry.new.index c.self.inside.len c.self.inside.max_local c.self.inside.progress c.new-entry.result c.self.invariant.0.table.kept
              (subst (λ (s : Slots). IsIndexed s c.push_entry.new.index) c.push_entry.ensures.slots c.push_entry.ensures.indexed)
              (subst IsCounted (sym c.new-entry.ensures) (IsCounted-new c.args.tag c.args.mode c.args.owner)) below));
          few = omega (arith, c.push_entry.ensures.number, room, c.requires.roomy);
        };
        leveled = subst (λ (s : Slots). IsLeveled s c.keep.new.outer.items c.self.inside.depth c.keep.new.touched) (sym c.push_entry.ensures.slots)
            (leveled-pushed (opened es) c.self.inside.outer.items c.keep.new.outer.items c.self.inside.depth c.self.inside.touched c.keep.new.touched c.new-entry.result c.self.invariant.0.leveled keeps).0;
        lists = omega (arith, c.push_entry.ensures.number, room, c.requires.roomy, c.self.invariant.0.enough, k.number);
        enough =
            subst (λ n. min (min n no_place) c.push_entry.new.index.places ≤ length c.keep.new.outer.items) (sym c.push_entry.ensures.slot_room)
            (subst (λ n. min (min (vec_capacity c.self.inside.slots) no_place) n ≤ length c.keep.new.outer.items) (sym c.push_entry.ensures.index_room) (omega (arith, c.self.invariant.0.enough, k.number)));
      },
  paced-looked c.self.inside.depth c.self.inside.at_once c.self.inside.hint c.set_hint.new.hint c.self.invariant.1 c.set_hint.ensures.inner,
)

pub returns-clause-well_owned : goal.returns-clause-well_owned
returns-clause-well_owned c = well_owned _ _ _ _ _ _ _ _ _ _ _ (invariant_of-self c).0

pub returns-clause-entries : goal.returns-clause-entries
returns-clause-entries c =
    let es = c.self.inside.slots.items in
    let none : has_entry (present (opened es)) c.args.tag c.args.mode ≡ false = ap (λ v. has_entry v.entries c.args.tag c.args.mode) c.self.view_is ∙ c.requires.new in
    ap present c.push_entry.ensures.slots
    ∙ (present-push (opened es) c.new-entry.result
    ∙ (ap (λ (x : Entry). present (opened es) ++ x ∷ []) c.new-entry.ensures
    ∙ (sym (ap (λ b. cond b (change (raised c.args.owner) (present (opened es)) c.args.tag c.args.mode) (present (opened es) ++ new_entry c.args.tag c.args.mode c.args.owner ∷ [])) none)
    ∙ ap (λ v. with_one_more v.entries c.args.tag c.args.mode c.args.owner) c.self.view_is)))

pub returns-clause-outer : goal.returns-clause-outer
returns-clause-outer c =
    let es = c.self.inside.slots.items in
    let place : c.len-place.result ≡ length (opened es) = c.len-place.ensures ∙ (c.self.inside.slots.ok.0 ∙ sym (length-opened es)) in
    let k = c.keep.ensures in
    let keeps : Keeps_outer c.self.inside.outer.items c.keep.new.outer.items c.self.inside.depth c.self.inside.touched c.keep.new.touched (length (opened es)) 0 =
    subst (λ n. Keeps_outer c.self.inside.outer.items c.keep.new.outer.items c.self.inside.depth c.self.inside.touched c.keep.new.touched n 0) place
    (record { filled = k.filled; same = k.same; others = k.others; touched_ = k.touched; no_more = k.no_more }) in
    ap (λ (s : Slots). outer_of c.self.inside.depth s (row_at c.keep.new.outer.items)) c.push_entry.ensures.slots
    ∙ ((leveled-pushed (opened es) c.self.inside.outer.items c.keep.new.outer.items c.self.inside.depth c.self.inside.touched c.keep.new.touched c.new-entry.result c.self.invariant.0.leveled keeps).1
    ∙ ap (λ v. v.outer) c.self.view_is)
