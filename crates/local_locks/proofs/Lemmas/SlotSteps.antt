use Rattle.std.proofs.Common.{◌≡◌, ◌≢◌, ℕ, ◌+◌, ◌<◌, ◌≤◌, List, [], ◌∷◌, ◌++◌, length, set, take, suc, refl, sym, ap, subst, ◌∙◌, inl, inr, arith, add-one}
use Rattle.std.specs.Prelude.{Option, Some, None}
use Rattle.std.specs.Option.{option_map}
use Rattle.std.proofs.lemmas.Bool.{cases_eq}
use Rattle.std.proofs.lemmas.List.{length-set, length-take, length-take-le, take_more, get_or-take}
use Rattle.modes_core.specs.declared.modes.Mode.{Mode}
use Rattle.modes_core.specs.declared.tags.Tag.{Tag}
use Rattle.place_index.specs.Notes.{Notes, times, IsOneMore}
use Rattle.local_locks.specs.declared.records.Entry.{Entry}
use Rattle.local_locks.specs.Slots.{Slots, opened, slot_at, entry_at, present, key_at, key_hash, IsCut, IsFull, IsOnce, IsIndexed, IsTakenOut}
use Rattle.local_locks.proofs.Lemmas.Slots.{is_of-own, entries_but-at, length-present_clear, present-take, slot_at-take, slot_at-past, slot_at-within, slot_at-set, slot_at-set_other}
use Rattle.local_locks.proofs.Lemmas.Indexes.{none_else, noted_some, once_else, times_none, some_key, pushed-indexed, indexed-cleared}
use Rattle.local_locks.proofs.Lemmas.OpenSlots.{length-opened}

-- ---- an entry leaves its slot

-- the slots are those with this one emptied, but for empty ones at the end
pub taken-out :
    (es es' : List Entry) (index : Notes) (place : ℕ) → IsIndexed (opened es) index → slot_at (opened es) place ≡ Some (entry_at es place) →
    ((k : ℕ) → slot_at (opened es') k ≡ slot_at (set (opened es) place None) k) → present (opened es') ≡ present (set (opened es) place None) →
    length es' ≤ length es → IsTakenOut es es' place
taken-out es es' index place indexed there same entries shorter =
    let e = entry_at es place in
    record {
      entries = entries ∙ entries_but-at e.tag e.mode (opened es) place e there (is_of-own e) (none_else (opened es) index indexed e.tag e.mode place e there (is_of-own e));
      number = length-present_clear (opened es) place e there ∙ (ap (λ s. suc (length s)) (sym entries) ∙ sym (add-one (length (present (opened es')))));
      gone = same place ∙ slot_at-set (opened es) place None (slot_at-within (opened es) place e there);
      others = λ k apart. same k ∙ slot_at-set_other (opened es) place k None apart;
      shorter = shorter;
    }

-- where no note is left, no entry is left
none_left :
    (slots : Slots) (index index' : Notes) (place hash : ℕ) (e : Entry) → IsIndexed slots index → slot_at slots place ≡ Some e →
    IsOneMore index' index hash place → length index'.notes ≡ 0 → (k : ℕ) → slot_at (set slots place None) k ≡ None
none_left slots index index' place hash e indexed there more none k = go (slot_at (set slots place None) k) refl where
  go : (o : Option Entry) → slot_at (set slots place None) k ≡ o → slot_at (set slots place None) k ≡ None
  go None is = is
  go (Some x) is =
      elim (cases_eq k place) [
        | inl same ↦ absurd (let bad : None ≡ Some x = sym (ap (slot_at (set slots place None)) same ∙ slot_at-set slots place None (slot_at-within slots place e there)) ∙ is in cc)
        | inr apart ↦
            let some = noted_some slots index indexed k (key_hash x.tag x.mode) x (sym (slot_at-set_other slots place k None apart) ∙ is) refl in
            absurd (omega (arith, some, more (key_hash x.tag x.mode) k, times_none index' none (key_hash x.tag x.mode) k, once_else hash place (key_hash x.tag x.mode) k apart))
      ]

module _ (slots slots' : Slots) (index index' : Notes) (hash notes place used : ℕ) (e : Entry)
    (indexed : IsIndexed slots index) (there : slot_at slots place ≡ Some e) (more : IsOneMore index' index hash place)
    (number : notes ≡ length index'.notes) (cut : IsCut (length slots) notes place used) (is : slots' ≡ take used (set slots place None)) where
  -- past the cut no slot has an entry
  empty_past : (k : ℕ) → used ≤ k → slot_at (set slots place None) k ≡ None
  empty_past k past =
      elim cut [
        | inl all ↦ slot_at-past (set slots place None) k (omega (arith, length-set slots place None))
        | inr (inl last) ↦
            elim (cases_eq k place) [
              | inl same ↦ ap (slot_at (set slots place None)) same ∙ slot_at-set slots place None (slot_at-within slots place e there)
              | inr apart ↦ slot_at-past (set slots place None) k (omega (arith, length-set slots place None, last.0, last.1))
            ]
        | inr (inr none) ↦ none_left slots index index' place hash e indexed there more (omega arith) k
      ]

  -- nor is its place noted
  pub left-past : (h k : ℕ) → k ≢ place → length slots' ≤ k → times index' h k ≡ 0
  left-past h k apart past =
      let same : length slots' ≡ length (take used (set slots place None)) = ap (λ (s : Slots). length s) is in
      elim cut [
        | inl all ↦ omega (arith, more h k, indexed.within h k (omega (arith, same, length-take used (set slots place None), length-set slots place None)))
        | inr (inl last) ↦ omega (arith, more h k, indexed.within h k (omega (arith, same, length-take used (set slots place None), length-set slots place None, last.0, last.1)))
        | inr (inr none) ↦ times_none index' (omega arith) h k
      ]

  pub left-at : (k : ℕ) → slot_at slots' k ≡ slot_at (set slots place None) k
  left-at k = ap (λ s. slot_at s k) is ∙ slot_at-take used (set slots place None) empty_past k

  pub left-present : present slots' ≡ present (set slots place None)
  left-present = ap present is ∙ present-take used (set slots place None) empty_past

-- its slot is emptied and the slots are cut, and its place is not noted any more
pub leaves :
    (es es' : List Entry) (index index' : Notes) (hash notes place used : ℕ) → IsIndexed (opened es) index → slot_at (opened es) place ≡ Some (entry_at es place) →
    hash ≡ key_hash (entry_at es place).tag (entry_at es place).mode → IsOneMore index' index hash place → notes ≡ length index'.notes →
    IsCut (length (opened es)) notes place used → opened es' ≡ take used (set (opened es) place None) → IsTakenOut es es' place × IsIndexed (opened es') index'
leaves es es' index index' hash notes place used indexed there hashed more number cut is =
    let e = entry_at es place in
    let key : Entry → Tag × Mode = λ y. (y.tag, y.mode) in
    let taken = taken-out es es' index place indexed there
    (left-at (opened es) (opened es') index index' hash notes place used e indexed there more number cut is)
    (left-present (opened es) (opened es') index index' hash notes place used e indexed there more number cut is)
    (omega (arith, length-opened es, length-opened es', ap (λ (s : Slots). length s) is, length-take used (set (opened es) place None), length-set (opened es) place None)) in (
      taken,
      indexed-cleared (opened es) (opened es') index index' place hash (e.tag, e.mode) indexed (ap (option_map key) there) (ap (option_map key) taken.gone)
          (λ k apart. ap (option_map key) (taken.others k apart))
          (left-past (opened es) (opened es') index index' hash notes place used e indexed there more number cut is) hashed more,
    )

-- ---- a further entry is noted

pub noted-next :
    (es : List Entry) (index index' : Notes) (place hash : ℕ) → IsFull es → IsOnce (opened es) → IsIndexed (take place (opened es)) index → place < length es →
    hash ≡ key_hash (entry_at es place).tag (entry_at es place).mode → IsOneMore index index' hash place → IsIndexed (take (place + 1) (opened es)) index'
noted-next es index index' place hash full once indexed within hashed more =
    subst (λ (s : Slots). IsIndexed s index') (sym next)
    (pushed-indexed (take place (opened es)) index index' place hash (entry_at es place) indexed absent hashed (sym number) more) where
      next : take (place + 1) (opened es) ≡ take place (opened es) ++ Some (entry_at es place) ∷ []
      next = take_more (opened es) place None (omega (arith, length-opened es)) ∙ ap (λ o. take place (opened es) ++ o ∷ []) (full.held place within)

      number : length (take place (opened es)) ≡ place
      number = length-take-le place (opened es) (omega (arith, length-opened es))

      absent : (k : ℕ) → key_at (take place (opened es)) k ≢ Some ((entry_at es place).tag, (entry_at es place).mode)
      absent k at =
          let found = some_key (take place (opened es)) k ((entry_at es place).tag, (entry_at es place).mode) at in
          let before : k < place = omega (arith, slot_at-within (take place (opened es)) k found.0 found.1, number) in
          let same = once k place ((entry_at es place).tag, (entry_at es place).mode)
          (ap (option_map (λ y. (y.tag, y.mode))) (sym (get_or-take place (opened es) k None before)) ∙ at) (ap (option_map (λ y. (y.tag, y.mode))) (full.held place within)) in
          omega (arith, before, same)
