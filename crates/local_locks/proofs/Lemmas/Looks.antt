use Rattle.std.proofs.Common.{◌≡◌, ◌≢◌, ℕ, ◌<◌, true, false, not, ◌&&◌, refl, sym, ap, ◌∙◌, inl, inr, arith}
use Rattle.std.specs.Prelude.{Option, Some, None, is_some}
use Rattle.std.proofs.lemmas.Bool.{false≢true, cases_Bool, and_parts, eq-eqb, ne_eqb}
use Rattle.modes_core.specs.declared.sessions.Owner.{Owner}
use Rattle.modes_core.specs.declared.sessions.Owner.TheVariants.{Session, Transaction}
use Rattle.modes_core.specs.declared.modes.Mode.{Mode}
use Rattle.modes_core.specs.declared.tags.Tag.{Tag}
use Rattle.place_index.specs.Notes.{Notes, times}
use Rattle.std.specs.Prelude.{List, [], ◌∷◌, length}
use Rattle.local_locks.specs.declared.records.Entry.{Entry}
use Rattle.local_locks.specs.Owned.{is_of, count_for, count_in_all, entry_for, has_entry, new_entry}
use Rattle.local_locks.specs.Slots.{opened, present, slot_at, entry_at, key_at, key_hash, is_held_as, IsIndexed, IsPlaceOf}
use Rattle.local_locks.proofs.Lemmas.Slots.{is_of-same, is_of-own, entry_of-none, none_of, if_some}
use Rattle.local_locks.proofs.Lemmas.Indexes.{found_entry, noted_some, some_key}
use Rattle.local_locks.proofs.Lemmas.OpenSlots.{opened_some, slot_at-opened, entry_in-held, held-by}

-- ---- what a look finds

held_as : (tag : Tag) (mode : Mode) (e : Entry) → is_of tag mode e ≡ true → count_in_all e ≢ 0 → is_held_as tag mode e ≡ true
held_as tag mode e own held = λ i. own i && not (ne_eqb (count_in_all e) 0 held i)

pub held_parts : (tag : Tag) (mode : Mode) (e : Entry) → is_held_as tag mode e ≡ true → (is_of tag mode e ≡ true) × (count_in_all e ≢ 0)
held_parts tag mode e is =
    let both = and_parts _ _ is in
    (both.0, λ none. false≢true (sym (ap not (eq-eqb (count_in_all e) 0 none)) ∙ both.1))

pub place_of : (es : List Entry) (index : Notes) → IsIndexed (opened es) index → (tag : Tag) (mode : Mode) (place : ℕ) → slot_at (opened es) place ≡ Some (entry_at es place) → is_of tag mode (entry_at es place) ≡ true → IsPlaceOf es tag mode place
place_of es index indexed tag mode place there own =
    record {
      within = (opened_some es place (entry_at es place) there).0;
      there = there;
      own = own;
      found = found_entry (opened es) index indexed tag mode place (entry_at es place) there own;
    }

-- an entry that was read, and that an owner has
pub place_read : (es : List Entry) (index : Notes) → IsIndexed (opened es) index → (tag : Tag) (mode : Mode) (owner : Owner) (place : ℕ) (e : Entry) → e ≡ entry_at es place → is_of tag mode e ≡ true → 0 < count_for owner (entry_at es place) → IsPlaceOf es tag mode place
place_read es index indexed tag mode owner place e read own some =
    place_of es index indexed tag mode place (slot_at-opened es place ∙ entry_in-held (entry_at es place) (held-by owner (entry_at es place) some)) (ap (is_of tag mode) (sym read) ∙ own)

-- where an owner has an entry there is one
pub some_held : (es : List Entry) (index : Notes) → IsIndexed (opened es) index → (owner : Owner) (place : ℕ) → 0 < count_for owner (entry_at es place) → 0 < length (present (opened es))
some_held es index indexed owner place some =
    let e = entry_at es place in
    first (present (opened es)) e (place_read es index indexed e.tag e.mode owner place e refl (is_of-own e) some).found where
      first : (entries : List Entry) (e : Entry) → entry_for entries e.tag e.mode ≡ Some e → 0 < length entries
      first [] e found = absurd (let bad : None ≡ Some e = found in cc)
      first (x ∷ entries) e found = omega arith

-- where no place that is noted under the hash has the object and mode, nothing has
pub missing_of :
    (es : List Entry) (index : Notes) → IsIndexed (opened es) index → (tag : Tag) (mode : Mode) (hash : ℕ) → hash ≡ key_hash tag mode →
    ((place : ℕ) → 0 < times index hash place → is_held_as tag mode (entry_at es place) ≡ false) → entry_for (present (opened es)) tag mode ≡ None
missing_of es index indexed tag mode hash hashed other =
    entry_of-none tag mode (opened es) (λ k. if_some _ (slot_at (opened es) k) (none k)) where
      none : (k : ℕ) (x : Entry) → slot_at (opened es) k ≡ Some x → is_of tag mode x ≡ false
      none k x at =
          elim (cases_Bool (is_of tag mode x)) [
            | inl own ↦
                let same = is_of-same tag mode x own in
                let some = noted_some (opened es) index indexed k hash x at (hashed ∙ (λ i. key_hash (sym same.0 i) (sym same.1 i))) in
                let here = opened_some es k x at in
                let held : is_held_as tag mode (entry_at es k) ≡ true = ap (is_held_as tag mode) here.1 ∙ held_as tag mode x own here.2 in
                absurd (false≢true (sym (other k some) ∙ held))
            | inr apart ↦ apart
          ]

-- what has no entry is not found
pub no_entry : (es : List Entry) (tag : Tag) (mode : Mode) → has_entry es tag mode ≡ false → entry_for es tag mode ≡ None
no_entry es tag mode none = at (entry_for es tag mode) none where
  at : (found : Option Entry) → is_some found ≡ false → found ≡ None
  at None none = refl
  at (Some e) none = absurd (false≢true (sym none))

-- an object and mode with no entry has no slot
pub absent_key : (es : List Entry) (tag : Tag) (mode : Mode) → entry_for (present (opened es)) tag mode ≡ None → (k : ℕ) → key_at (opened es) k ≢ Some (tag, mode)
absent_key es tag mode none k at =
    let found = some_key (opened es) k (tag, mode) at in
    let own : is_of tag mode found.0 ≡ true = sym (λ i. is_of (found.2 i).0 (found.2 i).1 found.0) ∙ is_of-own found.0 in
    false≢true (sym (none_of tag mode (opened es) none k found.0 found.1) ∙ own)

-- the entry of a first acquire has its object and mode
pub new_entry-key : (tag : Tag) (mode : Mode) (owner : Owner) (e : Entry) → e ≡ new_entry tag mode owner → (e.tag ≡ tag) × (e.mode ≡ mode)
new_entry-key tag mode Session e is = (ap (λ (x : Entry). x.tag) is, ap (λ (x : Entry). x.mode) is)
new_entry-key tag mode Transaction e is = (ap (λ (x : Entry). x.tag) is, ap (λ (x : Entry). x.mode) is)
