use Rattle.std.proofs.Common.{◌≡◌, ◌≢◌, ℕ, ◌+◌, ◌-◌, ◌<◌, true, not, ◌&&◌, cond, List, [], ◌∷◌, ◌++◌, length, set, refl, sym, ap, subst, ◌∙◌, inl, inr, arith}
use Rattle.std.specs.Prelude.{Some, None, IfSome, is_some}
use Rattle.std.specs.Option.{option_map_or}
use Rattle.std.proofs.lemmas.Bool.{cases_Bool, cases_eq, cases_lt, eq-eqb, ne_eqb}
use Rattle.modes_core.specs.declared.modes.Mode.{Mode}
use Rattle.modes_core.specs.Mode.{mode_eq}
use Rattle.modes_core.specs.Tag.{tag_eq}
use Rattle.modes_core.specs.declared.tags.Tag.{Tag}
use Rattle.modes_core.specs.declared.sessions.Owner.{Owner}
use Rattle.modes_core.specs.declared.sessions.Owner.TheVariants.{Session, Transaction}
use Rattle.place_index.specs.Notes.{Notes}
use Rattle.local_locks.specs.declared.records.Entry.{Entry}
use Rattle.local_locks.specs.declared.ends.End.{End}
use Rattle.local_locks.specs.declared.ends.Progress.{Progress}
use Rattle.local_locks.specs.Owned.{IsCounted, count_for, count_in_all, raised, lowered, new_entry, max_count, is_of, entry_for, has_entry, owner_count_of, total_of, change, entries_but, with_one_more, with_one_less}
use Rattle.local_locks.specs.Slots.{Slots, opened, entry_at, slot_at, present, IsIndexed, IsPlaceOf, IsPast, IsKept, IsTable, reached, back_to}
use Rattle.local_locks.proofs.Lemmas.Slots.{is_of-same, change-at, length-present_set, slot_at-set, slot_at-set_other, slot_at-push_before, slot_at-past, slot_at-push, slot_at-within, present-push}
use Rattle.local_locks.proofs.Lemmas.Indexes.{none_else, found_entry, indexed-change}
use Rattle.local_locks.proofs.Lemmas.Ends.{Keeps, Keeps-lowered, Keeps-raised}
use Rattle.local_locks.proofs.Lemmas.Kept.{past-back_to, past-fewer}
use Rattle.std.proofs.lemmas.List.{length_push}

-- ---- counts read from the entries

pub owner_count-at : (es : List Entry) (tag : Tag) (mode : Mode) (owner : Owner) (e : Entry) → entry_for es tag mode ≡ Some e → owner_count_of es tag mode owner ≡ count_for owner e
owner_count-at es tag mode owner e at = ap (λ o. option_map_or (count_for owner) o 0) at

pub total-at : (es : List Entry) (tag : Tag) (mode : Mode) (e : Entry) → entry_for es tag mode ≡ Some e → total_of es tag mode ≡ count_in_all e
total-at es tag mode e at = ap (λ o. option_map_or count_in_all o 0) at

pub total-none : (es : List Entry) (tag : Tag) (mode : Mode) → entry_for es tag mode ≡ None → total_of es tag mode ≡ 0
total-none es tag mode none = ap (λ o. option_map_or count_in_all o 0) none

pub entry_of-entries_but : (es : List Entry) (tag : Tag) (mode : Mode) → entry_for (entries_but es tag mode) tag mode ≡ None
entry_of-entries_but [] tag mode = refl
entry_of-entries_but (e ∷ es) tag mode =
    elim (cases_Bool (is_of tag mode e)) [
      | inl own ↦ ap (λ b. entry_for (cond (not b) (e ∷ entries_but es tag mode) (entries_but es tag mode)) tag mode) own ∙ entry_of-entries_but es tag mode
      | inr other ↦
          ap (λ b. entry_for (cond (not b) (e ∷ entries_but es tag mode) (entries_but es tag mode)) tag mode) other
          ∙ (ap (λ b. cond b (Some e) (entry_for (entries_but es tag mode) tag mode)) other ∙ entry_of-entries_but es tag mode)
    ]

-- ---- one count more or less

pub raised-key : (owner : Owner) (e : Entry) → ((raised owner e).tag ≡ e.tag) × ((raised owner e).mode ≡ e.mode)
raised-key Session e = (refl, refl)
raised-key Transaction e = (refl, refl)

pub lowered-key : (owner : Owner) (e : Entry) → ((lowered owner e).tag ≡ e.tag) × ((lowered owner e).mode ≡ e.mode)
lowered-key Session e = (refl, refl)
lowered-key Transaction e = (refl, refl)

pub count_for-below : (owner : Owner) (e : Entry) → IsCounted e → count_for owner e ≢ max_count → count_for owner e < max_count
count_for-below Session e counted limit = omega (arith, counted.session, limit)
count_for-below Transaction e counted limit = omega (arith, counted.transaction, limit)

pub IsCounted-raised : (owner : Owner) (e : Entry) → count_for owner e < max_count → IsCounted e → IsCounted (raised owner e)
IsCounted-raised Session e below counted = record { some = omega arith; transaction = counted.transaction; session = omega arith }
IsCounted-raised Transaction e below counted = record { some = omega arith; transaction = omega arith; session = counted.session }

pub IsCounted-lowered : (owner : Owner) (e : Entry) → 0 < count_for owner e → count_in_all e ≢ 1 → IsCounted e → IsCounted (lowered owner e)
IsCounted-lowered Session e some more counted = record { some = omega arith; transaction = counted.transaction; session = omega (arith, counted.session) }
IsCounted-lowered Transaction e some more counted = record { some = omega arith; transaction = omega (arith, counted.transaction); session = counted.session }

pub IsCounted-new : (tag : Tag) (mode : Mode) (owner : Owner) → IsCounted (new_entry tag mode owner)
IsCounted-new tag mode Session = record { some = omega arith; transaction = omega arith; session = omega arith }
IsCounted-new tag mode Transaction = record { some = omega arith; transaction = omega arith; session = omega arith }

-- ---- what stands in the slots after a change to one entry

pub kept-change :
    (slots : Slots) (index : Notes) (len max_local : ℕ) (progress progress' : Progress) (place : ℕ) (e x : Entry) →
    IsKept slots index len max_local progress → slot_at slots place ≡ Some e → x.tag ≡ e.tag → x.mode ≡ e.mode → IsCounted x →
    ((end : End) → IsPast end (set slots place (Some x)) (reached end progress')) →
    IsKept (set slots place (Some x)) index len max_local progress'
kept-change slots index len max_local progress progress' place e x kept at same_tag same_mode counted_x past =
    record {
      indexed = indexed-change slots index place e x kept.indexed at same_tag same_mode;
      counted = counted;
      number = kept.number ∙ sym (length-present_set slots place e x at);
      within = kept.within;
      past = past;
    } where
      counted : (k : ℕ) (y : Entry) → slot_at (set slots place (Some x)) k ≡ Some y → IsCounted y
      counted k y at_k =
          elim (cases_eq k place) [
            | inl same ↦
                let both : Some x ≡ Some y = sym (ap (slot_at (set slots place (Some x))) same ∙ slot_at-set slots place (Some x) (slot_at-within slots place e at)) ∙ at_k in
                let its : x ≡ y = cc in
                subst IsCounted its counted_x
            | inr apart ↦ kept.counted k y (sym (slot_at-set_other slots place k (Some x) apart) ∙ at_k)
          ]

-- an end is past a changed entry if it keeps that, too
past-change :
    (end : End) (slots : Slots) (place : ℕ) (e x : Entry) (past : ℕ) → slot_at slots place ≡ Some e → (Keeps end e → Keeps end x) → IsPast end slots past →
    IsPast end (set slots place (Some x)) past
past-change end slots place e x past at keeps was = λ k before.
    elim (cases_eq k place) [
      | inl same ↦
          subst (λ o. IfSome o (Keeps end)) (sym (ap (slot_at (set slots place (Some x))) same ∙ slot_at-set slots place (Some x) (slot_at-within slots place e at)))
          (keeps (subst (λ o. IfSome o (Keeps end)) (ap (slot_at slots) same ∙ at) (was k before)))
      | inr apart ↦ subst (λ o. IfSome o (Keeps end)) (sym (slot_at-set_other slots place k (Some x) apart)) (was k before)
    ]

pub kept-raised :
    (slots : Slots) (index : Notes) (len max_local : ℕ) (progress : Progress) (place : ℕ) (owner : Owner) (e : Entry) →
    IsKept slots index len max_local progress → slot_at slots place ≡ Some e → count_for owner e < max_count →
    IsKept (set slots place (Some (raised owner e))) index len max_local (back_to place progress)
kept-raised slots index len max_local progress place owner e kept at below =
    let key = raised-key owner e in
    kept-change slots index len max_local progress (back_to place progress) place e (raised owner e) kept at key.0 key.1
    (IsCounted-raised owner e below (kept.counted place e at))
    (λ end. past-back_to end slots (set slots place (Some (raised owner e))) place progress
    (λ k before. slot_at-set_other slots place k (Some (raised owner e)) (λ same. omega arith)) (kept.past end))

-- the table with it, in which the owner's count was not at its most
pub IsTable-raised :
    (es es' : List Entry) (index : Notes) (len max_local : ℕ) (progress : Progress) (tag : Tag) (mode : Mode) (place : ℕ) (owner : Owner) →
    IsTable es index len max_local progress → IsPlaceOf es tag mode place → count_for owner (entry_at es place) ≢ max_count →
    opened es' ≡ set (opened es) place (Some (raised owner (entry_at es place))) → length es' ≡ length es →
    IsTable es' index len max_local (back_to place progress)
IsTable-raised es es' index len max_local progress tag mode place owner table at limit raised_es number =
    record {
      kept = subst (λ (s : Slots). IsKept s index len max_local (back_to place progress)) (sym raised_es)
          (kept-raised (opened es) index len max_local progress place owner (entry_at es place) table.kept at.there
          (count_for-below owner (entry_at es place) (table.kept.counted place (entry_at es place) at.there) limit));
      few = omega (arith, number, table.few);
    }

-- the same by an owner that has it already, which changes nothing for an end that is past it
pub IsTable-raised_held :
    (es es' : List Entry) (index : Notes) (len max_local : ℕ) (progress : Progress) (tag : Tag) (mode : Mode) (place : ℕ) (owner : Owner) →
    IsTable es index len max_local progress → IsPlaceOf es tag mode place → 0 < count_for owner (entry_at es place) → count_for owner (entry_at es place) < max_count →
    opened es' ≡ set (opened es) place (Some (raised owner (entry_at es place))) → length es' ≡ length es →
    IsTable es' index len max_local progress
IsTable-raised_held es es' index len max_local progress tag mode place owner table at some below raised_es number =
    let e = entry_at es place in
    let key = raised-key owner e in
    record {
      kept = subst (λ (s : Slots). IsKept s index len max_local progress) (sym raised_es)
          (kept-change (opened es) index len max_local progress progress place e (raised owner e) table.kept at.there key.0 key.1
          (IsCounted-raised owner e below (table.kept.counted place e at.there))
          (λ end. past-change end (opened es) place e (raised owner e) (reached end progress) at.there (λ keeps. Keeps-raised end owner e keeps some) (table.kept.past end)));
      few = omega (arith, number, table.few);
    }

pub kept-lowered :
    (slots : Slots) (index : Notes) (len max_local : ℕ) (progress : Progress) (place : ℕ) (owner : Owner) (e : Entry) →
    IsKept slots index len max_local progress → slot_at slots place ≡ Some e → 0 < count_for owner e → count_in_all e ≢ 1 →
    IsKept (set slots place (Some (lowered owner e))) index len max_local progress
kept-lowered slots index len max_local progress place owner e kept at some more =
    let key = lowered-key owner e in
    kept-change slots index len max_local progress progress place e (lowered owner e) kept at key.0 key.1
    (IsCounted-lowered owner e some more (kept.counted place e at))
    (λ end. past-change end slots place e (lowered owner e) (reached end progress) at (λ keeps. Keeps-lowered end owner e keeps some more) (kept.past end))

-- a new last entry
pub kept-pushed :
    (slots : Slots) (index index' : Notes) (len max_local : ℕ) (progress : Progress) (e : Entry) →
    IsKept slots index len max_local progress → IsIndexed (slots ++ Some e ∷ []) index' → IsCounted e → len < max_local →
    IsKept (slots ++ Some e ∷ []) index' (len + 1) max_local (back_to (length slots) progress)
kept-pushed slots index index' len max_local progress e kept indexed counted_e below =
    record {
      indexed = indexed;
      counted = counted;
      number = (let number = kept.number in let more : length (present (slots ++ Some e ∷ [])) ≡ length (present slots) + 1 = ap (λ l. length l) (present-push slots e) ∙ length_push (present slots) e in omega arith);
      within = omega arith;
      past = λ end. past-back_to end slots (slots ++ Some e ∷ []) (length slots) progress (λ k before. slot_at-push_before slots (Some e) k before) (kept.past end);
    } where
      counted : (k : ℕ) (y : Entry) → slot_at (slots ++ Some e ∷ []) k ≡ Some y → IsCounted y
      counted k y at_k =
          elim (cases_lt k (length slots)) [
            | inl before ↦ kept.counted k y (sym (slot_at-push_before slots (Some e) k before) ∙ at_k)
            | inr past ↦
                elim (cases_eq k (length slots)) [
                  | inl same ↦
                      let both : Some e ≡ Some y = sym (ap (slot_at (slots ++ Some e ∷ [])) same ∙ slot_at-push slots (Some e)) ∙ at_k in
                      let its : e ≡ y = cc in
                      subst IsCounted its counted_e
                  | inr apart ↦ absurd (let bad : None ≡ Some y = sym (slot_at-past (slots ++ Some e ∷ []) k (omega (arith, length_push slots (Some e)))) ∙ at_k in cc)
                ]
          ]

-- an entry gone
pub kept-taken :
    (slots slots' : Slots) (index index' : Notes) (len max_local : ℕ) (progress : Progress) (place : ℕ) →
    IsKept slots index len max_local progress → IsIndexed slots' index' →
    slot_at slots' place ≡ None → ((k : ℕ) → k ≢ place → slot_at slots' k ≡ slot_at slots k) → length (present slots) ≡ length (present slots') + 1 →
    IsKept slots' index' (len - 1) max_local progress
kept-taken slots slots' index index' len max_local progress place kept indexed gone others number =
    record {
      indexed = indexed;
      counted = λ k y at. kept.counted k y (fewer k y at);
      number = omega (arith, kept.number, number);
      within = omega (arith, kept.within);
      past = λ end. past-fewer end slots slots' (reached end progress) fewer (kept.past end);
    } where
      fewer : (k : ℕ) (y : Entry) → slot_at slots' k ≡ Some y → slot_at slots k ≡ Some y
      fewer k y at =
          elim (cases_eq k place) [
            | inl same ↦ absurd (let bad : None ≡ Some y = sym gone ∙ (ap (slot_at slots') (sym same) ∙ at) in cc)
            | inr apart ↦ sym (others k apart) ∙ at
          ]

-- ---- what the entries are after it

pub entries-raised :
    (slots : Slots) (index : Notes) (tag : Tag) (mode : Mode) (owner : Owner) (place : ℕ) (e : Entry) →
    IsIndexed slots index → slot_at slots place ≡ Some e → is_of tag mode e ≡ true →
    present (set slots place (Some (raised owner e))) ≡ with_one_more (present slots) tag mode owner
entries-raised slots index tag mode owner place e indexed at own =
    let has : has_entry (present slots) tag mode ≡ true = ap (λ o. is_some o) (found_entry slots index indexed tag mode place e at own) in
    change-at (raised owner) tag mode slots place e at own (none_else slots index indexed tag mode place e at own)
    ∙ sym (ap (λ b. cond b (change (raised owner) (present slots) tag mode) (present slots ++ new_entry tag mode owner ∷ [])) has)

pub entries-lowered :
    (slots : Slots) (index : Notes) (tag : Tag) (mode : Mode) (owner : Owner) (place : ℕ) (e : Entry) →
    IsIndexed slots index → slot_at slots place ≡ Some e → is_of tag mode e ≡ true → count_in_all e ≢ 1 →
    present (set slots place (Some (lowered owner e))) ≡ with_one_less (present slots) tag mode owner
entries-lowered slots index tag mode owner place e indexed at own more =
    let found = found_entry slots index indexed tag mode place e at own in
    let total = total-at (present slots) tag mode e found in
    change-at (lowered owner) tag mode slots place e at own (none_else slots index indexed tag mode place e at own)
    ∙ sym (ap (λ b. cond b (entries_but (present slots) tag mode) (change (lowered owner) (present slots) tag mode))
    (ne_eqb (total_of (present slots) tag mode) 1 (λ one. more (sym total ∙ one))))

-- the only count taken away
pub entries-taken :
    (es es' : List Entry) (tag : Tag) (mode : Mode) (owner : Owner) (e : Entry) →
    entry_for es tag mode ≡ Some e → is_of tag mode e ≡ true → count_in_all e ≡ 1 → es' ≡ entries_but es e.tag e.mode →
    (es' ≡ with_one_less es tag mode owner) × (total_of es' tag mode ≡ 0)
entries-taken es es' tag mode owner e found own one but =
    let both = is_of-same tag mode e own in
    let others : es' ≡ entries_but es tag mode = but ∙ (λ i. entries_but es (both.0 i) (both.1 i)) in (
      others ∙ sym (ap (λ b. cond b (entries_but es tag mode) (change (lowered owner) es tag mode)) (eq-eqb (total_of es tag mode) 1 (total-at es tag mode e found ∙ one))),
      ap (λ (l : List Entry). total_of l tag mode) others ∙ total-none (entries_but es tag mode) tag mode (entry_of-entries_but es tag mode),
    )

-- the total after it
pub total-lowered :
    (slots : Slots) (index : Notes) (tag : Tag) (mode : Mode) (owner : Owner) (place : ℕ) (e : Entry) →
    IsIndexed slots index → slot_at slots place ≡ Some e → is_of tag mode e ≡ true → IsCounted (lowered owner e) →
    0 < total_of (present (set slots place (Some (lowered owner e)))) tag mode
total-lowered slots index tag mode owner place e indexed at own counted =
    let key = lowered-key owner e in
    let still = indexed-change slots index place e (lowered owner e) indexed at key.0 key.1 in
    let here = slot_at-set slots place (Some (lowered owner e)) (slot_at-within slots place e at) in
    let own' : is_of tag mode (lowered owner e) ≡ true = (λ i. tag_eq (key.0 i) tag && mode_eq (key.1 i) mode) ∙ own in
    let found = found_entry (set slots place (Some (lowered owner e))) index still tag mode place (lowered owner e) here own' in
    let total = total-at (present (set slots place (Some (lowered owner e)))) tag mode (lowered owner e) found in
    let some = counted.some in
    omega (arith, total, some)
