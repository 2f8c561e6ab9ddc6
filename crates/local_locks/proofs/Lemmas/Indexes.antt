use Rattle.std.proofs.Common.{◌≡◌, ◌≢◌, ℕ, ◌+◌, ◌<◌, Bool, true, false, ◌&&◌, cond, eqb, [], ◌∷◌, ◌++◌, ◌≤◌, List, length, count_by, ltb, set, suc, zero, subst, refl, sym, ap, ◌∙◌, inl, inr, arith}
use Rattle.std.specs.Prelude.{Option, Some, None}
use Rattle.std.specs.Option.{option_map}
use Rattle.std.proofs.lemmas.Bool.{cases_Bool, cases_eq, cases_lt, and_right, eq-eqb, ne_eqb, eqb-true, and_parts, lt-ltb, le-ltb}
use Rattle.modes_core.specs.declared.modes.Mode.{Mode}
use Rattle.modes_core.specs.declared.tags.Tag.{Tag}
use Rattle.place_index.specs.Notes.{Notes, times, is_at, once_at, IsOneMore}
use Rattle.local_locks.specs.declared.records.Entry.{Entry}
use Rattle.local_locks.specs.Owned.{is_of, entry_for}
use Rattle.local_locks.specs.Slots.{Slots, slot_at, present, key_at, key_hash, times_of, IsIndexed}
use Rattle.local_locks.proofs.Lemmas.Slots.{NoneElse, if_some, is_of-same, entry_of-at, slot_at-set, slot_at-set_other, slot_at-within, slot_at-past, slot_at-push, slot_at-push_before}
use Rattle.std.proofs.lemmas.List.{length-set, length_push}
use Rattle.std.proofs.lemmas.List.Sums.{count_by-le-length, sum_by-cons}

-- ---- keys of slots

-- the object and mode of an entry, where there is one
abbrev key_in : Option Entry → Option (Tag × Mode)
key_in o = option_map (λ y. (y.tag, y.mode)) o

pub own_key : (slots : Slots) (k : ℕ) (x : Entry) (tag : Tag) (mode : Mode) → slot_at slots k ≡ Some x → is_of tag mode x ≡ true → key_at slots k ≡ Some (tag, mode)
own_key slots k x tag mode at own =
    let same = is_of-same tag mode x own in
    ap (option_map (λ y. (y.tag, y.mode))) at ∙ (λ i. Some (same.0 i, same.1 i))

pub some_key : (slots : Slots) (k : ℕ) (key : Tag × Mode) → key_at slots k ≡ Some key → (x : Entry) × (slot_at slots k ≡ Some x) × ((x.tag, x.mode) ≡ key)
some_key slots k key at = go (slot_at slots k) refl where
  go : (o : Option Entry) → slot_at slots k ≡ o → (x : Entry) × (slot_at slots k ≡ Some x) × ((x.tag, x.mode) ≡ key)
  go None is = absurd (let bad : None ≡ Some key = sym (ap (option_map (λ y. (y.tag, y.mode))) is) ∙ at in cc)
  go (Some x) is = (x, is, let both : Some (x.tag, x.mode) ≡ Some key = sym (ap (option_map (λ y. (y.tag, y.mode))) is) ∙ at in cc)

pub none_some : (key : Tag × Mode) → None ≡ Some key → ⊥
none_some key bad = cc

-- ---- what the index says

-- no other slot has the object and mode
pub none_else : (slots : Slots) (index : Notes) → IsIndexed slots index → (tag : Tag) (mode : Mode) (place : ℕ) (e : Entry) → slot_at slots place ≡ Some e → is_of tag mode e ≡ true → NoneElse tag mode slots place
none_else slots index indexed tag mode place e at own k apart = if_some _ (slot_at slots k) at_entry where
  at_entry : (x : Entry) → slot_at slots k ≡ Some x → is_of tag mode x ≡ false
  at_entry x at_k =
      elim (cases_Bool (is_of tag mode x)) [
        | inl its ↦ absurd (apart (indexed.once k place (tag, mode) (own_key slots k x tag mode at_k its) (own_key slots place e tag mode at own)))
        | inr other ↦ other
      ]

pub found_entry : (slots : Slots) (index : Notes) → IsIndexed slots index → (tag : Tag) (mode : Mode) (place : ℕ) (e : Entry) → slot_at slots place ≡ Some e → is_of tag mode e ≡ true → entry_for (present slots) tag mode ≡ Some e
found_entry slots index indexed tag mode place e at own = entry_of-at tag mode slots place e at own (none_else slots index indexed tag mode place e at own)

-- ---- the index stays so

-- no slot at all, and no note
pub indexed-nil : (index : Notes) → ((hash place : ℕ) → times index hash place ≡ 0) → IsIndexed [] index
indexed-nil index none =
    record {
      noted = λ h p key at. absurd (no_key p key at);
      within = λ h p past. none h p;
      once = λ i j key at_i at_j. absurd (no_key i key at_i);
    } where
      no_key : (k : ℕ) (key : Tag × Mode) → key_at [] k ≡ Some key → ⊥
      no_key k key at = (let bad : None ≡ Some key = at in cc)

-- the same objects and modes in the same slots
pub indexed-alike : (slots slots' : Slots) (index : Notes) → length slots' ≡ length slots → ((k : ℕ) → key_at slots' k ≡ key_at slots k) → IsIndexed slots index → IsIndexed slots' index
indexed-alike slots slots' index number same indexed =
    record {
      noted = λ h p key at. indexed.noted h p key (sym (same p) ∙ at);
      within = λ h p past. indexed.within h p (omega arith);
      once = λ i j key at_i at_j. indexed.once i j key (sym (same i) ∙ at_i) (sym (same j) ∙ at_j);
    }

-- an entry with other counts in the same slot
pub indexed-change : (slots : Slots) (index : Notes) (place : ℕ) (e x : Entry) → IsIndexed slots index → slot_at slots place ≡ Some e → x.tag ≡ e.tag → x.mode ≡ e.mode → IsIndexed (set slots place (Some x)) index
indexed-change slots index place e x indexed at same_tag same_mode =
    indexed-alike slots (set slots place (Some x)) index (length-set slots place (Some x))
    (λ k. elim (cases_eq k place) [
      | inl same ↦
          ap (key_at (set slots place (Some x))) same
          ∙ (ap (option_map (λ y. (y.tag, y.mode))) (slot_at-set slots place (Some x) (slot_at-within slots place e at))
          ∙ ((λ i. Some (same_tag i, same_mode i)) ∙ (sym (ap (option_map (λ y. (y.tag, y.mode))) at) ∙ ap (key_at slots) (sym same))))
      | inr apart ↦ ap (option_map (λ y. (y.tag, y.mode))) (slot_at-set_other slots place k (Some x) apart)
    ]) indexed

-- a test as a number
abbrev one_if : Bool → ℕ
one_if b = cond b 1 0

once_here : (hash place h p : ℕ) → p ≡ place → once_at hash place h p ≡ one_if (eqb h hash)
once_here hash place h p same = (λ i. one_if (eqb h hash && eq-eqb p place same i)) ∙ and_true (eqb h hash) where
  and_true : (b : Bool) → one_if (b && true) ≡ one_if b
  and_true true = refl
  and_true false = refl

pub once_else : (hash place h p : ℕ) → p ≢ place → once_at hash place h p ≡ 0
once_else hash place h p apart = ap one_if (and_right (eqb h hash) (eqb p place) (ne_eqb p place apart))

-- another place than that of an empty slot
away : (slots : Slots) (place k : ℕ) (other : Tag × Mode) → key_at slots place ≡ None → key_at slots k ≡ Some other → k ≢ place
away slots place k other gone at same = let bad : None ≡ Some other = sym gone ∙ (ap (key_at slots) (sym same) ∙ at) in cc

-- a slot is emptied, and its note goes
pub indexed-cleared :
    (slots slots' : Slots) (index index' : Notes) (place hash : ℕ) (key : Tag × Mode) →
    IsIndexed slots index → key_at slots place ≡ Some key → key_at slots' place ≡ None →
    ((k : ℕ) → k ≢ place → key_at slots' k ≡ key_at slots k) → ((h k : ℕ) → k ≢ place → length slots' ≤ k → times index' h k ≡ 0) →
    hash ≡ key_hash key.0 key.1 → IsOneMore index' index hash place → IsIndexed slots' index'
indexed-cleared slots slots' index index' place hash key indexed there gone others past hashed more =
    record {
      noted = λ h p other at.
          let apart = away slots' place p other gone at in
          omega (arith, more h p, indexed.noted h p other (sym (others p apart) ∙ at), once_else hash place h p apart);
      within = λ h p beyond. elim (cases_eq p place) [
        | inl same ↦
            let was : times index h p ≡ one_if (eqb h (key_hash key.0 key.1)) = indexed.noted h p key (ap (key_at slots) same ∙ there) in
            let one : once_at hash place h p ≡ one_if (eqb h (key_hash key.0 key.1)) = once_here hash place h p same ∙ ap (λ n. one_if (eqb h n)) hashed in
            omega (arith, more h p, was, one)
        | inr apart ↦ past h p apart beyond
      ];
      once = λ i j other at_i at_j.
          indexed.once i j other (sym (others i (away slots' place i other gone at_i)) ∙ at_i) (sym (others j (away slots' place j other gone at_j)) ∙ at_j);
    }

-- a slot is emptied, and its note stays
pub indexed-left :
    (slots slots' : Slots) (index : Notes) (place : ℕ) → IsIndexed slots index → length slots' ≡ length slots → key_at slots' place ≡ None →
    ((k : ℕ) → k ≢ place → key_at slots' k ≡ key_at slots k) → IsIndexed slots' index
indexed-left slots slots' index place indexed number gone others =
    record {
      noted = λ h p key at. indexed.noted h p key (sym (others p (away slots' place p key gone at)) ∙ at);
      within = λ h p past. indexed.within h p (omega arith);
      once = λ i j key at_i at_j.
          indexed.once i j key (sym (others i (away slots' place i key gone at_i)) ∙ at_i) (sym (others j (away slots' place j key gone at_j)) ∙ at_j);
    }

-- a slot with an entry comes after the others, and its place is noted
indexed-behind :
    (slots slots' : Slots) (index index' : Notes) (place hash : ℕ) (key : Tag × Mode) →
    IsIndexed slots index → place ≡ length slots → length slots' ≡ place + 1 → key_at slots' place ≡ Some key →
    ((k : ℕ) → k ≢ place → key_at slots' k ≡ key_at slots k) → ((k : ℕ) → key_at slots k ≢ Some key) →
    hash ≡ key_hash key.0 key.1 → IsOneMore index index' hash place → IsIndexed slots' index'
indexed-behind slots slots' index index' place hash key indexed last number there others absent hashed more =
    record {
      noted = λ h p other at. elim (cases_eq p place) [
        | inl same ↦
            let was : times index h p ≡ 0 = indexed.within h p (omega arith) in
            let one : once_at hash place h p ≡ one_if (eqb h (key_hash key.0 key.1)) = once_here hash place h p same ∙ ap (λ n. one_if (eqb h n)) hashed in
            let some : one_if (eqb h (key_hash key.0 key.1)) ≡ times_of other h = ap (λ (k : Tag × Mode). times_of k h) (its p other same at) in
            omega (arith, more h p, was, one, some)
        | inr apart ↦ omega (arith, more h p, indexed.noted h p other (sym (others p apart) ∙ at), once_else hash place h p apart)
      ];
      within = λ h p beyond.
          let apart : p ≢ place = λ same. omega arith in
          omega (arith, more h p, indexed.within h p (omega arith), once_else hash place h p apart);
      once = once;
    } where
      its : (k : ℕ) (other : Tag × Mode) → k ≡ place → key_at slots' k ≡ Some other → key ≡ other
      its k other same at = let both : Some key ≡ Some other = sym there ∙ (ap (key_at slots') (sym same) ∙ at) in cc

      once : (i j : ℕ) (other : Tag × Mode) → key_at slots' i ≡ Some other → key_at slots' j ≡ Some other → i ≡ j
      once i j other at_i at_j =
          elim (cases_eq i place) [
            | inl here_i ↦ elim (cases_eq j place) [
              | inl here_j ↦ here_i ∙ sym here_j
              | inr apart_j ↦ absurd (absent j (sym (others j apart_j) ∙ (at_j ∙ ap (λ y. Some y) (sym (its i other here_i at_i)))))
            ]
            | inr apart_i ↦ elim (cases_eq j place) [
              | inl here_j ↦ absurd (absent i (sym (others i apart_i) ∙ (at_i ∙ ap (λ y. Some y) (sym (its j other here_j at_j)))))
              | inr apart_j ↦ indexed.once i j other (sym (others i apart_i) ∙ at_i) (sym (others j apart_j) ∙ at_j)
            ]
          ]

-- ---- what the calls do to an index

-- the place of an entry is noted under its hash
pub noted_some : (slots : Slots) (index : Notes) → IsIndexed slots index → (place hash : ℕ) (e : Entry) → slot_at slots place ≡ Some e → hash ≡ key_hash e.tag e.mode → 0 < times index hash place
noted_some slots index indexed place hash e at hashed =
    let one : times index hash place ≡ one_if (eqb hash (key_hash e.tag e.mode)) = indexed.noted hash place (e.tag, e.mode) (ap key_in at) in
    let yes : one_if (eqb hash (key_hash e.tag e.mode)) ≡ 1 = ap one_if (eq-eqb hash (key_hash e.tag e.mode) hashed) in
    omega (arith, one, yes)

-- a place that is noted is that of a slot
pub noted_within : (slots : Slots) (index : Notes) → IsIndexed slots index → (place hash : ℕ) → 0 < times index hash place → place < length slots
noted_within slots index indexed place hash some =
    elim (cases_lt place (length slots)) [
      | inl within ↦ within
      | inr past ↦ absurd (omega (arith, indexed.within hash place past, some))
    ]

-- a new last slot
pub pushed-indexed :
    (slots : Slots) (index index' : Notes) (place hash : ℕ) (e : Entry) →
    IsIndexed slots index → ((k : ℕ) → key_at slots k ≢ Some (e.tag, e.mode)) → hash ≡ key_hash e.tag e.mode →
    place ≡ length slots → IsOneMore index index' hash place → IsIndexed (slots ++ Some e ∷ []) index'
pushed-indexed slots index index' place hash e indexed absent hashed last more =
    indexed-behind slots (slots ++ Some e ∷ []) index index' place hash (e.tag, e.mode) indexed last (omega (arith, length_push slots (Some e)))
    (ap (key_at (slots ++ Some e ∷ [])) last ∙ ap key_in (slot_at-push slots (Some e)))
    (λ k apart. elim (cases_lt k (length slots)) [
      | inl before ↦ ap key_in (slot_at-push_before slots (Some e) k before)
      | inr past ↦ ap key_in (slot_at-past (slots ++ Some e ∷ []) k (omega (arith, length_push slots (Some e)))) ∙ sym (ap key_in (slot_at-past slots k past))
    ]) absent hashed more

-- ---- how many notes there are

-- with no note no place is noted
pub times_none : (index : Notes) → length index.notes ≡ 0 → (hash place : ℕ) → times index hash place ≡ 0
times_none index none hash place = omega (arith, count_by-le-length (is_at hash place) index.notes)

-- the notes of places below a number
abbrev below : ℕ → ℕ × ℕ → Bool
below n note = ltb note.1 n

one_below : (hash n : ℕ) (note : ℕ × ℕ) → one_if (is_at hash n note) + one_if (below n note) ≤ one_if (below (n + 1) note)
one_below hash n note =
    elim (cases_Bool (is_at hash n note)) [
      | inl here ↦
          let same : n ≡ note.1 = eqb-true n note.1 (and_parts (eqb hash note.0) (eqb n note.1) here).1 in
          let is : one_if (is_at hash n note) ≡ 1 = ap one_if here in
          let before : one_if (below n note) ≡ 0 = ap one_if (le-ltb note.1 n (omega arith)) in
          let after : one_if (below (n + 1) note) ≡ 1 = ap one_if (lt-ltb note.1 (n + 1) (omega arith)) in
          omega arith
      | inr apart ↦
          let is : one_if (is_at hash n note) ≡ 0 = ap one_if apart in
          elim (cases_lt note.1 n) [
            | inl under ↦
                let before : one_if (below n note) ≡ 1 = ap one_if (lt-ltb note.1 n under) in
                let after : one_if (below (n + 1) note) ≡ 1 = ap one_if (lt-ltb note.1 (n + 1) (omega arith)) in
                omega arith
            | inr over ↦
                let before : one_if (below n note) ≡ 0 = ap one_if (le-ltb note.1 n over) in
                omega arith
          ]
    ]

count_below : (hash n : ℕ) (notes : List (ℕ × ℕ)) → count_by (is_at hash n) notes + count_by (below n) notes ≤ count_by (below (n + 1)) notes
count_below hash n [] = omega arith
count_below hash n (note ∷ notes) =
    omega (
      arith,
      count_below hash n notes,
      one_below hash n note,
      sum_by-cons (λ x. one_if (is_at hash n x)) note notes,
      sum_by-cons (λ x. one_if (below n x)) note notes,
      sum_by-cons (λ x. one_if (below (n + 1) x)) note notes,
    )

-- slots whose entries are noted from a place on
many_from :
    (slots : Slots) (index : Notes) (from : ℕ) → ((k : ℕ) (e : Entry) → slot_at slots k ≡ Some e → 0 < times index (key_hash e.tag e.mode) (from + k)) →
    length (present slots) + count_by (below from) index.notes ≤ length index.notes
many_from [] index from noted = omega (arith, count_by-le-length (below from) index.notes)
many_from (None ∷ slots) index from noted =
    omega (arith, many_from slots index (from + 1) (λ k e at. subst (λ (n : ℕ). 0 < times index (key_hash e.tag e.mode) n) (omega arith) (noted (suc k) e at)), count_below 0 from index.notes)
many_from (Some x ∷ slots) index from noted =
    let here : 0 < times index (key_hash x.tag x.mode) from = subst (λ (n : ℕ). 0 < times index (key_hash x.tag x.mode) n) (omega arith) (noted zero x refl) in
    omega (
      arith,
      many_from slots index (from + 1) (λ k e at. subst (λ (n : ℕ). 0 < times index (key_hash e.tag e.mode) n) (omega arith) (noted (suc k) e at)),
      count_below (key_hash x.tag x.mode) from index.notes,
      here,
    )

-- there are as many notes as entries at least
pub noted_many : (slots : Slots) (index : Notes) → IsIndexed slots index → length (present slots) ≤ length index.notes
noted_many slots index indexed =
    omega (arith, many_from slots index 0 (λ k e at. subst (λ (n : ℕ). 0 < times index (key_hash e.tag e.mode) n) (omega arith) (noted_some slots index indexed k (key_hash e.tag e.mode) e at refl)))
