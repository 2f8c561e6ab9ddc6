use Rattle.std.proofs.Common.{◌≡◌, ◌≢◌, ℕ, ◌<◌, ◌≤◌, Bool, true, false, not, ◌&&◌, cond, [], ◌∷◌, ◌++◌, length, set, take, suc, zero, refl, sym, ap, subst, ◌∙◌, inl, inr, arith}
use Rattle.std.specs.Prelude.{Option, Some, None, IfSome, IsSomeAnd}
use Rattle.std.proofs.lemmas.Bool.{false≢true, cases_Bool, cases_lt, and_parts}
use Rattle.std.proofs.lemmas.List.{get_or_past, get_or-set_same, get_or-set_other, get_or_push, get_or_append_left, get_or-take, length-take}
use Rattle.std.proofs.lemmas.List.Elements.{filter_map-append}
use Rattle.modes_core.specs.declared.modes.Mode.{Mode}
use Rattle.modes_core.specs.declared.tags.Tag.{Tag}
use Rattle.modes_core.proofs.Lemmas.Conflicts.{tag_eq-refl, tag_eq-same, mode_eq-refl, mode_eq-same}
use Rattle.local_locks.specs.declared.records.Entry.{Entry}
use Rattle.local_locks.specs.Owned.{is_of, entry_for, change, entries_but}
use Rattle.local_locks.specs.Slots.{Slots, slot_at, present, is_key}

-- ---- options and tests

pub if_some : {A : Type 0} (P : A → Type 0) (o : Option A) → ((x : A) → o ≡ Some x → P x) → IfSome o P
if_some P None at = tt
if_some P (Some x) at = at x refl

pub at_some : {A : Type 0} (P : A → Type 0) (o : Option A) (x : A) → o ≡ Some x → IfSome o P → P x
at_some P None x e holds = absurd (let no : None ≡ Some x = e in cc)
at_some P (Some y) x e holds = let same : y ≡ x = cc in subst P same holds

pub and_some : {A : Type 0} (P : A → Type 0) (o : Option A) → IsSomeAnd o P → (x : A) × (o ≡ Some x) × P x
and_some P None never = absurd never
and_some P (Some x) holds = (x, refl, holds)

-- An entry of an object and mode has these.
pub is_of-same : (tag : Tag) (mode : Mode) (entry : Entry) → is_of tag mode entry ≡ true → (entry.tag ≡ tag) × (entry.mode ≡ mode)
is_of-same tag mode entry own =
    let both = and_parts _ _ own in
    (tag_eq-same entry.tag tag both.0, mode_eq-same entry.mode mode both.1)

pub is_of-own : (entry : Entry) → is_of entry.tag entry.mode entry ≡ true
is_of-own entry = λ i. and_true (tag_eq-refl entry.tag) (mode_eq-refl entry.mode) i where
  and_true : {a b : Bool} → a ≡ true → b ≡ true → (a && b) ≡ true
  and_true {a} {b} p q = λ i. p i && q i

pub is_key-same : (tag : Tag) (mode : Mode) (t : Tag) (m : Mode) → is_key tag mode (t, m) ≡ true → (tag ≡ t) × (mode ≡ m)
is_key-same tag mode t m own =
    let both = and_parts _ _ own in
    (tag_eq-same tag t both.0, mode_eq-same mode m both.1)

pub is_key-own : (tag : Tag) (mode : Mode) → is_key tag mode (tag, mode) ≡ true
is_key-own tag mode = λ i. tag_eq-refl tag i && mode_eq-refl mode i

-- two tests of one entry
pub key-is_of : (tag : Tag) (mode : Mode) (e : Entry) → is_key tag mode (e.tag, e.mode) ≡ is_of tag mode e
key-is_of tag mode e =
    elim (cases_Bool (is_of tag mode e)) [
      | inl own ↦
          let both = is_of-same tag mode e own in
          (λ i. is_key tag mode (both.0 i, both.1 i)) ∙ (is_key-own tag mode ∙ sym own)
      | inr other ↦
          elim (cases_Bool (is_key tag mode (e.tag, e.mode))) [
            | inl key ↦
                let same = is_key-same tag mode e.tag e.mode key in
                let own : is_of tag mode e ≡ true = (λ i. is_of (same.0 i) (same.1 i) e) ∙ is_of-own e in
                absurd (false≢true (sym other ∙ own))
            | inr apart ↦ apart ∙ sym other
          ]
    ]

-- ---- no slot, or no other slot, has the object and mode

abbrev pub NoneOf : Tag → Mode → Slots → Type 0
NoneOf tag mode slots = (k : ℕ) → IfSome (slot_at slots k) (λ entry. is_of tag mode entry ≡ false)

abbrev pub NoneElse : Tag → Mode → Slots → ℕ → Type 0
NoneElse tag mode slots place = (k : ℕ) → k ≢ place → IfSome (slot_at slots k) (λ entry. is_of tag mode entry ≡ false)

pub rest_none : (tag : Tag) (mode : Mode) (x : Option Entry) (slots : Slots) → NoneElse tag mode (x ∷ slots) zero → NoneOf tag mode slots
rest_none tag mode x slots none = λ k. none (suc k) (λ e. omega arith)

pub rest_else : (tag : Tag) (mode : Mode) (x : Option Entry) (slots : Slots) (place : ℕ) → NoneElse tag mode (x ∷ slots) (suc place) → NoneElse tag mode slots place
rest_else tag mode x slots place none = λ k apart. none (suc k) (λ e. apart (omega arith))

-- then the entry is not found, and changing or removing it changes nothing
pub entry_of-none : (tag : Tag) (mode : Mode) (slots : Slots) → NoneOf tag mode slots → entry_for (present slots) tag mode ≡ None
entry_of-none tag mode [] none = refl
entry_of-none tag mode (None ∷ slots) none = entry_of-none tag mode slots (λ k. none (suc k))
entry_of-none tag mode (Some e ∷ slots) none =
    ap (λ b. cond b (Some e) (entry_for (present slots) tag mode)) (none zero) ∙ entry_of-none tag mode slots (λ k. none (suc k))

-- and where it is not found, no slot has it
pub none_of : (tag : Tag) (mode : Mode) (slots : Slots) → entry_for (present slots) tag mode ≡ None → (k : ℕ) (x : Entry) → slot_at slots k ≡ Some x → is_of tag mode x ≡ false
none_of tag mode [] none k x at = absurd (let bad : None ≡ Some x = at in cc)
none_of tag mode (None ∷ slots) none zero x at = absurd (let bad : None ≡ Some x = at in cc)
none_of tag mode (None ∷ slots) none (suc k) x at = none_of tag mode slots none k x at
none_of tag mode (Some e ∷ slots) none zero x at =
    elim (cases_Bool (is_of tag mode e)) [
      | inl own ↦ absurd (let bad : Some e ≡ None = sym (ap (λ b. cond b (Some e) (entry_for (present slots) tag mode)) own) ∙ none in cc)
      | inr other ↦ let same : x ≡ e = cc in ap (is_of tag mode) same ∙ other
    ]
none_of tag mode (Some e ∷ slots) none (suc k) x at =
    elim (cases_Bool (is_of tag mode e)) [
      | inl own ↦ absurd (let bad : Some e ≡ None = sym (ap (λ b. cond b (Some e) (entry_for (present slots) tag mode)) own) ∙ none in cc)
      | inr other ↦ none_of tag mode slots (sym (ap (λ b. cond b (Some e) (entry_for (present slots) tag mode)) other) ∙ none) k x at
    ]

change-none : (f : Entry → Entry) (tag : Tag) (mode : Mode) (slots : Slots) → NoneOf tag mode slots → change f (present slots) tag mode ≡ present slots
change-none f tag mode [] none = refl
change-none f tag mode (None ∷ slots) none = change-none f tag mode slots (λ k. none (suc k))
change-none f tag mode (Some e ∷ slots) none = λ i. cond (none zero i) (f e) e ∷ change-none f tag mode slots (λ k. none (suc k)) i

entries_but-none : (tag : Tag) (mode : Mode) (slots : Slots) → NoneOf tag mode slots → entries_but (present slots) tag mode ≡ present slots
entries_but-none tag mode [] none = refl
entries_but-none tag mode (None ∷ slots) none = entries_but-none tag mode slots (λ k. none (suc k))
entries_but-none tag mode (Some e ∷ slots) none =
    ap (λ b. cond (not b) (e ∷ entries_but (present slots) tag mode) (entries_but (present slots) tag mode)) (none zero)
    ∙ ap (λ l. e ∷ l) (entries_but-none tag mode slots (λ k. none (suc k)))

-- ---- the entry at a place, where no other slot has its object and mode

pub entry_of-at : (tag : Tag) (mode : Mode) (slots : Slots) (place : ℕ) (e : Entry) → slot_at slots place ≡ Some e → is_of tag mode e ≡ true → NoneElse tag mode slots place → entry_for (present slots) tag mode ≡ Some e
entry_of-at tag mode [] place e at own none = absurd (let no : None ≡ Some e = at in cc)
entry_of-at tag mode (None ∷ slots) zero e at own none = absurd (let no : None ≡ Some e = at in cc)
entry_of-at tag mode (None ∷ slots) (suc place) e at own none = entry_of-at tag mode slots place e at own (rest_else tag mode None slots place none)
entry_of-at tag mode (Some x ∷ slots) zero e at own none =
    let same : x ≡ e = cc in
    ap (λ b. cond b (Some x) (entry_for (present slots) tag mode)) (ap (is_of tag mode) same ∙ own) ∙ at
entry_of-at tag mode (Some x ∷ slots) (suc place) e at own none =
    ap (λ b. cond b (Some x) (entry_for (present slots) tag mode)) (none zero (λ q. omega arith))
    ∙ entry_of-at tag mode slots place e at own (rest_else tag mode (Some x) slots place none)

pub change-at : (f : Entry → Entry) (tag : Tag) (mode : Mode) (slots : Slots) (place : ℕ) (e : Entry) → slot_at slots place ≡ Some e → is_of tag mode e ≡ true → NoneElse tag mode slots place → present (set slots place (Some (f e))) ≡ change f (present slots) tag mode
change-at f tag mode [] place e at own none = absurd (let no : None ≡ Some e = at in cc)
change-at f tag mode (None ∷ slots) zero e at own none = absurd (let no : None ≡ Some e = at in cc)
change-at f tag mode (None ∷ slots) (suc place) e at own none = change-at f tag mode slots place e at own (rest_else tag mode None slots place none)
change-at f tag mode (Some x ∷ slots) zero e at own none =
    let same : e ≡ x = cc in
    let hit : is_of tag mode x ≡ true = ap (is_of tag mode) (sym same) ∙ own in
    λ i. (ap f same ∙ sym (ap (λ b. cond b (f x) x) hit)) i ∷ sym (change-none f tag mode slots (rest_none tag mode (Some x) slots none)) i
change-at f tag mode (Some x ∷ slots) (suc place) e at own none =
    let miss : is_of tag mode x ≡ false = none zero (λ q. omega arith) in
    λ i. sym (ap (λ b. cond b (f x) x) miss) i ∷ change-at f tag mode slots place e at own (rest_else tag mode (Some x) slots place none) i

pub entries_but-at : (tag : Tag) (mode : Mode) (slots : Slots) (place : ℕ) (e : Entry) → slot_at slots place ≡ Some e → is_of tag mode e ≡ true → NoneElse tag mode slots place → present (set slots place None) ≡ entries_but (present slots) tag mode
entries_but-at tag mode [] place e at own none = absurd (let no : None ≡ Some e = at in cc)
entries_but-at tag mode (None ∷ slots) zero e at own none = absurd (let no : None ≡ Some e = at in cc)
entries_but-at tag mode (None ∷ slots) (suc place) e at own none = entries_but-at tag mode slots place e at own (rest_else tag mode None slots place none)
entries_but-at tag mode (Some x ∷ slots) zero e at own none =
    let same : x ≡ e = cc in
    let hit : is_of tag mode x ≡ true = ap (is_of tag mode) same ∙ own in
    sym (ap (λ b. cond (not b) (x ∷ entries_but (present slots) tag mode) (entries_but (present slots) tag mode)) hit
    ∙ entries_but-none tag mode slots (rest_none tag mode (Some x) slots none))
entries_but-at tag mode (Some x ∷ slots) (suc place) e at own none =
    let miss : is_of tag mode x ≡ false = none zero (λ q. omega arith) in
    ap (λ l. x ∷ l) (entries_but-at tag mode slots place e at own (rest_else tag mode (Some x) slots place none))
    ∙ sym (ap (λ b. cond (not b) (x ∷ entries_but (present slots) tag mode) (entries_but (present slots) tag mode)) miss)

-- ---- how many entries

pub length-present_set : (slots : Slots) (place : ℕ) (e x : Entry) → slot_at slots place ≡ Some e → length (present (set slots place (Some x))) ≡ length (present slots)
length-present_set [] place e x at = refl
length-present_set (None ∷ slots) zero e x at = absurd (let no : None ≡ Some e = at in cc)
length-present_set (Some y ∷ slots) zero e x at = refl
length-present_set (None ∷ slots) (suc place) e x at = length-present_set slots place e x at
length-present_set (Some y ∷ slots) (suc place) e x at = ap (λ n. suc n) (length-present_set slots place e x at)

pub length-present_clear : (slots : Slots) (place : ℕ) (e : Entry) → slot_at slots place ≡ Some e → length (present slots) ≡ suc (length (present (set slots place None)))
length-present_clear [] place e at = absurd (let no : None ≡ Some e = at in cc)
length-present_clear (None ∷ slots) zero e at = absurd (let no : None ≡ Some e = at in cc)
length-present_clear (Some y ∷ slots) zero e at = refl
length-present_clear (None ∷ slots) (suc place) e at = length-present_clear slots place e at
length-present_clear (Some y ∷ slots) (suc place) e at = ap (λ n. suc n) (length-present_clear slots place e at)

-- ---- one more slot at the end

pub present-push : (slots : Slots) (e : Entry) → present (slots ++ Some e ∷ []) ≡ present slots ++ e ∷ []
present-push slots e = filter_map-append (λ slot. slot) slots (Some e ∷ [])

pub slot_at-past : (slots : Slots) (place : ℕ) → length slots ≤ place → slot_at slots place ≡ None
slot_at-past slots place past = get_or_past slots place None past

pub slot_at-within : (slots : Slots) (place : ℕ) (e : Entry) → slot_at slots place ≡ Some e → place < length slots
slot_at-within [] place e at = absurd (let no : None ≡ Some e = at in cc)
slot_at-within (x ∷ slots) zero e at = omega arith
slot_at-within (x ∷ slots) (suc place) e at = let h : place < length slots = slot_at-within slots place e at in omega arith

-- ---- one slot written

pub slot_at-set : (slots : Slots) (place : ℕ) (x : Option Entry) → place < length slots → slot_at (set slots place x) place ≡ x
slot_at-set slots place x within = get_or-set_same slots place x None within

pub slot_at-set_other : (slots : Slots) (place k : ℕ) (x : Option Entry) → k ≢ place → slot_at (set slots place x) k ≡ slot_at slots k
slot_at-set_other slots place k x apart = get_or-set_other slots place k x None apart

pub slot_at-push : (slots : Slots) (x : Option Entry) → slot_at (slots ++ x ∷ []) (length slots) ≡ x
slot_at-push slots x = get_or_push slots x None (length slots) refl

pub slot_at-push_before : (slots : Slots) (x : Option Entry) (k : ℕ) → k < length slots → slot_at (slots ++ x ∷ []) k ≡ slot_at slots k
slot_at-push_before slots x k within = get_or_append_left slots (x ∷ []) None k within

-- ---- slots at the end that are empty

pub present-take : (n : ℕ) (slots : Slots) → ((k : ℕ) → n ≤ k → slot_at slots k ≡ None) → present (take n slots) ≡ present slots
present-take zero slots none = sym (all_none slots (λ k. none k (omega arith))) where
  all_none : (slots : Slots) → ((k : ℕ) → slot_at slots k ≡ None) → present slots ≡ []
  all_none [] none = refl
  all_none (None ∷ slots) none = all_none slots (λ k. none (suc k))
  all_none (Some e ∷ slots) none = absurd (let bad : Some e ≡ None = none zero in cc)
present-take (suc n) [] none = refl
present-take (suc n) (None ∷ slots) none = present-take n slots (λ k past. none (suc k) (omega arith))
present-take (suc n) (Some e ∷ slots) none = ap (λ l. e ∷ l) (present-take n slots (λ k past. none (suc k) (omega arith)))

pub slot_at-take : (n : ℕ) (slots : Slots) → ((k : ℕ) → n ≤ k → slot_at slots k ≡ None) → (k : ℕ) → slot_at (take n slots) k ≡ slot_at slots k
slot_at-take n slots none k =
    elim (cases_lt k n) [
      | inl below ↦ get_or-take n slots k None below
      | inr past ↦ slot_at-past (take n slots) k (omega (arith, length-take n slots)) ∙ sym (none k past)
    ]

-- ---- an entry that moves down over empty slots

present-first : (slots : Slots) (place : ℕ) (e : Entry) → slot_at slots place ≡ Some e → ((k : ℕ) → k < place → slot_at slots k ≡ None) → present slots ≡ e ∷ present (set slots place None)
present-first [] place e at none = absurd (let bad : None ≡ Some e = at in cc)
present-first (None ∷ slots) zero e at none = absurd (let bad : None ≡ Some e = at in cc)
present-first (Some x ∷ slots) zero e at none = let same : x ≡ e = cc in ap (λ y. y ∷ present slots) same
present-first (None ∷ slots) (suc place) e at none = present-first slots place e at (λ k below. none (suc k) (omega arith))
present-first (Some x ∷ slots) (suc place) e at none = absurd (let bad : Some x ≡ None = none zero (omega arith) in cc)

pub present-move : (slots : Slots) (to place : ℕ) (e : Entry) → slot_at slots place ≡ Some e → to ≤ place → ((k : ℕ) → to ≤ k → k < place → slot_at slots k ≡ None) → present (set (set slots place None) to (Some e)) ≡ present slots
present-move [] to place e at down none = absurd (let bad : None ≡ Some e = at in cc)
present-move (x ∷ slots) zero zero e at down none = let same : x ≡ Some e = at in sym (ap (λ y. present (y ∷ slots)) same)
present-move (x ∷ slots) zero (suc place) e at down none =
    let head : x ≡ None = none zero (omega arith) (omega arith) in
    sym (present-first slots place e at (λ k below. none (suc k) (omega arith) (omega arith))) ∙ sym (ap (λ y. present (y ∷ slots)) head)
present-move (x ∷ slots) (suc to) zero e at down none = absurd (omega arith)
present-move (None ∷ slots) (suc to) (suc place) e at down none = present-move slots to place e at (omega arith) (λ k low high. none (suc k) (omega arith) (omega arith))
present-move (Some x ∷ slots) (suc to) (suc place) e at down none = ap (λ l. x ∷ l) (present-move slots to place e at (omega arith) (λ k low high. none (suc k) (omega arith) (omega arith)))

-- slots of which none is empty
pub length-full : (slots : Slots) → ((k : ℕ) → k < length slots → IsSomeAnd (slot_at slots k) (λ _. Unit {0})) → length (present slots) ≡ length slots
length-full [] full = refl
length-full (None ∷ slots) full = absurd (full zero (omega arith))
length-full (Some e ∷ slots) full = ap (λ n. suc n) (length-full slots (λ k within. full (suc k) (omega arith)))

-- no more entries than slots
pub length-present-le : (slots : Slots) → length (present slots) ≤ length slots
length-present-le [] = omega arith
length-present-le (None ∷ slots) = omega (arith, length-present-le slots)
length-present-le (Some e ∷ slots) = omega (arith, length-present-le slots)
