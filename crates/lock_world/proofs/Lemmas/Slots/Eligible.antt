use Rattle.std.proofs.Common.{◌≡◌, ◌≢◌, ℕ, ◌<◌, ◌≤◌, true, false, not, ◌&&◌, nat_eq, nat_le, sym, ap, ◌∙◌, inl, inr}
use Rattle.std.proofs.lemmas.Bool.{cases_Bool, false≢true, both_ways, false_from_ne_true, and_parts, and_from, and_left, eqb-true, eq-eqb, leb-true, not-true}
use Rattle.modes_core.specs.declared.modes.Mode.{Mode}
use Rattle.modes_core.specs.declared.tags.Tag.{Tag}
use Rattle.modes_core.specs.declared.tags.Tag.TheVariants.{Relation, Object, Advisory}
use Rattle.modes_core.specs.Mode.{number_of}
use Rattle.modes_core.specs.Tag.{is_eligible_for}
use Rattle.lw_word.specs.SlotWord.{relation_in, in_use, has_mode, shows}
use Rattle.lw_word.proofs.Lemmas.Slots.{not_in_use-shows}
use Rattle.lock_world.specs.SlotHolds.{slot_count, any_below, relation_of, slot_holds, IsHeldIn, is_slot_of}
use Rattle.lock_world.proofs.Lemmas.Slots.Some.{any_below-at, any_below-found, any_below-same}

-- What is eligible: a relation of the database, which is not 0, in a mode of at most 3.
pub eligible-is : (database : ℕ) (tag : Tag) (mode : Mode) → is_eligible_for database tag mode ≡ true → (tag ≡ Relation database (relation_of tag)) × (database ≢ 0) × (number_of mode ≤ 3)
eligible-is database (Relation d r) mode eligible =
    let both = and_parts (nat_eq d database) (not (nat_eq d 0) && nat_le (number_of mode) 3) eligible in
    let rest = and_parts (not (nat_eq d 0)) (nat_le (number_of mode) 3) both.1 in
    let same : d ≡ database = eqb-true d database both.0 in
    let weak : number_of mode ≤ 3 = leb-true (number_of mode) 3 rest.1 in
    (λ i. Relation (same i) r, λ none. both_ways (nat_eq d 0) (not-true (nat_eq d 0) rest.0) (eq-eqb d 0 (same ∙ none)), weak)
eligible-is database (Object s d c o) mode eligible = absurd (false≢true eligible)
eligible-is database (Advisory s d k l) mode eligible = absurd (false≢true eligible)

-- Eligible objects of one relation are the same.
pub eligible-same :
    (database : ℕ) (tag other : Tag) (mode its : Mode) → is_eligible_for database tag mode ≡ true → is_eligible_for database other its ≡ true → relation_of tag ≡ relation_of other → tag ≡ other
eligible-same database tag other mode its eligible too same =
    let first = eligible-is database tag mode eligible in
    let second = eligible-is database other its too in
    first.0 ∙ ap (Relation database) same ∙ sym second.0

-- A slot that shows a mode is in use for the relation.
pub shown-in_use : (word relation : ℕ) (mode : Mode) → shows word relation mode ≡ true → is_slot_of word relation ≡ true
shown-in_use word relation mode shown =
    let both = and_parts (has_mode word mode) (nat_eq (relation_in word) relation) shown in
    elim (cases_Bool (in_use word)) [
      | inl used ↦ and_from (in_use word) (nat_eq (relation_in word) relation) used both.1
      | inr empty ↦ absurd (both_ways (shows word relation mode) (not_in_use-shows word relation mode empty) shown)
    ]

-- A hold is in a slot exactly where slots show it.
pub held-is_in : (database : ℕ) (slot : ℕ → ℕ) (tag : Tag) (mode : Mode) → slot_holds database slot tag mode ≡ true → (place : ℕ) × IsHeldIn database slot tag mode place
held-is_in database slot tag mode held =
    let both = and_parts (is_eligible_for database tag mode) (any_below slot_count (λ place. shows (slot place) (relation_of tag) mode)) held in
    let found = any_below-found slot_count (λ place. shows (slot place) (relation_of tag) mode) both.1 in
    (found.0, record { eligible = both.0; within = found.1; shown = found.2 })

pub is_in-held : (database : ℕ) (slot : ℕ → ℕ) (tag : Tag) (mode : Mode) (place : ℕ) → IsHeldIn database slot tag mode place → slot_holds database slot tag mode ≡ true
is_in-held database slot tag mode place its =
    and_from (is_eligible_for database tag mode) (any_below slot_count (λ k. shows (slot k) (relation_of tag) mode)) its.eligible
    (any_below-at slot_count (λ k. shows (slot k) (relation_of tag) mode) place its.within its.shown)

-- Slots that show the same of an eligible hold.
pub slot_holds-same :
    (database : ℕ) (slot other : ℕ → ℕ) (tag : Tag) (mode : Mode) →
    (is_eligible_for database tag mode ≡ true → (k : ℕ) → k < slot_count → shows (other k) (relation_of tag) mode ≡ shows (slot k) (relation_of tag) mode) →
    slot_holds database other tag mode ≡ slot_holds database slot tag mode
slot_holds-same database slot other tag mode same =
    elim (cases_Bool (is_eligible_for database tag mode)) [
      | inl eligible ↦
          ap (λ b. is_eligible_for database tag mode && b)
          (any_below-same slot_count (λ k. shows (other k) (relation_of tag) mode) (λ k. shows (slot k) (relation_of tag) mode) (same eligible))
      | inr not_eligible ↦
          and_left (is_eligible_for database tag mode) (any_below slot_count (λ k. shows (other k) (relation_of tag) mode)) not_eligible
          ∙ sym (and_left (is_eligible_for database tag mode) (any_below slot_count (λ k. shows (slot k) (relation_of tag) mode)) not_eligible)
    ]

-- What no slot shows is not held.
pub slot_holds-none :
    (database : ℕ) (slot : ℕ → ℕ) (tag : Tag) (mode : Mode) → ((k : ℕ) → k < slot_count → shows (slot k) (relation_of tag) mode ≡ false) → slot_holds database slot tag mode ≡ false
slot_holds-none database slot tag mode none =
    false_from_ne_true (slot_holds database slot tag mode) (λ held.
    let found = held-is_in database slot tag mode held in
    both_ways (shows (slot found.0) (relation_of tag) mode) (none found.0 found.1.within) found.1.shown)
