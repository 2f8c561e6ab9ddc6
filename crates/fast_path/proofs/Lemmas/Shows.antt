use Rattle.std.proofs.Common.{◌≡◌, ◌≢◌, ℕ, zero, suc, ◌+◌, ◌<◌, ◌≤◌, Bool, true, false, not, ◌&&◌, nat_eq}
use Rattle.std.proofs.Common.{nat_le, Option, Some, None, IfNone, IsSome, refl, sym, ap, ◌∙◌, inl, inr, arith}
use Rattle.std.specs.Prelude.{◌/◌, nat_lt}
use Rattle.std.proofs.lemmas.Bool.{cases_Bool, false≢true, both_ways, false_from_ne_true, and_parts}
use Rattle.std.proofs.lemmas.Bool.{and_from, eqb-true, eq-eqb, le-leb, lt-ltb, le-ltb}
use Rattle.modes_core.specs.declared.modes.Mode.{Mode}
use Rattle.modes_core.specs.declared.modes.Mode.TheVariants.{AccessShare, RowShare, RowExclusive}
use Rattle.modes_core.specs.declared.modes.Mode.TheVariants.{ShareUpdateExclusive, Share, ShareRowExclusive}
use Rattle.modes_core.specs.declared.modes.Mode.TheVariants.{Exclusive, AccessExclusive}
use Rattle.modes_core.specs.declared.tags.Tag.{Tag}
use Rattle.modes_core.specs.declared.tags.Tag.TheVariants.{Relation, Object, Advisory}
use Rattle.modes_core.specs.Mode.{number_of}
use Rattle.modes_core.specs.Tag.{database_of, is_eligible_for, is_strong_on}
use Rattle.lw_word.specs.SlotWord.{relation_in, in_use, has_mode, shows}
use Rattle.lock_world.specs.SlotHolds.{group_size, most_groups, slot_count, group_of_relation, may_use}
use Rattle.lock_world.specs.SlotHolds.{relation_of, slot_holds, is_slot_of, AreInGroups}
use Rattle.lock_world.specs.Account.{SlotsInHand}
use Rattle.lock_world.proofs.Lemmas.Slots.Eligible.{eligible-is, held-is_in, is_in-held, shown-in_use, slot_holds-none}
use Rattle.lock_world.proofs.Lemmas.Slots.Used.{relation-group}
use Rattle.fast_path.specs.Slots.{group_of_tag, IsOfGroup, NoneInGroup}
use Rattle.fast_path.specs.Turns.{HasRelation}

-- What slots show of an object.

-- No mode's number is below 1.
pub none_below_one : (mode : Mode) → nat_lt (number_of mode) 1 ≡ false
none_below_one AccessShare = refl
none_below_one RowShare = refl
none_below_one RowExclusive = refl
none_below_one ShareUpdateExclusive = refl
none_below_one Share = refl
none_below_one ShareRowExclusive = refl
none_below_one Exclusive = refl
none_below_one AccessExclusive = refl

-- One number more.
pub below-next : (n below : ℕ) → n ≢ below → nat_lt n (below + 1) ≡ nat_lt n below
below-next n below other =
    elim (cases_Bool (nat_lt n below)) [
      | inl is ↦ let less = Rattle.std.proofs.lemmas.Bool.ltb-true n below is in lt-ltb n (below + 1)
          (omega (arith, less)) ∙ sym is
      | inr not ↦
          let more = Rattle.std.proofs.lemmas.Bool.ltb-false n below not in
          le-ltb n (below + 1) (omega (arith, more, other)) ∙ sym not
    ]

pub not_below : (n : ℕ) → nat_lt n n ≡ false
not_below n = le-ltb n n (omega arith)

pub below-itself : (n : ℕ) → nat_lt n (n + 1) ≡ true
below-itself n = lt-ltb n (n + 1) (omega arith)

-- In a relation's own database its weak modes are eligible,
pub eligible-weak :
    (tag : Tag) (mode strong : Mode) → is_strong_on tag strong ≡ true → number_of mode ≤ 3
    → is_eligible_for (database_of tag) tag mode ≡ true
eligible-weak (Relation d r) mode strong is weak =
    let some = (and_parts (not (nat_eq d 0)) (nat_le 5 (number_of strong)) is).0 in
    and_from (nat_eq d d) (not (nat_eq d 0) && nat_le (number_of mode) 3) (eq-eqb d d refl)
    (and_from (not (nat_eq d 0)) (nat_le (number_of mode) 3) some (le-leb (number_of mode) 3 weak))
eligible-weak (Object s d c o) mode strong is weak = absurd (false≢true is)
eligible-weak (Advisory s d k l) mode strong is weak = absurd (false≢true is)

-- and in another's slots it is not.
pub elsewhere-none :
    (tag : Tag) (strong : Mode) (database : ℕ) (words : ℕ → ℕ) (mode : Mode) → is_strong_on tag strong ≡ true
    → database ≢ database_of tag → slot_holds database words tag mode ≡ false
elsewhere-none (Relation d r) strong database words mode is other =
    false_from_ne_true (slot_holds database words (Relation d r) mode) (λ held.
    let found = held-is_in database words (Relation d r) mode held in
    let same : d ≡ database =
    eqb-true d database (and_parts (nat_eq d database) (not (nat_eq d 0) && nat_le (number_of mode) 3)
    found.1.eligible).0 in
    other (sym same))
elsewhere-none (Object s d c o) strong database words mode is other = absurd (false≢true is)
elsewhere-none (Advisory s d k l) strong database words mode is other = absurd (false≢true is)

-- A slot of a relation's group is one of those that there are.
pub within-of_group :
    (groups relation slot : ℕ) → 0 < groups → groups ≤ most_groups → IsOfGroup (group_of_relation groups relation) slot
    → slot < slot_count
within-of_group groups relation slot some few its = at (group_of_relation groups relation)
    (relation-group groups relation some) its where
      at : (group : ℕ) → group < groups → slot / group_size ≡ group → slot < slot_count
      at group below is = omega (arith, few, below, is)

-- A slot in use for a relation is of its group.
pub slot-of_group :
    (groups : ℕ) (words : ℕ → ℕ) (relation slot : ℕ) → AreInGroups groups words → slot < slot_count
    → is_slot_of (words slot) relation ≡ true → IsOfGroup (group_of_relation groups relation) slot
slot-of_group groups words relation slot in_groups within its =
    let parts = and_parts (in_use (words slot)) (nat_eq (relation_in (words slot)) relation) its in
    let same : relation_in (words slot) ≡ relation = eqb-true (relation_in (words slot)) relation parts.1 in
    eqb-true (slot / group_size) (group_of_relation groups relation)
    (ap (λ r. may_use groups r slot) (sym same) ∙ in_groups slot within parts.0)

-- Where no slot of its relation's group is in use for it no mode is held by one.
pub no_slot-none :
    (groups : ℕ) (tag : Tag) (database : ℕ) (words : ℕ → ℕ) → AreInGroups groups words
    → NoneInGroup (group_of_tag groups tag) words (relation_of tag)
    → (mode : Mode) → slot_holds database words tag mode ≡ false
no_slot-none groups tag database words in_groups none mode =
    slot_holds-none database words tag mode
    (λ k within. false_from_ne_true (shows (words k) (relation_of tag) mode) (λ shown.
    let its = shown-in_use (words k) (relation_of tag) mode shown in
    both_ways (is_slot_of (words k) (relation_of tag))
    (none k (slot-of_group groups words (relation_of tag) k in_groups within its)) its))

-- A slot that has the relation shows a mode of it where it has the mode,
pub slot-shows : (word relation : ℕ) (mode : Mode) → is_slot_of word relation ≡ true
    → shows word relation mode ≡ has_mode word mode
slot-shows word relation mode its =
    ap (λ b. has_mode word mode && b) (and_parts (in_use word) (nat_eq (relation_in word) relation) its).1
    ∙ last (has_mode word mode) where
      last : (b : Bool) → (b && true) ≡ b
      last true = refl
      last false = refl

-- and then it is held.
pub held-shown :
    (slots : SlotsInHand) (slot word : ℕ) (tag : Tag) (mode strong : Mode) → HasRelation slots slot word tag
    → is_strong_on tag strong ≡ true → number_of mode ≤ 3
    → slots.holds tag mode ≡ has_mode word mode
held-shown slots slot word tag mode strong has is weak =
    (λ i. has.holds i tag mode) ∙ elim (cases_Bool (has_mode word mode)) [
      | inl shown ↦
          is_in-held (database_of tag) slots.word tag mode slot (record {
            eligible = eligible-weak tag mode strong is weak;
            within = has.within;
            shown = ap (λ w. shows w (relation_of tag) mode) (sym has.is_word)
                ∙ slot-shows word (relation_of tag) mode has.its ∙ shown;
          })
          ∙ sym shown
      | inr hidden ↦
          false_from_ne_true (slot_holds (database_of tag) slots.word tag mode) (λ held.
          let found = held-is_in (database_of tag) slots.word tag mode held in
          let there : is_slot_of (slots.word found.0) (relation_of tag) ≡ true =
          shown-in_use (slots.word found.0) (relation_of tag) mode found.1.shown in
          let here : found.0 ≡ slot = has.one_each (relation_of tag) found.0 slot found.1.within has.within there
          (ap (λ w. is_slot_of w (relation_of tag)) (sym has.is_word) ∙ has.its) in
          both_ways (has_mode word mode) hidden
          (sym (slot-shows word (relation_of tag) mode has.its) ∙ ap (λ w. shows w (relation_of tag) mode) has.is_word
          ∙ ap (λ k. shows (slots.word k) (relation_of tag) mode) (sym here) ∙ found.1.shown))
          ∙ sym hidden
    ]

-- No slot holds it in a mode of a number from 4 on.
pub not_weak-none :
    (slots : SlotsInHand) (slot word : ℕ) (tag : Tag) (mode : Mode) → HasRelation slots slot word tag
    → nat_lt (number_of mode) 4 ≡ false
    → slots.holds tag mode ≡ false
not_weak-none slots slot word tag mode has from =
    (λ i. has.holds i tag mode) ∙ false_from_ne_true (slot_holds (database_of tag) slots.word tag mode) (λ held.
    let weak = (eligible-is (database_of tag) tag mode
    (held-is_in (database_of tag) slots.word tag mode held).1.eligible).2 in
    both_ways (nat_lt (number_of mode) 4) from (lt-ltb (number_of mode) 4 (omega (arith, weak))))

-- A slot's word that shows no more than one that has the relation.
abbrev pub ShowsFrom : ℕ → ℕ → ℕ → Type 0
ShowsFrom below word left =
    (relation : ℕ) (mode : Mode) → shows left relation mode ≡
    (not (nat_lt (number_of mode) below) && shows word relation mode)

-- A mode that it has is one of the relation, and the other word has it.
pub left-relation :
    (below word left relation : ℕ) (mode : Mode) → is_slot_of word relation ≡ true → ShowsFrom below word left
    → has_mode left mode ≡ true → relation_in left ≡ relation
left-relation below word left relation mode its from there =
    let shown : shows left (relation_in left) mode ≡ true =
    and_from (has_mode left mode) (nat_eq (relation_in left) (relation_in left)) there
    (eq-eqb (relation_in left) (relation_in left) refl) in
    let before = and_parts (not (nat_lt (number_of mode) below)) (shows word (relation_in left) mode)
    (sym (from (relation_in left) mode) ∙ shown) in
    let mine = and_parts (in_use word) (nat_eq (relation_in word) relation) its in
    let theirs = and_parts (has_mode word mode) (nat_eq (relation_in word) (relation_in left)) before.1 in
    sym (eqb-true (relation_in word) (relation_in left) theirs.1) ∙ eqb-true (relation_in word) relation mine.1

pub left-shows :
    (below word left relation : ℕ) (mode : Mode) → is_slot_of word relation ≡ true → ShowsFrom below word left
    → has_mode left mode ≡ true → shows left relation mode ≡ true
left-shows below word left relation mode its from there =
    and_from (has_mode left mode) (nat_eq (relation_in left) relation) there
    (eq-eqb (relation_in left) relation (left-relation below word left relation mode its from there))

pub left-was :
    (below word left relation : ℕ) (mode : Mode) → is_slot_of word relation ≡ true → ShowsFrom below word left
    → has_mode left mode ≡ true → has_mode word mode ≡ true
left-was below word left relation mode its from there =
    sym (slot-shows word relation mode its)
    ∙ (and_parts (not (nat_lt (number_of mode) below)) (shows word relation mode)
    (sym (from relation mode) ∙ left-shows below word left relation mode its from there)).1

-- A mode of the next number that it hasn't the other hasn't either.
pub left-not :
    (below word left relation : ℕ) (mode : Mode) → is_slot_of word relation ≡ true → ShowsFrom below word left
    → number_of mode ≡ below → has_mode left mode ≡ false → has_mode word mode ≡ false
left-not below word left relation mode its from next hidden =
    let yes : nat_lt (number_of mode) below ≡ false = ap (λ k. nat_lt (number_of mode) k) (sym next)
    ∙ not_below (number_of mode) in
    sym (slot-shows word relation mode its)
    ∙ sym (ap (λ b. not b && shows word relation mode) yes)
    ∙ sym (from relation mode)
    ∙ ap (λ b. b && nat_eq (relation_in left) relation) hidden

-- There is a mode of each number from 1 to 3.
pub weak_mode-exists : (found : Option Mode) (number : ℕ) → IfNone found ((mode : Mode) → number_of mode ≢ number)
    → 1 ≤ number → number < 4 → IsSome found
weak_mode-exists (Some mode) number unknown from below = refl
weak_mode-exists None zero unknown from below = absurd (omega arith)
weak_mode-exists None (suc zero) unknown from below = absurd (unknown AccessShare refl)
weak_mode-exists None (suc (suc zero)) unknown from below = absurd (unknown RowShare refl)
weak_mode-exists None (suc (suc (suc zero))) unknown from below = absurd (unknown RowExclusive refl)
weak_mode-exists None (suc (suc (suc (suc n)))) unknown from below = absurd (omega arith)
