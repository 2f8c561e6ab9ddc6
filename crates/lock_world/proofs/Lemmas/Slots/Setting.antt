use Rattle.std.proofs.Common.{◌≡◌, ◌≢◌, ℕ, ◌^◌, ◌<◌, ◌≤◌, true, false, ◌&&◌, ◌||◌, nat_eq, refl, sym, ap, ◌∙◌, inl, inr}
use Rattle.std.proofs.lemmas.Bool.{cases_eq, both_ways, false_from_ne_true, and_parts, and_from, or_left, eqb-true, eq-eqb}
use Rattle.modes_core.specs.declared.modes.Mode.{Mode}
use Rattle.modes_core.specs.declared.tags.Tag.{Tag}
use Rattle.modes_core.specs.Mode.{mode_eq, number_of}
use Rattle.modes_core.specs.Tag.{tag_eq, is_eligible_for}
use Rattle.modes_core.proofs.Lemmas.Conflicts.{mode_eq-refl, mode_eq-same}
use Rattle.lw_word.specs.SlotWord.{relation_in, in_use, shows, word_with}
use Rattle.lw_word.proofs.Lemmas.Slots.{shows-word_with, relation_in-word_with}
use Rattle.lock_table.specs.Put.{put, set_at}
use Rattle.lock_table.proofs.Lemmas.Put.{set_at-here, set_at-else}
use Rattle.lock_table.proofs.Lemmas.Holds.{IsTheHold, here, elsewhere, set_hold-at}
use Rattle.lock_world.specs.SlotHolds.{slot_count, relation_of, slot_holds, may_use, is_slot_of, OneSlotEach, AreInGroups, IsSlotToGrant}
use Rattle.lock_world.proofs.Lemmas.Slots.Eligible.{eligible-is, eligible-same, is_in-held, slot_holds-same}

-- A mode set in the slot that a grant takes.

-- A slot in use that a grant takes is in use for the relation.
its_relation : (groups : ℕ) (slot : ℕ → ℕ) (relation place : ℕ) → IsSlotToGrant groups slot relation place → in_use (slot place) ≡ true → relation_in (slot place) ≡ relation
its_relation groups slot relation place takes used =
    elim takes.its_or_unused [
      | inl its ↦ let both = and_parts (in_use (slot place)) (nat_eq (relation_in (slot place)) relation) its in eqb-true (relation_in (slot place)) relation both.1
      | inr unused ↦ absurd (both_ways (in_use (slot place)) unused.0 used)
    ]

-- The slots then hold one more mode.
pub slot_holds-set :
    (groups database : ℕ) (slot : ℕ → ℕ) (tag : Tag) (mode : Mode) (place : ℕ) → is_eligible_for database tag mode ≡ true → relation_of tag < 2 ^ 32 → IsSlotToGrant groups slot (relation_of tag) place →
    slot_holds database (set_at slot place (word_with (slot place) (relation_of tag) mode)) ≡ put tag_eq (slot_holds database slot) tag (put mode_eq (slot_holds database slot tag) mode true)
slot_holds-set groups database slot tag mode place eligible fits takes = λ i o n. at o n i where
  after : ℕ → ℕ
  after = set_at slot place (word_with (slot place) (relation_of tag) mode)

  weak : number_of mode ≤ 3
  weak = (eligible-is database tag mode eligible).2

  shown : (o : Tag) (n : Mode) (k : ℕ) → k ≡ place → shows (after k) (relation_of o) n ≡ (mode_eq n mode && nat_eq (relation_of tag) (relation_of o) || shows (slot k) (relation_of o) n)
  shown o n k same =
      ap (λ w. shows w (relation_of o) n) (set_at-here slot place (word_with (slot place) (relation_of tag) mode) k same)
      ∙ shows-word_with (slot place) (relation_of tag) mode fits weak (its_relation groups slot (relation_of tag) place takes) (relation_of o) n
      ∙ ap (λ j. mode_eq n mode && nat_eq (relation_of tag) (relation_of o) || shows (slot j) (relation_of o) n) (sym same)

  now_held : slot_holds database after tag mode ≡ true
  now_held = is_in-held database after tag mode place (record {
    eligible = eligible;
    within = takes.within;
    shown = shown tag mode place refl
        ∙ or_left (mode_eq mode mode && nat_eq (relation_of tag) (relation_of tag)) (shows (slot place) (relation_of tag) mode)
        (and_from (mode_eq mode mode) (nat_eq (relation_of tag) (relation_of tag)) (mode_eq-refl mode) (eq-eqb (relation_of tag) (relation_of tag) refl));
  })

  other_slot : (o : Tag) (n : Mode) → (IsTheHold 0 tag mode 0 o n → ⊥) → is_eligible_for database o n ≡ true → (k : ℕ) → k < slot_count → shows (after k) (relation_of o) n ≡ shows (slot k) (relation_of o) n
  other_slot o n not_it its k within =
      elim (cases_eq k place) [
        | inl same ↦
            let not_new : (mode_eq n mode && nat_eq (relation_of tag) (relation_of o)) ≡ false =
            false_from_ne_true (mode_eq n mode && nat_eq (relation_of tag) (relation_of o)) (λ new.
            let both = and_parts (mode_eq n mode) (nat_eq (relation_of tag) (relation_of o)) new in
            not_it (record { session = refl; tag = sym (eligible-same database tag o mode n eligible its (eqb-true (relation_of tag) (relation_of o) both.1)); mode = mode_eq-same n mode both.0 })) in
            shown o n k same ∙ ap (λ b. b || shows (slot k) (relation_of o) n) not_new
        | inr other ↦ ap (λ w. shows w (relation_of o) n) (set_at-else slot place (word_with (slot place) (relation_of tag) mode) k other)
      ]

  -- one session's holds, read as those of a number 0
  at : (o : Tag) (n : Mode) → slot_holds database after o n ≡ put tag_eq (slot_holds database slot) tag (put mode_eq (slot_holds database slot tag) mode true) o n
  at o n =
      elim (set_hold-at (λ _. slot_holds database slot) 0 tag mode true 0 o n) [
        | here it is ↦ (λ i. slot_holds database after (it.tag i) (it.mode i)) ∙ now_held ∙ sym is
        | elsewhere not_it is ↦ slot_holds-same database slot after o n (other_slot o n not_it) ∙ sym is
      ]

-- There is still one slot at most for each relation.
pub OneSlotEach-set :
    (groups : ℕ) (slot : ℕ → ℕ) (relation : ℕ) (mode : Mode) (place : ℕ) → relation < 2 ^ 32 → number_of mode ≤ 3 → IsSlotToGrant groups slot relation place →
    AreInGroups groups slot → OneSlotEach slot →
    OneSlotEach (set_at slot place (word_with (slot place) relation mode))
OneSlotEach-set groups slot relation mode place fits weak takes in_groups one r k l k_within l_within k_is l_is =
    elim (cases_eq k place) [
      | inl k_here ↦ elim (cases_eq l place) [
        | inl l_here ↦ k_here ∙ sym l_here
        | inr l_else ↦ k_here ∙ sym (by_grant l l_within (ap (is_slot_of (slot l)) (sym (relation_here k k_here k_is)) ∙ was l l_else l_is))
      ]
      | inr k_else ↦ elim (cases_eq l place) [
        | inl l_here ↦ by_grant k k_within (ap (is_slot_of (slot k)) (sym (relation_here l l_here l_is)) ∙ was k k_else k_is) ∙ sym l_here
        | inr l_else ↦ one r k l k_within l_within (was k k_else k_is) (was l l_else l_is)
      ]
    ] where
      after : ℕ → ℕ
      after = set_at slot place (word_with (slot place) relation mode)

      was : (j : ℕ) → j ≢ place → is_slot_of (after j) r ≡ true → is_slot_of (slot j) r ≡ true
      was j other is = ap (λ w. is_slot_of w r) (sym (set_at-else slot place (word_with (slot place) relation mode) j other)) ∙ is

      relation_here : (j : ℕ) → j ≡ place → is_slot_of (after j) r ≡ true → r ≡ relation
      relation_here j same is =
          let both = and_parts (in_use (after j)) (nat_eq (relation_in (after j)) r) is in
          sym (eqb-true (relation_in (after j)) r both.1)
          ∙ ap relation_in (set_at-here slot place (word_with (slot place) relation mode) j same)
          ∙ relation_in-word_with (slot place) relation mode fits weak

      by_grant : (j : ℕ) → j < slot_count → is_slot_of (slot j) relation ≡ true → j ≡ place
      by_grant j within is =
          elim takes.its_or_unused [
            | inl its ↦ one relation j place within takes.within is its
            | inr unused ↦ absurd (both_ways (is_slot_of (slot j) relation) (unused.1 j within (usable j within is)) is)
          ] where
            usable : (j : ℕ) → j < slot_count → is_slot_of (slot j) relation ≡ true → may_use groups relation j ≡ true
            usable j within is =
                let both = and_parts (in_use (slot j)) (nat_eq (relation_in (slot j)) relation) is in
                ap (λ r. may_use groups r j) (sym (eqb-true (relation_in (slot j)) relation both.1)) ∙ in_groups j within both.0

-- Each slot in use is still of its relation's group.
pub AreInGroups-set :
    (groups : ℕ) (slot : ℕ → ℕ) (relation : ℕ) (mode : Mode) (place : ℕ) → relation < 2 ^ 32 → number_of mode ≤ 3 → may_use groups relation place ≡ true →
    AreInGroups groups slot → AreInGroups groups (set_at slot place (word_with (slot place) relation mode))
AreInGroups-set groups slot relation mode place fits weak usable old k within used =
    elim (cases_eq k place) [
      | inl its_place ↦
          let word : ℕ = word_with (slot place) relation mode in
          let of_it : relation_in (set_at slot place word k) ≡ relation =
          ap relation_in (set_at-here slot place word k its_place) ∙ relation_in-word_with (slot place) relation mode fits weak in
          ap (λ r. may_use groups r k) of_it ∙ ap (may_use groups relation) its_place ∙ usable
      | inr other ↦
          let same = set_at-else slot place (word_with (slot place) relation mode) k other in
          ap (λ w. may_use groups (relation_in w) k) same ∙ old k within (ap in_use (sym same) ∙ used)
    ]
