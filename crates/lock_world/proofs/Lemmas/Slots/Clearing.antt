use Rattle.std.proofs.Common.{◌≡◌, ◌≢◌, ℕ, ◌<◌, ◌≤◌, true, false, not, ◌&&◌, nat_eq, refl, sym, ap, ◌∙◌, inl, inr}
use Rattle.std.proofs.lemmas.Bool.{cases_eq, cases_Bool, false_from_ne_true, and_parts, and_from, eqb-true, eq-eqb}
use Rattle.modes_core.specs.declared.modes.Mode.{Mode}
use Rattle.modes_core.specs.declared.tags.Tag.{Tag}
use Rattle.modes_core.specs.Mode.{mode_eq, number_of}
use Rattle.modes_core.specs.Tag.{tag_eq, is_eligible_for}
use Rattle.modes_core.proofs.Lemmas.Conflicts.{mode_eq-refl, mode_eq-same}
use Rattle.lw_word.specs.SlotWord.{relation_in, in_use, has_mode, shows, word_without}
use Rattle.lw_word.proofs.Lemmas.Slots.{shows-word_without, in_use-shows}
use Rattle.lock_table.specs.Put.{put, set_at}
use Rattle.lock_table.proofs.Lemmas.Put.{set_at-here, set_at-else}
use Rattle.lock_table.proofs.Lemmas.Holds.{IsTheHold, here, elsewhere, set_hold-at}
use Rattle.lock_world.specs.SlotHolds.{slot_count, relation_of, slot_holds, may_use, IsHeldIn, is_slot_of, OneSlotEach, AreInGroups}
use Rattle.lock_world.proofs.Lemmas.Slots.Eligible.{eligible-is, eligible-same, shown-in_use, slot_holds-same, slot_holds-none}

-- A mode cleared in the slot that has it.

-- The slots then hold that mode no more.
pub slot_holds-clear :
    (database : ℕ) (slot : ℕ → ℕ) (tag : Tag) (mode : Mode) (place : ℕ) → OneSlotEach slot → IsHeldIn database slot tag mode place →
    slot_holds database (set_at slot place (word_without (slot place) mode)) ≡ put tag_eq (slot_holds database slot) tag (put mode_eq (slot_holds database slot tag) mode false)
slot_holds-clear database slot tag mode place one its = λ i o n. at o n i where
  after : ℕ → ℕ
  after = set_at slot place (word_without (slot place) mode)

  shown : (o : Tag) (n : Mode) (k : ℕ) → k ≡ place → shows (after k) (relation_of o) n ≡ (not (mode_eq n mode) && shows (slot k) (relation_of o) n)
  shown o n k same =
      ap (λ w. shows w (relation_of o) n) (set_at-here slot place (word_without (slot place) mode) k same)
      ∙ shows-word_without (slot place) mode (eligible-is database tag mode its.eligible).2 (relation_of o) n
      ∙ ap (λ j. not (mode_eq n mode) && shows (slot j) (relation_of o) n) (sym same)

  other_slot : (o : Tag) (n : Mode) (k : ℕ) → k ≢ place → shows (after k) (relation_of o) n ≡ shows (slot k) (relation_of o) n
  other_slot o n k other = ap (λ w. shows w (relation_of o) n) (set_at-else slot place (word_without (slot place) mode) k other)

  now_gone : (k : ℕ) → k < slot_count → shows (after k) (relation_of tag) mode ≡ false
  now_gone k within =
      elim (cases_eq k place) [
        | inl same ↦ shown tag mode k same ∙ ap (λ b. not b && shows (slot k) (relation_of tag) mode) (mode_eq-refl mode)
        | inr other ↦
            other_slot tag mode k other
            ∙ false_from_ne_true (shows (slot k) (relation_of tag) mode) (λ too.
            other (one (relation_of tag) k place within its.within (shown-in_use (slot k) (relation_of tag) mode too) (shown-in_use (slot place) (relation_of tag) mode its.shown)))
      ]

  of_the_slot : (k : ℕ) → k ≡ place → (o : Tag) (n : Mode) → shows (slot k) (relation_of o) n ≡ true → relation_of tag ≡ relation_of o
  of_the_slot k same o n too =
      let mine = and_parts (has_mode (slot place) mode) (nat_eq (relation_in (slot place)) (relation_of tag)) its.shown in
      let theirs = and_parts (has_mode (slot k) n) (nat_eq (relation_in (slot k)) (relation_of o)) too in
      sym (eqb-true (relation_in (slot place)) (relation_of tag) mine.1) ∙ ap (λ j. relation_in (slot j)) (sym same) ∙ eqb-true (relation_in (slot k)) (relation_of o) theirs.1

  kept : (o : Tag) (n : Mode) → (IsTheHold 0 tag mode 0 o n → ⊥) → is_eligible_for database o n ≡ true → (k : ℕ) → k < slot_count → shows (after k) (relation_of o) n ≡ shows (slot k) (relation_of o) n
  kept o n not_it eligible k within =
      elim (cases_eq k place) [
        | inr other ↦ other_slot o n k other
        | inl same ↦ elim (cases_Bool (mode_eq n mode)) [
          | inr another ↦ shown o n k same ∙ ap (λ b. not b && shows (slot k) (relation_of o) n) another
          | inl is ↦
              shown o n k same
              ∙ ap (λ b. not b && shows (slot k) (relation_of o) n) is
              ∙ sym (false_from_ne_true (shows (slot k) (relation_of o) n) (λ too.
              not_it (record { session = refl; tag = sym (eligible-same database tag o mode n its.eligible eligible (of_the_slot k same o n too)); mode = mode_eq-same n mode is })))
        ]
      ]

  -- one session's holds, read as those of a number 0
  at : (o : Tag) (n : Mode) → slot_holds database after o n ≡ put tag_eq (slot_holds database slot) tag (put mode_eq (slot_holds database slot tag) mode false) o n
  at o n =
      elim (set_hold-at (λ _. slot_holds database slot) 0 tag mode false 0 o n) [
        | here it is ↦ (λ i. slot_holds database after (it.tag i) (it.mode i)) ∙ slot_holds-none database after tag mode now_gone ∙ sym is
        | elsewhere not_it is ↦ slot_holds-same database slot after o n (kept o n not_it) ∙ sym is
      ]

-- A slot in use after it was so before, for the same relation.
was_slot_of : (word relation : ℕ) (mode : Mode) → number_of mode ≤ 3 → is_slot_of (word_without word mode) relation ≡ true → is_slot_of word relation ≡ true
was_slot_of word relation mode weak is =
    let both = and_parts (in_use (word_without word mode)) (nat_eq (relation_in (word_without word mode)) relation) is in
    let some = in_use-shows (word_without word mode) both.0 in
    let shown : shows (word_without word mode) relation some.0 ≡ true = ap (λ r. shows (word_without word mode) r some.0) (sym (eqb-true (relation_in (word_without word mode)) relation both.1)) ∙ some.2 in
    let before = and_parts (not (mode_eq some.0 mode)) (shows word relation some.0) (sym (shows-word_without word mode weak relation some.0) ∙ shown) in
    shown-in_use word relation some.0 before.1

-- There is still one slot at most for each relation.
pub OneSlotEach-clear : (slot : ℕ → ℕ) (mode : Mode) (place : ℕ) → number_of mode ≤ 3 → OneSlotEach slot → OneSlotEach (set_at slot place (word_without (slot place) mode))
OneSlotEach-clear slot mode place weak one relation k l k_within l_within k_is l_is = one relation k l k_within l_within (was k k_is) (was l l_is) where
  was : (j : ℕ) → is_slot_of (set_at slot place (word_without (slot place) mode) j) relation ≡ true → is_slot_of (slot j) relation ≡ true
  was j is =
      elim (cases_eq j place) [
        | inl same ↦
            ap (λ k. is_slot_of (slot k) relation) same
            ∙ was_slot_of (slot place) relation mode weak (ap (λ w. is_slot_of w relation) (sym (set_at-here slot place (word_without (slot place) mode) j same)) ∙ is)
        | inr other ↦ ap (λ w. is_slot_of w relation) (sym (set_at-else slot place (word_without (slot place) mode) j other)) ∙ is
      ]

-- Each slot in use is still of its relation's group.
pub AreInGroups-clear :
    (groups : ℕ) (slot : ℕ → ℕ) (mode : Mode) (place : ℕ) → number_of mode ≤ 3 →
    AreInGroups groups slot → AreInGroups groups (set_at slot place (word_without (slot place) mode))
AreInGroups-clear groups slot mode place weak old k within used =
    elim (cases_eq k place) [
      | inl its_place ↦
          let word : ℕ = word_without (slot place) mode in
          let same = set_at-here slot place word k its_place in
          let left : is_slot_of word (relation_in word) ≡ true =
          and_from (in_use word) (nat_eq (relation_in word) (relation_in word)) (ap in_use (sym same) ∙ used) (eq-eqb (relation_in word) (relation_in word) refl) in
          let was = and_parts (in_use (slot place)) (nat_eq (relation_in (slot place)) (relation_in word)) (was_slot_of (slot place) (relation_in word) mode weak left) in
          ap (λ w. may_use groups (relation_in w) k) same
          ∙ ap (λ r. may_use groups r k) (sym (eqb-true (relation_in (slot place)) (relation_in word) was.1))
          ∙ ap (λ j. may_use groups (relation_in (slot j)) k) (sym its_place)
          ∙ old k within (ap (λ j. in_use (slot j)) its_place ∙ was.0)
      | inr other ↦
          let same = set_at-else slot place (word_without (slot place) mode) k other in
          ap (λ w. may_use groups (relation_in w) k) same ∙ old k within (ap in_use (sym same) ∙ used)
    ]
