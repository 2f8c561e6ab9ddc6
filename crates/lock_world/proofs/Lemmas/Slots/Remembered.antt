use Rattle.std.proofs.Common.{◌≡◌, ℕ, ◌≤◌, true, false, not, ◌&&◌, nat_eq, nat_le, refl, sym, ap, ◌∙◌}
use Rattle.std.proofs.Common.{inl, inr, subst}
use Rattle.std.specs.Prelude.{◌==◌}
use Rattle.std.proofs.lemmas.Bool.{cases_eq, both_ways, false_from_ne_true, and_parts, and_from}
use Rattle.std.proofs.lemmas.Bool.{eq-eqb, ne_eqb, cond-true, cond-false, le-leb}
use Rattle.modes_core.specs.declared.modes.Mode.{Mode}
use Rattle.modes_core.specs.declared.tags.Tag.{Tag}
use Rattle.modes_core.specs.declared.tags.Tag.TheVariants.{Relation}
use Rattle.modes_core.specs.Mode.{mode_eq, number_of}
use Rattle.modes_core.specs.Tag.{is_eligible_for}
use Rattle.lw_word.specs.SlotWord.{relation_in, in_use, shows, word_without}
use Rattle.lw_word.proofs.Lemmas.Slots.{in_use-shows, not_in_use-shows, shows-word_without}
use Rattle.lock_table.specs.Put.{set_at}
use Rattle.lock_table.proofs.Lemmas.Put.{set_at-here, set_at-else, set_at-each}
use Rattle.lock_world.specs.SlotHolds.{relation_of, slot_holds, ShowsNoMore, NoSlotInUse, InUseHasDatabase}
use Rattle.lock_world.specs.Happens.Slots.{remembered_after_taking}
use Rattle.lock_world.specs.SafeWorld.{SlotsAreRemembered}
use Rattle.lock_world.proofs.Lemmas.Slots.Eligible.{held-is_in, is_in-held}

-- Slots that show no more than they did, and what a session remembers of its own.

-- A hold that they did not show they do not show.
pub slot_holds-fewer :
    (database : ℕ) (slot before : ℕ → ℕ) (tag : Tag) (mode : Mode) → ShowsNoMore slot before
    → slot_holds database before tag mode ≡ false → slot_holds database slot tag mode ≡ false
slot_holds-fewer database slot before tag mode fewer none =
    false_from_ne_true (slot_holds database slot tag mode) (λ held.
    let found = held-is_in database slot tag mode held in
    both_ways (slot_holds database before tag mode) none
    (is_in-held database before tag mode found.0 (record {
      eligible = found.1.eligible;
      within = found.1.within;
      shown = fewer found.0 (relation_of tag) mode found.1.within found.1.shown;
    })))

-- Whatever weak mode is eligible for a database that there is.
pub eligible-of :
    (database relation : ℕ) (mode : Mode) → nat_eq database 0 ≡ false → number_of mode ≤ 3
    → is_eligible_for database (Relation database relation) mode ≡ true
eligible-of database relation mode some weak =
    and_from (nat_eq database database) (not (nat_eq database 0) && nat_le (number_of mode) 3)
    (eq-eqb database database refl)
    (and_from (not (nat_eq database 0)) (nat_le (number_of mode) 3) (ap not some) (le-leb (number_of mode) 3 weak))

-- Whoever has no hold in its slots has none in use.
pub no_hold-no_slot :
    (database : ℕ) (slot : ℕ → ℕ) → InUseHasDatabase database slot
    → ((tag : Tag) (mode : Mode) → slot_holds database slot tag mode ≡ false) → NoSlotInUse slot
no_hold-no_slot database slot has_database none place within = false_from_ne_true (in_use (slot place)) (λ used.
    let some = in_use-shows (slot place) used in
    let tag : Tag = Relation database (relation_in (slot place)) in
    both_ways (slot_holds database slot tag some.0) (none tag some.0)
    (is_in-held database slot tag some.0 place (record {
      eligible = eligible-of database (relation_in (slot place)) some.0
          (ne_eqb database 0 (has_database place within used)) some.1;
      within = within;
      shown = some.2;
    })))

-- With a mode cleared they show no more.
pub ShowsNoMore-clear :
    (slot : ℕ → ℕ) (mode : Mode) (place : ℕ) → number_of mode ≤ 3
    → ShowsNoMore (set_at slot place (word_without (slot place) mode)) slot
ShowsNoMore-clear slot mode place weak k relation its within shown =
    elim (cases_eq k place) [
      | inl same ↦
          let there : shows cleared relation its ≡ true =
          ap (λ w. shows w relation its) (sym (set_at-here slot place cleared k same)) ∙ shown in
          ap (λ j. shows (slot j) relation its) same
          ∙ (and_parts (not (mode_eq its mode)) (shows (slot place) relation its)
          (sym (shows-word_without (slot place) mode weak relation its) ∙ there)).1
      | inr other ↦ ap (λ w. shows w relation its) (sym (set_at-else slot place cleared k other)) ∙ shown
    ] where
      cleared : ℕ
      cleared = word_without (slot place) mode

module _ (slot remembered : ℕ → ℕ → ℕ) (s : ℕ) where
  -- A session remembers its slots as it stores them,
  pub remembered-both :
      (words : ℕ → ℕ) → SlotsAreRemembered slot remembered
      → SlotsAreRemembered (set_at slot s words) (set_at remembered s words)
  remembered-both words all k place relation mode within shown =
      elim (cases_eq k s) [
        | inl same ↦
            ap (λ its. shows (its place) relation mode)
            (set_at-here remembered s words k same ∙ sym (set_at-here slot s words k same))
            ∙ shown
        | inr other ↦
            ap (λ its. shows (its place) relation mode) (set_at-else remembered s words k other)
            ∙ all k place relation mode within
            (ap (λ its. shows (its place) relation mode) (sym (set_at-else slot s words k other)) ∙ shown)
      ]

  -- and as it sees them.
  pub remembered-seen :
      (owner : ℕ) → SlotsAreRemembered slot remembered
      → SlotsAreRemembered slot (remembered_after_taking remembered slot s owner)
  remembered-seen owner all =
      elim (cases_eq owner s) [
        | inl own ↦
            subst (λ after. SlotsAreRemembered slot after)
            (sym (cond-true (owner == s) (set_at remembered s (slot owner)) remembered (eq-eqb owner s own)))
            (set_at-each (λ k words. ShowsNoMore (slot k) words) remembered s (slot owner)
            (λ place relation mode _ shown. ap (λ k. shows (slot k place) relation mode) own ∙ shown) (λ k _. all k))
        | inr other ↦
            subst (λ after. SlotsAreRemembered slot after)
            (sym (cond-false (owner == s) (set_at remembered s (slot owner)) remembered (ne_eqb owner s other))) all
      ]

  -- What another clears it remembers still.
  pub remembered-cleared :
      (place : ℕ) (mode : Mode) → number_of mode ≤ 3 → SlotsAreRemembered slot remembered
      → SlotsAreRemembered (set_at slot s (set_at (slot s) place (word_without (slot s place) mode))) remembered
  remembered-cleared place mode weak all =
      set_at-each (λ k words. ShowsNoMore words (remembered k)) slot s
      (set_at (slot s) place (word_without (slot s place) mode))
      (λ k relation its within shown.
      all s k relation its within (ShowsNoMore-clear (slot s) mode place weak k relation its within shown))
      (λ k _. all k)

  -- Whoever has no slot in use has nothing to remember.
  pub remembered-closed :
      NoSlotInUse (slot s) → SlotsAreRemembered slot remembered
      → SlotsAreRemembered slot (set_at remembered s (λ _. 0))
  remembered-closed none all =
      set_at-each (λ k words. ShowsNoMore (slot k) words) remembered s (λ _. 0)
      (λ place relation mode within shown. absurd (both_ways (shows (slot s place) relation mode)
      (not_in_use-shows (slot s place) relation mode (none place within)) shown))
      (λ k _. all k)
