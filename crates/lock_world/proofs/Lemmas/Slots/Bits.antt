use Rattle.std.proofs.Common.{◌≡◌, ℕ, ◌-◌, ◌^◌, ◌<◌, ◌≤◌, true, nat_eq, arith, sym, ap, ◌∙◌, inl, inr}
use Rattle.std.specs.Int.{bit_at}
use Rattle.std.proofs.lemmas.Nat.Bits.{bit_at_above}
use Rattle.std.proofs.lemmas.Bool.{cases_lt, false≢true, and_parts, ne_eqb}
use Rattle.modes_core.specs.declared.modes.Mode.{Mode}
use Rattle.modes_core.specs.declared.tags.Tag.TheVariants.{Relation}
use Rattle.modes_core.specs.Mode.{number_of}
use Rattle.lw_word.specs.SlotWord.{relation_in, mode_bits, has_mode, shows}
use Rattle.lw_word.proofs.Lemmas.Slots.{shows-of}
use Rattle.lock_world.specs.SlotHolds.{slot_count, slot_holds, InUseHasDatabase}
use Rattle.lock_world.proofs.Lemmas.Slots.Eligible.{is_in-held}
use Rattle.lock_world.proofs.Lemmas.Slots.Remembered.{eligible-of}

-- Each mode bit of a slot is a hold.

-- A slot shows modes up to 3 alone.
pub shows-weak : (word relation : ℕ) (mode : Mode) → shows word relation mode ≡ true → number_of mode ≤ 3
shows-weak word relation mode shown =
    elim (cases_lt (number_of mode) 4) [
      | inl low ↦ omega (arith, low)
      | inr high ↦
          let few : mode_bits word < 2 ^ 3 = omega arith in
          let none : bit_at (mode_bits word) (number_of mode - 1) ≡ 0 = bit_at_above (mode_bits word) 3 (number_of mode - 1) few (omega (arith, high)) in
          absurd (false≢true (sym (ap (λ b. nat_eq b 1) none) ∙ (and_parts (has_mode word mode) (nat_eq (relation_in word) relation) shown).0))
    ]

-- What a slot shows of a relation is a hold on that relation in the database of the slot's session, which it
-- has.
pub shown-held :
    (database : ℕ) (slot : ℕ → ℕ) (place relation : ℕ) (mode : Mode) → InUseHasDatabase database slot → place < slot_count
    → shows (slot place) relation mode ≡ true → slot_holds database slot (Relation database relation) mode ≡ true
shown-held database slot place relation mode has within shown =
    is_in-held database slot (Relation database relation) mode place (record {
      eligible = eligible-of database relation mode (ne_eqb database 0 (has place within (shows-of (slot place) relation mode shown).0)) (shows-weak (slot place) relation mode shown);
      within = within;
      shown = shown;
    })
