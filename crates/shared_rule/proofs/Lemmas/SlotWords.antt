use Rattle.std.proofs.Common.{◌≡◌, ◌⊎◌, ℕ, ◌-◌, ◌<◌, ◌≤◌, true, false, ◌&&◌, nat_eq, sym, ap, ◌∙◌, inl, inr, arith}
use Rattle.std.specs.Int.{bit_at}
use Rattle.std.proofs.lemmas.Bool.{cases_lt, false≢true, and_parts, eqb-true}
use Rattle.std.proofs.lemmas.Nat.Bits.{bit_at_above}
use Rattle.modes_core.specs.declared.modes.Mode.{Mode}
use Rattle.modes_core.specs.Mode.{number_of}
use Rattle.lw_word.specs.SlotWord.{relation_in, mode_bits, in_use, shows}
use Rattle.lock_world.specs.SlotHolds.{slot_count, may_use, is_slot_of, IsSlotToGrant}

-- What a slot shows, as those ask who make its next word.

-- A mode that is shown is 3 at most.
pub shown-weak : (word relation : ℕ) (mode : Mode) → shows word relation mode ≡ true → number_of mode ≤ 3
shown-weak word relation mode shown =
    elim (cases_lt 3 (number_of mode)) [
      | inl strong ↦
          let none : bit_at (mode_bits word) (number_of mode - 1) ≡ 0 = bit_at_above (mode_bits word) 3
          (number_of mode - 1) (omega arith) (omega (arith, strong)) in
          let no : shows word relation mode ≡ false = ap (λ b. nat_eq b 1 && nat_eq (relation_in word) relation) none in
          absurd (false≢true (sym no ∙ shown))
      | inr weak ↦ weak
    ]

-- The slot that a grant takes is the relation's, if it is in use.
pub its-slot : (groups : ℕ) (word : ℕ → ℕ) (relation slot shown : ℕ) → IsSlotToGrant groups word relation slot → shown ≡ word slot
    → in_use shown ≡ true → relation_in shown ≡ relation
its-slot groups word relation slot shown takes is used = at takes.its_or_unused where
  at : (is_slot_of (word slot) relation ≡ true) ⊎ ((in_use (word slot) ≡ false) × ((other : ℕ) → other < slot_count
      → may_use groups relation other ≡ true → is_slot_of (word other) relation ≡ false)) → relation_in shown ≡ relation
  at (inl its) = ap relation_in is ∙ eqb-true (relation_in (word slot)) relation
      (and_parts (in_use (word slot)) (nat_eq (relation_in (word slot)) relation) its).1
  at (inr unused) = absurd (false≢true (sym unused.0 ∙ ap in_use (sym is) ∙ used))
