use Rattle.std.proofs.Common.{◌≡◌, ℕ, true, false, sym, ◌∙◌}
use Rattle.std.proofs.lemmas.Bool.{both_ways}
use Rattle.modes_core.specs.declared.modes.Mode.{Mode}
use Rattle.modes_core.specs.declared.tags.Tag.{Tag}
use Rattle.modes_core.specs.Tag.{is_eligible_for}
use Rattle.lw_word.specs.SlotWord.{in_use}
use Rattle.lw_word.proofs.Lemmas.Slots.{not_in_use-shows}
use Rattle.lock_world.specs.SlotHolds.{relation_of, slot_holds, NoSlotInUse, InUseHasDatabase}
use Rattle.lock_world.proofs.Lemmas.Slots.Eligible.{eligible-is, slot_holds-none}

-- The database of a session with slots.

-- A session for which something is eligible has a database, whatever its slots.
pub InUseHasDatabase-eligible : (database : ℕ) (slot : ℕ → ℕ) (tag : Tag) (mode : Mode) → is_eligible_for database tag mode ≡ true → InUseHasDatabase database slot
InUseHasDatabase-eligible database slot tag mode eligible = λ place within used. (eligible-is database tag mode eligible).1

-- Slots of which none is in use hold nothing, and any database will do.
pub slot_holds-unused : (database : ℕ) (slot : ℕ → ℕ) → NoSlotInUse slot → slot_holds database slot ≡ (λ _ _. false)
slot_holds-unused database slot none = λ i o n. at o n i where
  at : (o : Tag) (n : Mode) → slot_holds database slot o n ≡ false
  at o n = slot_holds-none database slot o n (λ k within. not_in_use-shows (slot k) (relation_of o) n (none k within))

pub InUseHasDatabase-unused : (database : ℕ) (slot : ℕ → ℕ) → NoSlotInUse slot → InUseHasDatabase database slot
InUseHasDatabase-unused database slot none = λ place within used. absurd (both_ways (in_use (slot place)) (none place within) used)

-- So a database stored then changes nothing.
pub slot_holds-stored : (before after : ℕ) (slot : ℕ → ℕ) → NoSlotInUse slot → slot_holds after slot ≡ slot_holds before slot
slot_holds-stored before after slot none = slot_holds-unused after slot none ∙ sym (slot_holds-unused before slot none)
