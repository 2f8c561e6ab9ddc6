use Rattle.std.specs.Prelude.{◌≡◌, ℕ, ◌≤◌, zero, suc, List, ◌∷◌, Result, Ok, Err, OnOk}
use Rattle.modes_core.specs.declared.modes.Mode.{Mode}
use Rattle.modes_core.specs.declared.tags.Tag.{Tag}
use Rattle.modes_core.specs.declared.refusals.Refusal.{Refusal}
use Rattle.modes_core.specs.declared.refusals.Refusal.TheVariants.{StrongCounted}
use Rattle.lock_table.specs.declared.no_memory.NoMemory.{NoMemory}
use Rattle.shared_rule.specs.Quiet.{Quiet, TakesSlots, SharesSlots, SetsSlot, CountsStrong}

-- The quiet steps of the fast path, with those before them, the last one first.

-- a grant, by its answer: the lock of its own slots is taken, unless they are full or it is busy, and a mode
-- is set in one of them
abbrev pub quiet_granting : ℕ → Tag → Mode → Result (Unit {0}) Refusal → List Quiet → List Quiet
quiet_granting number tag mode (Ok done) before = SetsSlot tag mode ∷ TakesSlots number ∷ before
quiet_granting number tag mode (Err StrongCounted) before = TakesSlots number ∷ before
quiet_granting number tag mode (Err refusal) before = before

-- a release, by the use count of the relation's group: the lock of its own slots is taken, unless none of
-- them is in use
abbrev pub quiet_ungranting : ℕ → ℕ → List Quiet → List Quiet
quiet_ungranting number zero before = before
quiet_ungranting number (suc count) before = TakesSlots number ∷ before

-- taking the lock of each session's slots in its turn, of those with numbers below this one, in rising order,
-- after these steps
abbrev pub quiet_turns : ℕ → List Quiet → List Quiet
quiet_turns zero before = before
quiet_turns (suc owner) before = TakesSlots owner ∷ quiet_turns owner before

-- sharing the lock of each session's slots in its turn, of those with numbers below this one, in rising
-- order, after these steps
abbrev pub quiet_sharing : ℕ → List Quiet → List Quiet
quiet_sharing zero before = before
quiet_sharing (suc owner) before = SharesSlots owner ∷ quiet_sharing owner before

-- A transfer counts the strong lock, and takes the lock of each session's slots once; where memory runs out,
-- of those as far as one.
pub record QuietOfTransfer (limit : ℕ) (tag : Tag) (mode : Mode) (result : Result (Unit {0}) NoMemory) (before after : List Quiet) :
    Type 0 where
  pub reached : ℕ
  pub within : reached ≤ limit
  pub all : OnOk result (reached ≡ limit)
  pub quiet : after ≡ quiet_turns reached (CountsStrong tag mode ∷ before)

-- A listing shares the lock of each session's slots once; where memory runs out, of those as far as one.
pub record QuietOfListing {T E : Type 0} (limit : ℕ) (result : Result T E) (before after : List Quiet) : Type 0 where
  pub reached : ℕ
  pub within : reached ≤ limit
  pub all : OnOk result (reached ≡ limit)
  pub quiet : after ≡ quiet_sharing reached before
