use Rattle.std.specs.Prelude.{◌≡◌, ℕ, ◌^◌, ◌<◌, Bool, ◌==◌, List, [], ◌∷◌}
use Rattle.std.specs.Int.{bit_at}
use Rattle.modes_core.specs.declared.modes.Mode.{Mode}
use Rattle.modes_core.specs.declared.modes.Mode.TheVariants.{AccessShare, RowShare, RowExclusive, ShareUpdateExclusive, Share, ShareRowExclusive, Exclusive, AccessExclusive}
use Rattle.modes_core.specs.Mode.{number_of}

-- the modes in the order of their numbers
abbrev pub all_modes : List Mode
all_modes = AccessShare ∷ RowShare ∷ RowExclusive ∷ ShareUpdateExclusive ∷ Share ∷ ShareRowExclusive ∷ Exclusive ∷ AccessExclusive ∷ []

-- whether the set with this mask has the mode
abbrev pub set_has : ℕ → Mode → Bool
set_has mask mode = bit_at mask (number_of mode) == 1

-- the mask has bits for modes alone, that is at places 1 to 8
pub record IsModeMask (mask : ℕ) : Type 0 where
  pub below : mask < 2 ^ 9
  pub no_mode_zero : bit_at mask 0 ≡ 0
