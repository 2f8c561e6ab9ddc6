use Rattle.std.specs.Prelude.{◌≡◌, ℕ, ◌+◌, ◌-◌, ◌≤◌, ◌==◌, not, List, length, sum, slice_index}
use Rattle.modes_core.specs.declared.modes.Mode.{Mode}
use Rattle.modes_core.specs.Mode.{number_of, mode_eq}
use Rattle.modes_core.specs.ModeSet.{set_has}
use Rattle.lock_table.specs.Put.{put}

-- how many there are of a mode, by a list with a number for each mode
abbrev pub counts_in : List ℕ → Mode → ℕ
counts_in by_mode mode = slice_index by_mode (number_of mode)

-- counts by mode, with one more of a mode, and with one less
abbrev pub one_more : (Mode → ℕ) → Mode → Mode → ℕ
one_more counts mode = put mode_eq counts mode (counts mode + 1)

-- counts by mode, with one less of a mode
abbrev pub one_less : (Mode → ℕ) → Mode → Mode → ℕ
one_less counts mode = put mode_eq counts mode (counts mode - 1)

-- how many of one mode a tally can count: more than there are sessions at most, and few enough for the sums
-- of all modes of two tallies together to have 16 bits
abbrev pub most_tallied : ℕ
most_tallied = 2047

-- What a tally keeps: place 0 of its list is unused, it knows the sum, and its mask has the modes of which
-- there is one.
pub record IsTally (by_mode : List ℕ) (total mask : ℕ) : Type 0 where
  pub unused : slice_index by_mode 0 ≡ 0
  pub nine : length by_mode ≡ 9
  pub each : (k : ℕ) → slice_index by_mode k ≤ most_tallied
  pub summed : total ≡ sum by_mode
  pub modes : (mode : Mode) → set_has mask mode ≡ not (counts_in by_mode mode == 0)
