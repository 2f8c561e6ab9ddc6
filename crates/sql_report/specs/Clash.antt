use Rattle.std.specs.Prelude.{ℕ, Bool, ◌&&◌}
use Rattle.std.specs.List.{list_any}
use Rattle.modes_core.specs.declared.modes.Mode.{Mode}
use Rattle.modes_core.specs.Conflict.{conflict}
use Rattle.modes_core.specs.ModeSet.{set_has, all_modes}

-- whether a mode conflicts with one of these
abbrev pub clashes : ℕ → Mode → Bool
clashes modes other = list_any (λ mode. conflict other mode && set_has modes mode) all_modes
