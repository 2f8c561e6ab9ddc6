use Rattle.std.specs.Prelude.{ℕ, zero, suc, ◌+◌, Bool, List, if◌then◌else◌, count_by, sum, map}
use Rattle.modes_core.specs.declared.modes.Mode.{Mode}
use Rattle.modes_core.specs.declared.tags.Tag.{Tag}
use Rattle.modes_core.specs.Mode.{mode_eq}
use Rattle.modes_core.specs.ModeSet.{all_modes}
use Rattle.lock_table.specs.Content.{Holds, Wait}
use Rattle.modes_core.specs.Sessions.{most_sessions}

-- how many of the sessions below a number pass a test
unfoldable pub sessions_below : ℕ → (ℕ → Bool) → ℕ
sessions_below zero test = 0
sessions_below (suc n) test = (if test n then 1 else 0) + sessions_below n test

-- how many sessions hold the object in the mode
abbrev pub granted_of : Holds → Tag → Mode → ℕ
granted_of holds tag mode = sessions_below most_sessions (λ session. holds session tag mode)

-- how many waits of a queue are for the mode
abbrev pub awaited_of : List Wait → Mode → ℕ
awaited_of queue mode = count_by (λ wait. mode_eq wait.mode mode) queue

-- how many there are of all modes together
abbrev pub total_of : (Mode → ℕ) → ℕ
total_of counts = sum (map counts all_modes)
