use Rattle.std.specs.Prelude.{ℕ}
use Rattle.modes_core.specs.declared.modes.Mode.{Mode}
use Rattle.modes_core.specs.ModeSet.{set_has}
use Rattle.lock_table.specs.declared.waits.Waiter.{Waiter}
use Rattle.lock_table.specs.Content.{Wait}

-- the wait that a waiter shows
abbrev pub shown_wait : Waiter → Wait
shown_wait waiter = record { session = waiter.session; mode = waiter.mode; held = set_has waiter.held }

-- what a wakeup notes of a wait that it granted: whose it was, and for which mode
abbrev pub whose_and_mode : Wait → ℕ × Mode
whose_and_mode wait = (wait.session, wait.mode)
