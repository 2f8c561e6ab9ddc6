use Rattle.std.proofs.Common.{◌≡◌, take}
use Rattle.modes_core.specs.declared.modes.Mode.{Mode}
use Rattle.modes_core.specs.ModeSet.{set_has}
use Rattle.sql_report.specs.Outcome.{has_on}
use Rattle.sql_report.proofs.outcome.modes_on.Given as goal

abbrev pub invariant-loop-lock : goal.invariant-loop-lock
invariant-loop-lock l = (mode : Mode) → set_has l.modes mode ≡ has_on l.relation (take l.lock-index l.locks) mode
