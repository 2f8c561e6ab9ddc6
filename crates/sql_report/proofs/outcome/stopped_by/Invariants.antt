use Rattle.std.proofs.Common.{◌≡◌, take}
use Rattle.modes_core.specs.declared.modes.Mode.{Mode}
use Rattle.modes_core.specs.ModeSet.{set_has}
use Rattle.sql_report.specs.Outcome.{keep_waiting}
use Rattle.sql_report.proofs.outcome.stopped_by.Given as goal

abbrev pub invariant-loop-lock : goal.invariant-loop-lock
invariant-loop-lock l = (mode : Mode) → set_has l.stopped mode ≡ keep_waiting l.relations (take l.lock-index l.locks) mode
