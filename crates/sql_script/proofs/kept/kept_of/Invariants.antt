use Rattle.std.proofs.Common.{◌≡◌, filter, take}
use Rattle.sql_script.specs.Kept.{is_kept}
use Rattle.sql_script.proofs.kept.kept_of.Given as goal

abbrev pub invariant-loop-lock : goal.invariant-loop-lock
invariant-loop-lock l = l.kept.items ≡ filter is_kept (take l.lock-index l.lock-items)
