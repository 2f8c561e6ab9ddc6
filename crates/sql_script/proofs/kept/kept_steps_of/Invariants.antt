use Rattle.std.proofs.Common.{◌≡◌, take}
use Rattle.std.specs.List.{flat_map}
use Rattle.sql_script.specs.Kept.{keeping_steps}
use Rattle.sql_script.proofs.kept.kept_steps_of.Given as goal

abbrev pub invariant-loop-lock : goal.invariant-loop-lock
invariant-loop-lock l = l.steps.items ≡ flat_map (keeping_steps l.database) (take l.lock-index l.lock-items)
