use Rattle.std.proofs.Common.{◌≡◌, map, take}
use Rattle.sql_script.specs.Asked.{step_of}
use Rattle.sql_script.proofs.asked.steps_of.Given as goal

abbrev pub invariant-loop-lock : goal.invariant-loop-lock
invariant-loop-lock l = l.steps.items ≡ map (step_of l.database l.asking) (take l.lock-index l.lock-items)
