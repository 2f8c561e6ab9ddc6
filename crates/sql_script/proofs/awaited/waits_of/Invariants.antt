use Rattle.std.proofs.Common.{◌≡◌, map, take}
use Rattle.sql_script.specs.Awaited.{await_step}
use Rattle.sql_script.proofs.awaited.waits_of.Given as goal

abbrev pub invariant-loop-tag : goal.invariant-loop-tag
invariant-loop-tag l = l.steps.items ≡ map await_step (take l.tag-index l.tag-items)
