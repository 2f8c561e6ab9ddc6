use Rattle.std.proofs.Common.{◌≡◌, take}
use Rattle.std.specs.List.{flat_map}
use Rattle.sql_script.specs.Awaited.{pass_steps}
use Rattle.sql_script.proofs.awaited.passes_of.Given as goal

abbrev pub invariant-loop-tag : goal.invariant-loop-tag
invariant-loop-tag l = l.steps.items ≡ flat_map pass_steps (take l.tag-index l.tag-items)
