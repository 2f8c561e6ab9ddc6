use Rattle.std.proofs.Common.{Bool, ap, ◌∙◌}
use Rattle.modes_core.specs.declared.modes.Mode.{Mode}
use Rattle.sql_script.proofs.asked.clash.Goals as goal

pub returns : goal.returns
returns c = c.has.ensures ∙ ap (λ (f : Mode → Bool). f c.args.other) c.conflicts.ensures
