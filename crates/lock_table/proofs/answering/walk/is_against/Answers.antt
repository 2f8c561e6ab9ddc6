use Rattle.std.proofs.Common.{Bool, ◌&&◌, ap, ◌∙◌}
use Rattle.std.specs.List.{list_any}
use Rattle.modes_core.specs.declared.modes.Mode.{Mode}
use Rattle.modes_core.specs.ModeSet.{set_has, all_modes}
use Rattle.lock_table.proofs.answering.walk.is_against.Goals as goal

pub returns : goal.returns
returns c = c.meets.ensures ∙ ap (λ (test : Mode → Bool). list_any (λ mode. set_has c.args.modes mode && test mode) all_modes) c.conflicts.ensures
