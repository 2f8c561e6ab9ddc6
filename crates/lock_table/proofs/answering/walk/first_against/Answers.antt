use Rattle.std.proofs.Common.{Bool, ◌||◌, ap, ◌∙◌}
use Rattle.modes_core.specs.declared.modes.Mode.{Mode}
use Rattle.modes_core.specs.Mode.{mode_eq}
use Rattle.modes_core.specs.ModeSet.{set_has}
use Rattle.lock_table.proofs.Lemmas.Walk.{first-met}
use Rattle.lock_table.proofs.answering.walk.first_against.Goals as goal

pub returns : goal.returns
returns g c =
    first-met c.args.mode (set_has c.with.result) ((g.P.PartTable.content c.args.part.now).waits c.args.tag.now) c.walk_until.result
    (c.with.ensures ∙ ap (λ (none : Mode → Bool). λ other. mode_eq other c.args.mode || none other) c.empty.ensures) c.walk_until.ensures
