use Rattle.std.proofs.Common.{◌∙◌}
use Rattle.lock_table.proofs.Lemmas.Walk.{awaited-first}
use Rattle.wait_queue.proofs.releases.awaited_in_conflict.Goals as goal

pub returns : goal.returns
returns g c =
    c.is_some.ensures ∙ awaited-first c.args.mode ((g.P.PartTable.content c.args.part.now).waits c.args.tag.now) c.first_against.result c.first_against.ensures
