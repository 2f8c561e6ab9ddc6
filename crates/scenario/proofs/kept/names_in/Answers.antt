use Rattle.std.proofs.Common.{◌∙◌, rules}
use Rattle.scenario.proofs.Lemmas.Leaving.{names-more}
use Rattle.scenario.proofs.kept.names_in.Goals as goal

pub places-preserved : goal.places-preserved
places-preserved g c =
    search rules
    ∙ names-more (λ one. one.name) c.args.sessions.now c.places.names.items c.places.place c.at.result.now (search rules) (search rules) c.places.invariant
