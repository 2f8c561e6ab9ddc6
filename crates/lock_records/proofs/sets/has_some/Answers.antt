use Rattle.std.proofs.Common.{sym, ◌∙◌}
use Rattle.lock_records.proofs.Lemmas.ModeSets.{some-met, none-met}
use Rattle.lock_records.proofs.sets.has_some.Goals as goal

pub returns-clause-some : goal.returns-clause-some
returns-clause-some c = λ met. some-met c.args.modes c.conflicts.result c.conflicts.ensures (sym c.meets.ensures ∙ met)

pub returns-clause-none : goal.returns-clause-none
returns-clause-none c = λ met. none-met c.args.modes c.conflicts.result c.conflicts.ensures (sym c.meets.ensures ∙ met)
