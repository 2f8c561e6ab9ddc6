use Rattle.std.proofs.Common.{◌∙◌, ap, sym}
use Rattle.std.proofs.lemmas.Bool.{ne_eqb}
use Rattle.lock_timeline.proofs.bars.is_in_the_way.Goals as goal

pub returns-then-is_same : goal.returns-then-is_same
returns-then-is_same c =
    rw (ne_eqb c.args.bar.now.lane c.args.lane c.if-bar-lane.false)
    (rw (sym c.is_same.ensures ∙ c.if-is_same.true) (c.has.ensures ∙ ap (λ has. has c.args.bar.now.mode) c.conflicts.ensures))
