use Rattle.std.proofs.Common.{ℕ, List, sym, subst}
use Rattle.lock_world.specs.World.{opening}
use Rattle.shared_rule.specs.Shown.{WordsAreShown}
use Rattle.shared_rule.proofs.Lemmas.Opening.{opening-in-order}
use Rattle.shared_rule.proofs.table.open.Goals as goal

pub new-requires : goal.new-requires
new-requires g c =
    opening-in-order g.T.PartTable.content g.T.PartTable.begun c.args.sizes.now c.requires.few c.requires.some_groups c.requires.few_groups c.as_slice.result.now
    (subst (λ (words : List ℕ). WordsAreShown c.args.sizes.now words (opening 0 0).words) (sym c.as_slice.ensures.value) c.in-Ok.ensures.shown) c.args.parts.items c.requires.parts
