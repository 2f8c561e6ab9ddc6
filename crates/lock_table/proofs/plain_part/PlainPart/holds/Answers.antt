use Rattle.std.proofs.Common.{◌∙◌, ap, subst}
use Rattle.crossbeam_utils.specs.Padded.{padded_value}
use Rattle.lock_table.specs.PartView.{PartView}
use Rattle.lock_table.specs.PartWaits.{EachOnce}
use Rattle.lock_table.proofs.plain_part.PlainPart.holds.Goals as goal

pub returns-clause-each_once : goal.returns-clause-each_once
returns-clause-each_once c = subst (λ (part : PartView). EachOnce part.holds part.waits) (c.deref-2.ensures ∙ ap padded_value c.deref.ensures ∙ c.self.view_is) c.holds.ensures.each_once
