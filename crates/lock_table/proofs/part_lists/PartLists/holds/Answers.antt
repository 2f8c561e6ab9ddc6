use Rattle.std.proofs.Common.{subst}
use Rattle.lock_table.specs.PartView.{PartView}
use Rattle.lock_table.specs.PartWaits.{EachOnce}
use Rattle.lock_table.proofs.part_lists.PartLists.holds.Goals as goal

pub returns-clause-each_once : goal.returns-clause-each_once
returns-clause-each_once c = subst (λ (part : PartView). EachOnce part.holds part.waits) c.self.view_is c.self.invariant.each_once
