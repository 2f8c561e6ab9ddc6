use Rattle.std.proofs.Common.{take}
use Rattle.sql_report.specs.Outcome.{AreLocksOfActs}
use Rattle.sql_report.proofs.outcome.locks_of_acts.Given as goal

abbrev pub invariant-loop-act : goal.invariant-loop-act
invariant-loop-act l = AreLocksOfActs l.links (take l.act-index l.acts) l.locks.items
