use Rattle.std.proofs.Common.{ap, ◌∙◌}
use Rattle.lock_records.proofs.locks.LockRecord.may_conflict.Goals as goal

pub returns-else-meets-clause-granted : goal.returns-else-meets-clause-granted
returns-else-meets-clause-granted c = λ none its hit. c.meets-else-meets.ensures.none none its (ap (λ f. f its) c.conflicts-conflicting.ensures ∙ hit)

pub returns-else-meets-clause-awaited : goal.returns-else-meets-clause-awaited
returns-else-meets-clause-awaited c = λ none its hit. c.meets.ensures.none c.if-meets.false its (ap (λ f. f its) c.conflicts-conflicting.ensures ∙ hit)
