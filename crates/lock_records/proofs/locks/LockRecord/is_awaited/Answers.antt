use Rattle.std.proofs.Common.{sym, ap, ◌∙◌}
use Rattle.lock_records.proofs.locks.LockRecord.is_awaited.Goals as goal

pub returns-clause-some : goal.returns-clause-some
returns-clause-some c = λ met.
    let some = c.meets.ensures.some met in
    (some.0, ap (λ f. f some.0) (sym c.conflicts.ensures) ∙ some.1, some.2)

pub returns-clause-none : goal.returns-clause-none
returns-clause-none c = λ none its hit. c.meets.ensures.none none its (ap (λ f. f its) c.conflicts.ensures ∙ hit)
