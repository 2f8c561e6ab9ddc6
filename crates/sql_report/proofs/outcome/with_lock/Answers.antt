use Rattle.std.proofs.Common.{rules, ◌≡◌, ◌==◌, ◌||◌, ◌&&◌, Bool, true, false, refl, ap}
use Rattle.modes_core.specs.declared.modes.Mode.{Mode}
use Rattle.sql_report.proofs.outcome.with_lock.Goals as goal

pub returns-then-lock-relation : goal.returns-then-lock-relation
returns-then-lock-relation c = λ mode.
    let same : (c.args.lock.now.relation == c.args.relation) ≡ true = search rules in
    rw same (ap (λ (f : Mode → Bool). f mode) c.with.ensures)

pub returns-else-lock-relation : goal.returns-else-lock-relation
returns-else-lock-relation c = λ mode.
    let other : (c.args.lock.now.relation == c.args.relation) ≡ false = search rules in
    rw other refl
