use Rattle.std.proofs.Common.{rules, ◌≡◌, ◌==◌, ◌<◌, ◌&&◌, Bool, length, sym, ◌∙◌, ap}
use Rattle.modes_core.specs.declared.modes.Mode.{Mode}
use Rattle.modes_core.specs.declared.modes.Mode.TheVariants.{AccessShare}
use Rattle.modes_core.specs.Mode.{mode_eq}
use Rattle.sql_locks.specs.declared.locks.Lock.{Lock}
use Rattle.sql_report.proofs.Lemmas.LockSteps.{any_more}
use Rattle.sql_report.proofs.outcome.modes_on.Goals as goal

pub loop-lock-init : goal.loop-lock-init
loop-lock-init c = λ mode. ap (λ (f : Mode → Bool). f mode) c.empty-modes.ensures

pub loop-lock-preserved : goal.loop-lock-preserved
loop-lock-preserved c = λ mode.
    let none : Lock = record { relation = 0; mode = AccessShare } in
    let lt : c.loop-lock.lock-index < length c.args.locks.now = search rules in
    c.with_lock-modes.ensures mode ∙ any_more (λ lock. (lock.relation == c.args.relation) && mode_eq mode lock.mode)
    c.args.locks.now c.loop-lock.lock-index none _ lt (c.loop-lock.invariant mode)
