use Rattle.std.proofs.Common.{◌≡◌, ◌||◌, ◌&&◌, Bool, true, false, refl, sym, ◌∙◌, ap}
use Rattle.modes_core.specs.declared.modes.Mode.{Mode}
use Rattle.modes_core.specs.ModeSet.{set_has}
use Rattle.modes_core.specs.Conflict.{conflict}
use Rattle.sql_report.specs.Outcome.{others_know}
use Rattle.sql_report.proofs.outcome.with_stopped.Goals as goal

pub returns-then-are_known : goal.returns-then-are_known
returns-then-are_known c = λ mode.
    let known : others_know c.args.relations.now c.args.lock.now.relation ≡ true = sym c.are_known.ensures ∙ c.if-are_known.true in
    let held : set_has c.conflicts.result mode ≡ conflict c.args.lock.now.mode mode = ap (λ (f : Mode → Bool). f mode) c.conflicts.ensures in
    rw known (c.with_all.ensures mode ∙ ap (λ b. b || set_has c.args.stopped mode) held)

pub returns-else-are_known : goal.returns-else-are_known
returns-else-are_known c = λ mode.
    let known : others_know c.args.relations.now c.args.lock.now.relation ≡ false = sym c.are_known.ensures ∙ c.if-are_known.false in
    rw known refl
