use Rattle.std.proofs.Common.{◌≡◌, ◌||◌, ◌&&◌, Bool, true, false, sym, ◌∙◌, ap}
use Rattle.modes_core.specs.declared.modes.Mode.{Mode}
use Rattle.modes_core.specs.Mode.{mode_eq}
use Rattle.modes_core.specs.ModeSet.{set_has}
use Rattle.sql_report.proofs.Lemmas.BoolSteps.{and_true_or, and_false_or}
use Rattle.sql_report.proofs.outcome.with_shared.Goals as goal

pub returns-then-has : goal.returns-then-has
returns-then-has c = λ other.
    let met : set_has c.args.others c.args.mode ≡ true = sym c.has.ensures ∙ c.if-has.true in
    let all : set_has c.with.result other ≡ (mode_eq other c.args.mode || set_has c.args.all other) = ap (λ (f : Mode → Bool). f other) c.with.ensures in
    all ∙ and_true_or (mode_eq other c.args.mode) (set_has c.args.others c.args.mode) (set_has c.args.all other) met

pub returns-else-has : goal.returns-else-has
returns-else-has c = λ other.
    let met : set_has c.args.others c.args.mode ≡ false = sym c.has.ensures ∙ c.if-has.false in
    and_false_or (mode_eq other c.args.mode) (set_has c.args.others c.args.mode) (set_has c.args.all other) met
