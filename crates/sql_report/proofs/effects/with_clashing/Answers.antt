use Rattle.std.proofs.Common.{◌≡◌, ◌||◌, ◌&&◌, Bool, true, false, sym, ◌∙◌, ap}
use Rattle.modes_core.specs.declared.modes.Mode.{Mode}
use Rattle.modes_core.specs.Mode.{mode_eq}
use Rattle.modes_core.specs.ModeSet.{set_has}
use Rattle.modes_core.specs.Conflict.{conflict}
use Rattle.sql_report.specs.Clash.{clashes}
use Rattle.sql_report.proofs.Lemmas.BoolSteps.{and_true_or, and_false_or}
use Rattle.sql_report.proofs.effects.with_clashing.Goals as goal

pub returns-then-meets : goal.returns-then-meets
returns-then-meets c = λ other.
    let held : (m : Mode) → set_has c.conflicts.result m ≡ conflict c.args.mode m = λ m. ap (λ (f : Mode → Bool). f m) c.conflicts.ensures in
    let met : clashes c.args.modes c.args.mode ≡ true = sym (simp held at c.meets.ensures) ∙ c.if-meets.true in
    let all : set_has c.with.result other ≡ (mode_eq other c.args.mode || set_has c.args.all other) = ap (λ (f : Mode → Bool). f other) c.with.ensures in
    all ∙ and_true_or (mode_eq other c.args.mode) (clashes c.args.modes c.args.mode) (set_has c.args.all other) met

pub returns-else-meets : goal.returns-else-meets
returns-else-meets c = λ other.
    let held : (m : Mode) → set_has c.conflicts.result m ≡ conflict c.args.mode m = λ m. ap (λ (f : Mode → Bool). f m) c.conflicts.ensures in
    let met : clashes c.args.modes c.args.mode ≡ false = sym (simp held at c.meets.ensures) ∙ c.if-meets.false in
    and_false_or (mode_eq other c.args.mode) (clashes c.args.modes c.args.mode) (set_has c.args.all other) met
