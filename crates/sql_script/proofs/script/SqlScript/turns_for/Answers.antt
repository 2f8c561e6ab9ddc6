use Rattle.std.proofs.Common.{subst, sym, IfOk}
use Rattle.sql_script.specs.Turns.{AreTurnsOf}
use Rattle.sql_script.proofs.script.SqlScript.turns_for.Goals as goal

pub returns-then-works : goal.returns-then-works
returns-then-works c =
    subst (λ works. IfOk c.turns_at_work.result (λ turns. AreTurnsOf c.args.database works c.args.text.now turns.items)) (sym c.if-works.true) c.turns_at_work.ensures

pub returns-else-works : goal.returns-else-works
returns-else-works c =
    subst (λ works. IfOk c.turns_of.result (λ turns. AreTurnsOf c.args.database works c.args.text.now turns.items)) (sym c.if-works.false) c.turns_of.ensures
