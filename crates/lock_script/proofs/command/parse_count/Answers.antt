use Rattle.std.proofs.Common.{arith, ◌∙◌, sym}
use Rattle.lock_script.specs.declared.commands.WordKind.TheVariants.{CallerName, CounterIndex}
use Rattle.lock_script.specs.declared.faults.Defect.TheVariants.{BadNumber}
use Rattle.lock_script.proofs.Lemmas.Defects.{of_err, no_value, caller-right, second_wrong}
use Rattle.lock_script.proofs.command.parse_count.Goals as goal

pub returns-in_err-index-clause-refused : goal.returns-in_err-index-clause-refused
returns-in_err-index-clause-refused g c =
    let none = no_value c.parse_strong_index.result c.in_err-index.field-0.0 BadNumber c.in_err-index.ensures.value in
    of_err _ c.from_residual-in_err-index.result c.in_err-index.field-0.0 c.from_residual-in_err-index.ensures.1
    (λ objects. second_wrong c.args.sessions.now objects CallerName CounterIndex c.args.words.now _ _ c.in_err-index.field-0.0 (λ _ _. tt) (omega arith)
    (caller-right c.args.sessions.now _ c.in_ok-caller.caller c.in_ok-caller.ensures.named) (none.0, sym c.parse_strong_index.ensures.value ∙ none.1))
