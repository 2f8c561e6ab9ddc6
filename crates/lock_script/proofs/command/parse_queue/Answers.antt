use Rattle.std.proofs.Common.{arith, ◌∙◌, sym}
use Rattle.lock_script.specs.declared.commands.WordKind.TheVariants.{CallerName, TagWord}
use Rattle.lock_script.specs.declared.faults.Defect.TheVariants.{BadObject}
use Rattle.lock_script.proofs.Lemmas.Defects.{of_err, no_value, caller-right, second_wrong}
use Rattle.lock_script.proofs.command.parse_queue.Goals as goal

pub returns-in_err-object-clause-refused : goal.returns-in_err-object-clause-refused
returns-in_err-object-clause-refused g c =
    let none = no_value c.parse_object.result c.in_err-object.field-0.0 BadObject c.in_err-object.ensures.value in
    of_err _ c.from_residual-in_err-object.result c.in_err-object.field-0.0 c.from_residual-in_err-object.ensures.1
    (second_wrong c.args.sessions.now c.args.objects.now CallerName TagWord c.args.words.now _ _ c.in_err-object.field-0.0 (λ _ _. tt) (omega arith)
    (caller-right c.args.sessions.now _ c.in_ok-caller.caller c.in_ok-caller.ensures.named) (none.0, sym c.parse_object.ensures ∙ none.1))
