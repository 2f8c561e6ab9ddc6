use Rattle.std.proofs.Common.{arith, ◌∙◌, sym}
use Rattle.lock_script.specs.declared.faults.Defect.TheVariants.{BadObject}
use Rattle.lock_script.proofs.Lemmas.Defects.{of_err, no_value, some_value, blocked-named, caller-right, open-right, second_of_three, third_of_three}
use Rattle.lock_script.proofs.command.parse_blockers.Goals as goal

pub returns-in_err-other-clause-refused : goal.returns-in_err-other-clause-refused
returns-in_err-other-clause-refused g c =
    of_err _ c.from_residual-in_err-other.result c.in_err-other.field-0.0 c.from_residual-in_err-other.ensures.1
    (second_of_three c.args.sessions.now c.args.objects.now c.args.words.now _ _ c.in_err-other.field-0.0 (omega arith)
    (caller-right c.args.sessions.now _ c.in_ok-by.by c.in_ok-by.ensures.named) c.in_err-other.ensures.refused)

pub returns-in_err-object-clause-refused : goal.returns-in_err-object-clause-refused
returns-in_err-object-clause-refused g c =
    let none = no_value c.parse_object.result c.in_err-object.field-0.0 BadObject c.in_err-object.ensures.value in
    of_err _ c.from_residual-in_err-object.result c.in_err-object.field-0.0 c.from_residual-in_err-object.ensures.1
    (third_of_three c.args.sessions.now c.args.objects.now c.args.words.now _ _ _ c.in_err-object.field-0.0 (omega arith)
    (caller-right c.args.sessions.now _ c.in_ok-by.by c.in_ok-by.ensures.named)
    (open-right c.args.sessions.now _ c.in_ok-other.other c.in_ok-other.ensures.named)
    (none.0, sym c.parse_object.ensures ∙ none.1))

pub returns-clause-named : goal.returns-clause-named
returns-clause-named g c =
    let tag = some_value c.parse_object.result c.in_ok-object.object BadObject c.in_ok-object.ensures.value in
    blocked-named c.args.sessions.now c.args.objects.now c.args.words.now _ _ _ c.in_ok-by.by c.in_ok-other.other c.in_ok-object.object (omega arith)
    c.in_ok-by.ensures.named c.in_ok-other.ensures.named (sym c.parse_object.ensures ∙ tag)
