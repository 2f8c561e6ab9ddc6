use Rattle.std.proofs.Common.{arith}
use Rattle.lock_script.specs.declared.commands.WordKind.TheVariants.{CallerName, OpenName}
use Rattle.lock_script.proofs.Lemmas.Defects.{of_err, both-named, caller-right, second_wrong}
use Rattle.lock_script.proofs.command.parse_cancel.Goals as goal

pub returns-in_err-other-clause-refused : goal.returns-in_err-other-clause-refused
returns-in_err-other-clause-refused g c =
    of_err _ c.from_residual-in_err-other.result c.in_err-other.field-0.0 c.from_residual-in_err-other.ensures.1
    (λ objects. second_wrong c.args.sessions.now objects CallerName OpenName c.args.words.now _ _ c.in_err-other.field-0.0 (λ _ _. tt) (omega arith)
    (caller-right c.args.sessions.now _ c.in_ok-by.by c.in_ok-by.ensures.named) c.in_err-other.ensures.refused)

pub returns-clause-named : goal.returns-clause-named
returns-clause-named g c =
    both-named c.args.sessions.now c.args.words.now _ _ c.in_ok-by.by c.in_ok-other.other (omega arith) c.in_ok-by.ensures.named c.in_ok-other.ensures.named
