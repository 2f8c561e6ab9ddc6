use Rattle.std.proofs.Common.{◌≢◌, ◌∙◌, ap, sym, arith, rules}
use Rattle.std.specs.Prelude.{slice_index_or}
use Rattle.lock_script.proofs.Lemmas.Defects.{of_err, texts, means_nothing}
use Rattle.lock_script.proofs.Lemmas.Commands.{command-Addresses, command-NamesCounter, command-NamesFree}
use Rattle.lock_script.proofs.command.parse.Goals as goal

pub returns-clause-addressed : goal.returns-clause-addressed
returns-clause-addressed g c = command-Addresses c.args.sessions.now c.args.objects.now _ _ c.in_ok-command.command c.in_ok-command.ensures.meaning

pub returns-clause-counter : goal.returns-clause-counter
returns-clause-counter g c = command-NamesCounter c.args.sessions.now c.args.objects.now _ _ c.in_ok-command.command c.in_ok-command.ensures.meaning

pub returns-clause-free : goal.returns-clause-free
returns-clause-free g c = command-NamesFree c.args.sessions.now c.args.objects.now _ _ c.in_ok-command.command c.in_ok-command.ensures.meaning

pub returns-in_err-command-clause-refused : goal.returns-in_err-command-clause-refused
returns-in_err-command-clause-refused g c =
    let first : slice_index_or c.in-Some.verb.now.now 0 0 ≢ 35 = first_of (search rules, grind arith) in
    of_err _ c.from_residual.result c.in_err-command.field-0.0 c.from_residual.ensures.1
    (means_nothing c.args.sessions.now c.args.objects.now _ c.in-Some.verb.now.now _ c.in_err-command.field-0.0
    (sym c.split_words-words.ensures ∙ ap texts (sym c.as_slice.ensures.value ∙ c.in-Some.ensures.cases.0))
    first c.in_err-command.ensures.refused)
