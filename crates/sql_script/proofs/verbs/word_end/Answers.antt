use Rattle.std.proofs.Common.{ap}
use Rattle.std.specs.Prelude.{length}
use Rattle.std.specs.Option.{unwrap_or}
use Rattle.std.proofs.lemmas.Str.{IsCharBoundary-before_ascii}
use Rattle.sql_script.proofs.Lemmas.Words.{first_space-below, first_space-within}
use Rattle.sql_script.proofs.verbs.word_end.Goals as goal

pub returns-in-Some-clause-end : goal.returns-in-Some-clause-end
returns-in-Some-clause-end c = ap (λ place. unwrap_or place (length c.args.text.now)) c.in-Some.ensures

pub returns-in-None-clause-end : goal.returns-in-None-clause-end
returns-in-None-clause-end c = ap (λ place. unwrap_or place (length c.args.text.now)) c.in-None.ensures

pub returns-in-Some-clause-boundary : goal.returns-in-Some-clause-boundary
returns-in-Some-clause-boundary c =
    IsCharBoundary-before_ascii c.args.text.now c.in-Some.end (first_space-within c.args.text.now c.in-Some.end c.in-Some.ensures)
    (first_space-below c.args.text.now c.in-Some.end c.in-Some.ensures)
