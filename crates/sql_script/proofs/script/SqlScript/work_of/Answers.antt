use Rattle.std.proofs.Common.{◌∙◌, ap}
use Rattle.std.specs.Option.{option_and_then}
use Rattle.sql_script.proofs.script.SqlScript.work_of.Goals as goal

pub returns-in-Some : goal.returns-in-Some
returns-in-Some c = c.as_ref.ensures.value ∙ ap (λ session. option_and_then (λ it. it.work) session) c.in-Some.ensures

pub returns-in-None : goal.returns-in-None
returns-in-None c = ap (λ session. option_and_then (λ it. it.work) session) c.in-None.ensures
