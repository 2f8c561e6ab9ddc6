use Rattle.std.proofs.Common.{List, ℕ, refl, subst}
use Rattle.sql_script.specs.Turns.{AreTurnsOf}
use Rattle.sql_script.proofs.script.SqlScript.hear_statements.Goals as goal

pub returns-in-Ok : goal.returns-in-Ok
returns-in-Ok c = (
  record { session = c.in_ok-session.session; turns = c.in-Ok.turns },
  refl,
  c.in_ok-session.ensures.ok,
  (
    c.in_ok-database.database,
    c.in_ok-database.ensures,
    subst (λ (text : List ℕ). AreTurnsOf c.in_ok-database.database c.args.works text c.in-Ok.turns.items) c.as_bytes-2.ensures.value c.in-Ok.ensures,
  ),
)
