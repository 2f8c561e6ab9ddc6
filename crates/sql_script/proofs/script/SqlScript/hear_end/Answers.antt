use Rattle.std.proofs.Common.{refl}
use Rattle.sql_script.proofs.script.SqlScript.hear_end.Goals as goal

pub returns-in-Ok : goal.returns-in-Ok
returns-in-Ok c = (
  record { session = c.in_ok-session.session; turns = c.in-Ok.turns },
  refl,
  c.in_ok-session.ensures.ok,
  (c.in_ok-database.database, c.in_ok-database.ensures, c.in-Ok.ensures),
)
