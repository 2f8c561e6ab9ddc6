use Rattle.std.specs.Prelude.{Bool, List}
use Rattle.sql_script.specs.declared.sessions.ScriptSession.{ScriptSession}

-- What is known of the SQL of a script: whether a schema is read, and the sessions, in the order in which
-- they were opened.
pub record Known : Type 0 where
  pub in_schema : Bool
  pub sessions : List ScriptSession
