use Rattle.std.specs.Prelude.{◌≤◌}
use Rattle.lock_manager.specs.declared.config.Config.{Config}
use Rattle.modes_core.specs.Sessions.{usual_sessions}

-- A script can have a lock manager of this size: it may open 1 to 64 sessions, with 1 to 65,536 local entries
-- each.
pub record IsForManager (config : Config) : Type 0 where
  pub some_sessions : 1 ≤ config.sessions
  pub few_sessions : config.sessions ≤ usual_sessions
  pub some_local : 1 ≤ config.max_local
  pub few_local : config.max_local ≤ 65536
