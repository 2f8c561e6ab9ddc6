use Rattle.std.specs.Prelude.{◌≤◌}
use Rattle.lock_hammer.specs.declared.size.Hammer.{Hammer}
use Rattle.modes_core.specs.Sessions.{usual_sessions}

-- A hammer of this size can be played: 1 to 64 sessions, with 1 to 1,000,000 rounds each.
pub record IsPlayable (hammer : Hammer) : Type 0 where
  pub some_sessions : 1 ≤ hammer.sessions
  pub few_sessions : hammer.sessions ≤ usual_sessions
  pub some_rounds : 1 ≤ hammer.rounds
  pub few_rounds : hammer.rounds ≤ 1000000
