use Rattle.std.specs.Prelude.{◌≡◌, ◌≤◌, ℕ, List, [], ◌∷◌}
use Rattle.lock_world.specs.Account.{Account}
use Rattle.lock_world.specs.AccountSteps.{account_storing}
use Rattle.shared_rule.specs.Boards.{Seated, Stack}
use Rattle.shared_rule.specs.Quiet.{Quiet, StoresDatabase}
use Rattle.local_locks.specs.declared.ends.End.TheVariants.{Close}
use Rattle.local_locks.specs.Owned.{ended_by}
use Rattle.lock_manager.specs.declared.sessions.Own.{Own}
use Rattle.lock_manager.specs.Quiet.{QuietOfReleases}
use Rattle.lock_manager.specs.Releases.{ReleasesAll}
use Rattle.lock_manager.specs.Sessions.{SessionView, IsResting}

-- A session that goes on to serve somebody else, under the number that it has.

-- the session of this board that has this of its own
abbrev pub session_of : {B : Type 0} → B → Own → SessionView B
session_of board own = record { board = board; database = own.database; uses = own.uses; owned = own.locals }

-- All that it held was released, in the order of making, then its database was stored, and it made no other
-- step. It owns nothing, at the first level of a transaction, and has its number, its place at the table, its
-- limit of local entries and its slots for them as before.
pub record ServesNext {B : Type 0} (seat : B → Seated) (view : B → Account) (stack : B → Stack) (quiet : B → List Quiet)
    (database : ℕ) (session next : SessionView B) : Type 0 where
  pub last : Account
  pub released : ReleasesAll (seat session.board).groups (seat session.board).number (view session.board) session.uses
      (ended_by Close session.owned.entries) last next.uses
  pub quiet_last : List Quiet
  pub quiet_ : QuietOfReleases (seat session.board).groups (seat session.board).number (view session.board)
      session.uses (ended_by Close session.owned.entries) last next.uses (quiet session.board) quiet_last
  pub quiet_stored : quiet next.board ≡ StoresDatabase database ∷ quiet_last
  pub stored : view next.board ≡ account_storing last database
  pub seat_ : seat next.board ≡ seat session.board
  pub database_ : next.database ≡ database
  pub nothing : next.owned.entries ≡ []
  pub first_level : next.owned.outer ≡ []
  pub max_local : next.owned.max_local ≡ session.owned.max_local
  pub room : session.owned.room ≤ next.owned.room
  pub slots : next.owned.slots ≡ session.owned.slots
  pub rest : IsResting seat view stack next
