use Rattle.std.specs.Prelude.{◌≡◌, All, List}
use Rattle.shared_rule.specs.Boards.{Seated}
use Rattle.lock_manager.specs.Managers.{ManagerView}
use Rattle.lock_manager.specs.Sessions.{SessionView}

-- What a program says of the sessions that its functions take and lend, by the seats of their boards.

module _ {B : Type 0} (seat : B → Seated) where
  -- The session is the same one of the same manager. A function that borrows a session ensures it, so that
  -- its caller can close it.
  abbrev pub KeepsSeat : SessionView B → SessionView B → Type 0
  KeepsSeat old new = seat new.board ≡ seat old.board

  -- The session is this manager's.
  abbrev pub IsOf : ManagerView → SessionView B → Type 0
  IsOf manager session = (seat session.board).table ≡ manager.table

  -- Each session of a list is this manager's.
  abbrev pub AreOf : ManagerView → List (SessionView B) → Type 0
  AreOf manager sessions = All (λ (session : SessionView B). (seat session.board).table ≡ manager.table) sessions

  -- A desk sees the seats that the boards of sessions have.
  abbrev pub SeatsAre : (SessionView B → Seated) → Type 0
  SeatsAre its_seat = (session : SessionView B) → its_seat session ≡ seat session.board
