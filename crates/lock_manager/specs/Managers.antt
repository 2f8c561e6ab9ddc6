use Rattle.std.specs.Prelude.{◌≡◌, ℕ, ◌+◌, ◌-◌, ◌<◌, ◌≤◌, ◌&&◌, nat_le, Bool, List, [], ◌∷◌, length}
use Rattle.atomic_table.specs.Seated.{TableId}
use Rattle.lock_world.specs.SlotHolds.{most_groups}
use Rattle.lock_world.specs.Account.{Account}
use Rattle.lock_world.specs.World.{TraceEntry}
use Rattle.shared_rule.specs.Boards.{Seated, Stack}
use Rattle.shared_rule.specs.declared.history.History.{History}
use Rattle.shared_rule.specs.Openers.{HaveClosed, trace_told}
use Rattle.fast_path.specs.declared.use_counts.UseCounts.{UseCounts}
use Rattle.fast_path.specs.Slots.{count_in}
use Rattle.local_locks.specs.declared.ends.End.TheVariants as end_
use Rattle.local_locks.specs.Owned.{ended_by}
use Rattle.lock_manager.specs.declared.config.Config.{Config}
use Rattle.lock_manager.specs.Keeper.{PartView, content_of}
use Rattle.lock_manager.specs.Releases.{ReleasesAll}
use Rattle.lock_manager.specs.Sessions.{SessionView, IsResting}
use Rattle.modes_core.specs.Sessions.{most_sessions, usual_sessions}

-- What contracts see of a manager and of its opener.

pub record ManagerView : Type 0 where
  pub table : TableId
  -- how many sessions the manager may open, how many groups of fast-path slots each has, and how many local
  -- entries each may have
  pub limit : ℕ
  pub groups : ℕ
  pub max_local : ℕ

-- What contracts see of the opener of a manager: table, sizes, and the sessions that it has given out.
pub record OpenerView : Type 0 where
  pub table : TableId
  pub limit : ℕ
  pub groups : ℕ
  -- how many sessions the opener has given out, how many of these are open, and the histories of those that
  -- have closed, the last one first
  pub issued : ℕ
  pub live : ℕ
  pub closed : List (History PartView)

-- whether a manager with this many sessions at most can have as many sessions, local entries and groups of
-- slots as the configuration says
abbrev pub is_within : ℕ → Config → Bool
is_within most config =
    nat_le 1 config.sessions && (nat_le config.sessions most &&
    (nat_le 1 config.max_local && (nat_le config.max_local 65536 &&
    (nat_le 1 config.slot_groups && nat_le config.slot_groups most_groups))))

-- whether a manager can be as the configuration says that is not made for a server
abbrev pub is_in_range : Config → Bool
is_in_range = is_within usual_sessions

-- whether a server's manager can be as the configuration says
abbrev pub is_in_server_range : Config → Bool
is_in_server_range = is_within most_sessions

-- The manager's size where nothing else is said.
abbrev pub IsUsual : Config → Type 0
IsUsual config = config ≡ record { sessions = usual_sessions; max_local = 1024; slot_groups = 1 }

-- The opener is the manager's.
pub record IsOpenerOf (opener : OpenerView) (manager : ManagerView) : Type 0 where
  pub table : opener.table ≡ manager.table
  pub limit : opener.limit ≡ manager.limit
  pub groups : opener.groups ≡ manager.groups

-- A manager of this size with no session yet, and its opener.
pub record IsNew (manager : ManagerView) (opener : OpenerView) (config : Config) : Type 0 where
  pub opener_of : IsOpenerOf opener manager
  pub limit : manager.limit ≡ config.sessions
  pub groups : manager.groups ≡ config.slot_groups
  pub max_local : manager.max_local ≡ config.max_local
  pub issued : opener.issued ≡ 0
  pub live : opener.live ≡ 0
  pub none_closed : opener.closed ≡ []

-- What is always so of an opener: it has given out no more than it may, and each that it has given out is
-- open, or has closed, once.
pub record IsCounted (issued limit live : ℕ) (closed : List (History PartView)) : Type 0 where
  pub have_closed : HaveClosed issued closed
  pub all : live + length closed ≡ issued
  pub issued_within : issued ≤ limit
  pub few : limit ≤ most_sessions

-- The opener has taken a session of this number back, with this trace.
pub record TakesBack (number : ℕ) (trace : List TraceEntry) (old new : OpenerView) : Type 0 where
  pub history : History PartView
  pub number_ : history.number ≡ number
  pub trace_ : trace_told content_of history ≡ trace
  pub opener : new ≡ record old { live = old.live - 1; closed = history ∷ old.closed }

module _ {B : Type 0} (seat : B → Seated) (view : B → Account) (stack : B → Stack) where
  -- A session that the opener has just given out, for this database: it has the next number, holds nothing,
  -- has no slot in use and has made no step, and one local entry needs no memory.
  pub record IsOpened (opener : OpenerView) (manager : ManagerView) (database : ℕ) (session : SessionView B) : Type 0 where
    pub number : (seat session.board).number ≡ opener.issued
    pub limit : (seat session.board).limit ≡ opener.limit
    pub groups : (seat session.board).groups ≡ opener.groups
    pub table : (seat session.board).table ≡ opener.table
    pub database_ : session.database ≡ database
    pub no_slot : (group : ℕ) → count_in session.uses group ≡ 0
    pub nothing : session.owned.entries ≡ []
    pub first_level : session.owned.outer ≡ []
    pub room : 0 < session.owned.room
    pub max_local : session.owned.max_local ≡ manager.max_local
    pub no_step : (view session.board).trace ≡ []
    pub rest : IsResting seat view stack session

  -- A session has closed: all that it held was released, in the order of making, and it made no other step.
  -- The opener has its history, with its number and its trace.
  pub record HasClosed (session : SessionView B) (old new : OpenerView) : Type 0 where
    pub last : Account
    pub left : UseCounts
    pub released : ReleasesAll (seat session.board).groups (seat session.board).number (view session.board) session.uses
        (ended_by end_.Close session.owned.entries) last left
    pub opener : TakesBack (seat session.board).number last.trace old new
