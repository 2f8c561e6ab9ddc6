use Rattle.std.specs.Prelude.{◌≡◌, ℕ, true, false, List}
use Rattle.modes_core.specs.declared.modes.Mode.{Mode}
use Rattle.modes_core.specs.declared.tags.Tag.{Tag}
use Rattle.modes_core.specs.Conflict.{conflict}
use Rattle.local_locks.specs.declared.records.Entry.{Entry}
use Rattle.modes_core.specs.declared.sessions.Owner.{Owner}
use Rattle.local_locks.specs.Owned.{Owned, has_entry, with_one_more, IsWellOwned}
use Rattle.lock_world.specs.Account.{Account}
use Rattle.shared_rule.specs.Boards.{Seated, Stack}
use Rattle.shared_rule.specs.Quiet.{Quiet}
use Rattle.fast_path.specs.declared.use_counts.UseCounts.{UseCounts}
use Rattle.lock_manager.specs.declared.sessions.Own.{Own}
use Rattle.lock_manager.specs.Rest.{IsAtRest}

-- What contracts see of a session: its board, its database, the use counts of its fast-path slots, and what
-- it owns.
pub record SessionView (B : Type 0) : Type 0 where
  pub board : B
  pub database : ℕ
  pub uses : UseCounts
  pub owned : Owned

-- A call keeps whose session it is made on: its seat, its database, and how many entries it may have. What it
-- owns is well owned after it.
pub record KeepsOwn (seat : Seated) (old : Own) (seat_after : Seated) (new : Own) : Type 0 where
  pub seat_ : seat_after ≡ seat
  pub database : new.database ≡ old.database
  pub max_local : new.locals.max_local ≡ old.locals.max_local
  pub well_owned : IsWellOwned new.locals

-- What the session awaited is entered once more for the owner, and all else that it owns is as it was.
pub record GainsAwaited (old : Owned) (tag : Tag) (mode : Mode) (owner : Owner) (new : Owned) : Type 0 where
  pub entries : new.entries ≡ with_one_more old.entries tag mode owner
  pub max_local : new.max_local ≡ old.max_local
  pub levels : new.outer ≡ old.outer
  pub well_owned : IsWellOwned new

-- No entry of the one is of a mode that conflicts with the mode of an entry of the other on the same object.
abbrev pub DontConflict : List Entry → List Entry → Type 0
DontConflict entries its_entries =
    (tag : Tag) (mode its : Mode) → has_entry entries tag mode ≡ true → has_entry its_entries tag its ≡ true
    → conflict mode its ≡ false

-- Sessions by what their boards show.
module _ {B : Type 0} (seat : B → Seated) (view : B → Account) (stack : B → Stack) where
  -- The session is in no call.
  abbrev pub IsResting : SessionView B → Type 0
  IsResting session =
      IsAtRest (seat session.board).groups (seat session.board).limit session.database session.uses
      (view session.board) (stack session.board) session.owned.entries

  -- The session is the same one after a call, and in no other call.
  pub record IsSame (old new : SessionView B) : Type 0 where
    pub seat_ : seat new.board ≡ seat old.board
    pub database : new.database ≡ old.database
    pub max_local : new.owned.max_local ≡ old.owned.max_local
    pub rest : IsResting new

-- The session is as it was: nothing of it has changed, nor has it made a step, be it a quiet one.
pub record IsUnchanged {B : Type 0} (seat : B → Seated) (view : B → Account) (stack : B → Stack) (quiet : B → List Quiet)
    (old new : SessionView B) : Type 0 where
  pub seat_ : seat new.board ≡ seat old.board
  pub view_ : view new.board ≡ view old.board
  pub stack_ : stack new.board ≡ stack old.board
  pub quiet_ : quiet new.board ≡ quiet old.board
  pub database : new.database ≡ old.database
  pub uses : new.uses ≡ old.uses
  pub owned : new.owned ≡ old.owned
