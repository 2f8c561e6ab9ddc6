use Rattle.std.specs.Prelude.{ℕ, Bool, false, ◌&&◌, List, [], ◌∷◌, Option, Some, None, if◌then◌else◌}
use Rattle.modes_core.specs.declared.modes.Mode.{Mode}
use Rattle.modes_core.specs.declared.tags.Tag.{Tag}
use Rattle.modes_core.specs.Mode.{mode_eq}
use Rattle.modes_core.specs.Tag.{tag_eq}
use Rattle.lock_table.specs.Content.{Wait}

-- A session's wait by its own account: on which object, for which mode, and the modes of the object that it
-- held when it joined.
pub record OwnWait : Type 0 where
  pub tag : Tag
  pub mode : Mode
  pub held : Mode → Bool

-- How far a wait has come: it is in its object's queue; it was granted, and its session hasn't taken the
-- grant over; or its session has taken it out of the queue, and has not closed it yet.
pub data Stage : Type 0 where
  InQueue : Stage
  WasGranted : Stage
  HasLeft : Stage

-- the wait as it is in a queue
abbrev pub entry_of : ℕ → OwnWait → Wait
entry_of session wait = record { session = session; mode = wait.mode; held = wait.held }

-- whether the wait is for the mode on the object
abbrev pub is_for : Option OwnWait → Tag → Mode → Bool
is_for None tag mode = false
is_for (Some wait) tag mode = tag_eq wait.tag tag && mode_eq wait.mode mode

-- Pending grants: whether the wait was granted, for the mode on the object. Its session has that hold in the
-- content, and not yet by its own account.
abbrev pub is_pending : Option OwnWait → Stage → Tag → Mode → Bool
is_pending awaited InQueue tag mode = false
is_pending awaited WasGranted tag mode = is_for awaited tag mode
is_pending awaited HasLeft tag mode = false

-- what the session has in the object's queue by its own account: its wait, or nothing
abbrev pub queued_by : ℕ → Option OwnWait → Stage → Tag → List Wait
queued_by session None stage tag = []
queued_by session (Some wait) InQueue tag = if tag_eq wait.tag tag then entry_of session wait ∷ [] else []
queued_by session (Some wait) WasGranted tag = []
queued_by session (Some wait) HasLeft tag = []
