use Rattle.std.specs.Prelude.{◌≡◌, ◌⊎◌, ◌&&◌, ℕ, ◌<◌, nat_le, Bool, true, List, [], ◌∷◌, ◌++◌, length, map, All, Option, Some, None, slice_set}
use Rattle.std.specs.List.{HoldsAt}
use Rattle.modes_core.specs.declared.modes.Mode.{Mode}
use Rattle.wait_queue.specs.declared.queues.Blocker.{Blocker}
use Rattle.modes_core.specs.declared.refusals.How.{How}
use Rattle.lock_manager.specs.declared.blocked.Blocked.{Blocked}
use Rattle.lock_script.specs.declared.names.Names.{Names}
use Rattle.scenario.specs.declared.summary.Obstacle.{Obstacle}
use Rattle.scenario.specs.declared.summary.WaitEnd.{WaitEnd}
use Rattle.scenario.specs.declared.summary.WaitRow.{WaitRow}
use Rattle.scenario.specs.Texts.{name_in}

-- The rows of a summary.

-- who is in the way of a wait, by which mode, and how, by a blocker that the library found
abbrev pub obstacle_in : Names → Blocker → List ℕ × Mode × How
obstacle_in names it = (name_in names it.session, it.mode, it.how)

-- who is in the way of a wait, by which mode, and how, by an obstacle of the summary
abbrev pub shown_obstacle : Obstacle → List ℕ × Mode × How
shown_obstacle it = (it.session.bytes, it.mode, it.how)

-- A wait that begins is the last row: whose it is, since which line, for what, and those in its way.
pub record BeginsRow (names : Names) (line : ℕ) (told : Blocked) (old new : List WaitRow) : Type 0 where
  pub row : WaitRow
  pub session : row.session.bytes ≡ name_in names told.session
  pub from : row.from ≡ line
  pub waits : row.ended ≡ None
  pub tag : row.tag ≡ told.tag
  pub mode : row.mode ≡ told.mode
  pub behind : map shown_obstacle row.behind.items ≡ map (obstacle_in names) told.blockers.items
  pub last : new ≡ old ++ row ∷ []

-- The row is of a wait of the session of this name that has not ended.
abbrev pub IsOpen : List ℕ → WaitRow → Type 0
IsOpen name row = (row.ended ≡ None) × (row.session.bytes ≡ name)

-- A wait of that session ends at this line, by a grant or not; all other rows are as they were. Or it has
-- none that has not ended.
abbrev pub EndsRow : List ℕ → ℕ → Bool → List WaitRow → List WaitRow → Type 0
EndsRow name line granted old new =
    (All (λ row. IsOpen name row → ⊥) old × (new ≡ old))
    ⊎ ((place : ℕ) × (place < length old) × HoldsAt (IsOpen name) old place
    × HoldsAt (λ row. new ≡ slice_set old place (record row { ended = Some (record { line = line; granted = granted }) })) old place)

-- whether a wait that began at this line has ended at none before it
abbrev pub ends_behind : ℕ → Option WaitEnd → Bool
ends_behind from None = true
ends_behind from (Some end) = nat_le from end.line

-- whether the row's wait began at a line that was read, the last one or one before, and has ended at none
-- before that
abbrev pub is_in_time : ℕ → WaitRow → Bool
is_in_time read row = nat_le row.from read && ends_behind row.from row.ended
