use Rattle.std.specs.Prelude.{◌≡◌, ℕ, List, [], map, if◌then◌else◌}
use Rattle.modes_core.specs.declared.modes.Mode.{Mode}
use Rattle.lock_table.specs.declared.moves.Move.{Move}
use Rattle.lock_model.specs.declared.machine.moved_part.MovedPart.{MovedPart}
use Rattle.lock_table.specs.Content.{Wait}
use Rattle.lock_table.specs.Moves.{Moves}
use Rattle.lock_table.specs.PartView.{PartView, content_of}
use Rattle.lock_table.specs.Waiter.{whose_and_mode}

-- whom the move granted: those of the wakeup by which it ended, if it did
abbrev pub woken_by : MovedPart → List (ℕ × Mode)
woken_by moved = if moved.wakes then moved.part.woken else []

-- The part was moved: this is what the session's move makes of it, with those named whom the move granted.
pub record IsMoved (before : PartView) (session : ℕ) (done : Move) (after : MovedPart) : Type 0 where
  pub granted : List Wait
  pub moves : Moves (content_of before) session done granted (content_of after.part)
  pub named : woken_by after ≡ map whose_and_mode granted
  pub begun : after.part.begun ≡ before.begun
