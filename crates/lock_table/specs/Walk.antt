use Rattle.std.specs.Prelude.{◌≡◌, ◌≤◌, Bool, true, false, List, length, take, slice_get, option_map, IfSome}
use Rattle.std.specs.List.{list_any}
use Rattle.modes_core.specs.declared.modes.Mode.{Mode}
use Rattle.modes_core.specs.ModeSet.{set_has}
use Rattle.lock_table.specs.Content.{Wait}
use Rattle.lock_table.specs.Queue.{conflicts_with_some, some_awaits_conflict}
use Rattle.lock_table.specs.Waiter.{shown_wait}
use Rattle.lock_table.specs.declared.answering.walk.Walk.{Walk}

-- None of these waits is for a mode that conflicts with one of the set.
abbrev pub NoneAgainst : (Mode → Bool) → List Wait → Type 0
NoneAgainst set waits = list_any (λ wait. conflicts_with_some wait.mode set) waits ≡ false

-- The set stands for these waits: a mode conflicts with one of the set exactly where some of them awaits a
-- mode in conflict with it.
abbrev pub StandFor : (Mode → Bool) → List Wait → Type 0
StandFor set waits = (mode : Mode) → conflicts_with_some mode set ≡ some_awaits_conflict waits mode

-- A walk along the queue, up to the first waiter whose mode conflicts with one of the set: it passed those
-- before its place, and stands for them by the modes that they await; the waiter at its place, if one is
-- there, ended it.
pub record WalksUntil (set : Mode → Bool) (queue : List Wait) (walk : Walk) : Type 0 where
  pub within : walk.place ≤ length queue
  pub passed : NoneAgainst set (take walk.place queue)
  pub ahead : StandFor (set_has walk.ahead) (take walk.place queue)
  pub met : option_map shown_wait walk.met ≡ slice_get queue walk.place
  pub against : IfSome walk.met (λ waiter. conflicts_with_some waiter.mode set ≡ true)
