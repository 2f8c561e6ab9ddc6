use Rattle.std.specs.Prelude.{ℕ, zero, suc, Bool, ◌==◌, ◌&&◌, if◌then◌else◌, List, [], ◌∷◌, ◌++◌, Option, Some, None}
use Rattle.std.specs.List.{before_first, flat_map}
use Rattle.modes_core.specs.declared.modes.Mode.{Mode}
use Rattle.modes_core.specs.declared.refusals.How.TheVariants.{Held, Awaited}
use Rattle.modes_core.specs.declared.tags.Tag.{Tag}
use Rattle.modes_core.specs.Conflict.{conflict}
use Rattle.modes_core.specs.ModeSet.{all_modes}
use Rattle.lock_table.specs.Content.{Wait, Content}
use Rattle.lock_table.specs.Queue.{wait_in}
use Rattle.wait_queue.specs.declared.queues.Blocker.{Blocker}
use Rattle.modes_core.specs.Sessions.{most_sessions}

-- Who is in the way of a session that waits on an object.

-- the waits before the session's own in the queue
abbrev pub ahead_of : List Wait → ℕ → List Wait
ahead_of queue session = before_first (λ wait. wait.session == session) queue

-- a session that holds is in the way once by each mode that is in both sets
abbrev pub by_modes : ℕ → (Mode → Bool) → (Mode → Bool) → List Blocker
by_modes other held against =
    flat_map (λ its. if held its && against its then record { session = other; mode = its; how = Held } ∷ [] else []) all_modes

-- another session is in the way by each mode of the object that it holds and that conflicts with the awaited
-- one; nobody is in its own way
abbrev pub holding_of : Content → Tag → ℕ → Mode → ℕ → List Blocker
holding_of content tag session mode other =
    if other == session then [] else by_modes other (content.holds other tag) (conflict mode)

-- the lists of the numbers below a limit, one after another
unfoldable pub lists_below : ℕ → (ℕ → List Blocker) → List Blocker
lists_below zero lists = []
lists_below (suc limit) lists = lists_below limit lists ++ lists limit

-- the holds of the object in conflicting modes, by the sessions' numbers
abbrev pub holding : Content → Tag → ℕ → Mode → List Blocker
holding content tag session mode = lists_below most_sessions (holding_of content tag session mode)

-- a wait is in the way by its mode, if that conflicts with the awaited one
abbrev pub standing_of : Mode → Wait → List Blocker
standing_of mode wait = if conflict mode wait.mode then record { session = wait.session; mode = wait.mode; how = Awaited } ∷ [] else []

-- the waits among these that are in the way, in their order
abbrev pub standing : List Wait → Mode → List Blocker
standing ahead mode = flat_map (standing_of mode) ahead

-- The holds and waits in the way of a session's wait, if it has one.
abbrev pub blockers_of_wait : Option Wait → Content → Tag → ℕ → List Blocker
blockers_of_wait None content tag session = []
blockers_of_wait (Some wait) content tag session =
    holding content tag session wait.mode ++ standing (ahead_of (content.waits tag) session) wait.mode

-- who is in the way of the session's wait on the object: nobody where it has none there
abbrev pub blockers_in : Content → Tag → ℕ → List Blocker
blockers_in content tag session = blockers_of_wait (wait_in (content.waits tag) session) content tag session
