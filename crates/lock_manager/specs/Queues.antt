use Rattle.std.specs.Prelude.{◌≡◌, ℕ, List, [], ◌∷◌, ◌++◌, map}
use Rattle.modes_core.specs.declared.tags.Tag.{Tag}
use Rattle.modes_core.specs.Tag.{partition_of}
use Rattle.lock_table.specs.declared.waits.Waiter.{Waiter}
use Rattle.lock_table.specs.Content.{Content}
use Rattle.lock_table.specs.Waiter.{shown_wait}
use Rattle.lock_world.specs.World.{TraceEntry, Took, Episode}
use Rattle.wait_queue.specs.declared.queues.Blocker.{Blocker}
use Rattle.wait_queue.specs.Queues.{blockers_in}

-- Looks at an object's queue, as the session's trace has them.

-- One episode in the object's partition, which leaves the content as it was taken, shows something of that
-- content.
pub record LooksAt (Shows : Content → Type 0) (before : List TraceEntry) (tag : Tag) (after : List TraceEntry) : Type 0 where
  pub taken : Content
  pub shown : Shows taken
  pub trace : after ≡ before ++ Took (partition_of tag) taken ∷ Episode (partition_of tag) taken taken ∷ []

-- The rows are the waits on the object, in the order of its queue.
abbrev pub IsQueue : Tag → List Waiter → Content → Type 0
IsQueue tag rows content = map shown_wait rows ≡ content.waits tag

-- These are just those who are in the way of the session's wait on the object.
abbrev pub AreBlockers : Tag → ℕ → List Blocker → Content → Type 0
AreBlockers tag session found content = found ≡ blockers_in content tag session
