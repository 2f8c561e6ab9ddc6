use Rattle.std.specs.Prelude.{◌≡◌, ℕ, ◌<◌, true, List}
use Rattle.modes_core.specs.declared.tags.Tag.{Tag}
use Rattle.lw_word.specs.declared.wait_lists.LwWaiter.{LwWaiter}
use Rattle.lw_word.specs.WaitList.{stands_in}
use Rattle.lock_table.specs.Content.{Content}
use Rattle.lock_table.specs.Queue.{waits_there}

-- Who can wait where sessions have numbers below a limit: one of them.

-- All who stand in this wait list have numbers below this one.
abbrev pub WaitersExist : ℕ → List LwWaiter → Type 0
WaitersExist sessions waiters = (session : ℕ) → stands_in session waiters ≡ true → session < sessions

-- All who wait in the queues of this content have numbers below this one.
abbrev pub WaitsExist : ℕ → Content → Type 0
WaitsExist sessions content =
    (session : ℕ) (tag : Tag) → waits_there (content.waits tag) session ≡ true → session < sessions
