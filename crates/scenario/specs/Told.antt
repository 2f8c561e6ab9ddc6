use Rattle.std.specs.Prelude.{ℕ, Bool, Result, Ok, Err}
use Rattle.std.specs.Global.{Vec}
use Rattle.arrayvec.specs.declared.array_string.ArrayString.{ArrayString}
use Rattle.modes_core.specs.declared.modes.Mode.{Mode}
use Rattle.modes_core.specs.declared.refusals.Refusal.{Refusal}
use Rattle.local_locks.specs.declared.answers.Acquired.{Acquired}
use Rattle.local_locks.specs.declared.answers.Unlocked.{Unlocked}
use Rattle.lock_table.specs.declared.waits.Waiter.{Waiter}
use Rattle.wait_queue.specs.declared.queues.Blocker.{Blocker}
use Rattle.lock_manager.specs.declared.waiting.Asked.{Asked}
use Rattle.lock_manager.specs.declared.waiting.Asked.TheVariants as asked
use Rattle.lock_manager.specs.declared.listing.Listing.{Listing}
use Rattle.scenario.specs.declared.answers.Said.TheVariants as said
use Rattle.scenario.specs.declared.answers.Row.TheVariants as row
use Rattle.scenario.specs.declared.answers.Answer.{Answer}
use Rattle.scenario.specs.declared.answers.Answer.TheVariants as answer

-- What the session of this name is told of an acquire, by what the library's call answered.

abbrev pub acquire_told : ArrayString 16 → Result Acquired Refusal → Answer
acquire_told name (Ok acquired) = answer.Said name (said.Acquired acquired)
acquire_told name (Err refusal) = answer.Said name (said.Refused refusal)

-- What the session of this name is told of a release of the mode.
abbrev pub unlock_told : ArrayString 16 → Mode → Result Unlocked Refusal → Answer
unlock_told name mode (Ok unlocked) = answer.Said name (said.Unlocked unlocked)
unlock_told name mode (Err refusal) = answer.Said name (said.NotOwned mode)

-- What the session of this name is told of a look whether somebody waits for what it holds in the mode.
abbrev pub waiters_told : ArrayString 16 → Mode → Result Bool Refusal → Answer
waiters_told name mode (Ok is_awaited) = answer.Said name (said.Waiters is_awaited)
waiters_told name mode (Err refusal) = answer.Said name (said.NotOwned mode)

-- What the session of this name is told of a call that changes the level of its transaction.
abbrev pub level_told : ArrayString 16 → Result ℕ Refusal → Answer
level_told name (Ok level) = answer.Said name (said.Level level)
level_told name (Err refusal) = answer.Said name (said.Refused refusal)

-- What the session of this name is told once it asked the other one to cancel.
abbrev pub cancel_told : ArrayString 16 → ArrayString 16 → Asked → Answer
cancel_told name other asked.Waiting = answer.Said name (said.Asked other)
cancel_told name other asked.NotWaiting = answer.Row (row.NotWaiting other)

-- What the session of this name is told of a listing.
abbrev pub list_told : ArrayString 16 → Result Listing Refusal → Answer
list_told name (Ok listing) = answer.Listing listing
list_told name (Err refusal) = answer.Said name (said.Refused refusal)

-- What the session of this name is told of a look at a queue.
abbrev pub queue_told : ArrayString 16 → Result (Vec Waiter) Refusal → Answer
queue_told name (Ok rows) = answer.Queue rows
queue_told name (Err refusal) = answer.Said name (said.Refused refusal)

-- What the session of this name is told of a look at those in the way of the other one.
abbrev pub blockers_told : ArrayString 16 → ArrayString 16 → Result (Vec Blocker) Refusal → Answer
blockers_told name other (Ok found) = answer.Blockers other found
blockers_told name other (Err refusal) = answer.Said name (said.Refused refusal)
