use Rattle.std.specs.Prelude.{ℕ, Bool, false, ◌&&◌, None, is_none, slice_index_or}
use Rattle.lock_model.specs.declared.machine.state.Machine.{Machine}
use Rattle.lw_word.specs.LockState.{LockState}
use Rattle.lock_model.specs.Shows.{makes_steps, is_number}

-- What the machine looks at before a step on the bits and the flags of a lightweight word.

-- whether the session may lock a wait list that nobody has
abbrev pub may_lock_list : Machine → ℕ → Bool
may_lock_list machine session = makes_steps machine session && is_none (slice_index_or machine.lists.has_list session None)

-- whether the session makes steps, and has locked the wait list of this lock
abbrev pub has_list : Machine → ℕ → ℕ → Bool
has_list machine session lock = makes_steps machine session && is_number lock (slice_index_or machine.lists.has_list session None)

-- what the word says once its wait list is unlocked: has-waiters and release-ok remain set only where they
-- are to
abbrev pub unlocked_in : LockState → Bool → Bool → LockState
unlocked_in state has_waiters release_ok =
    record state { list_locked = false; has_waiters = has_waiters && state.has_waiters; release_ok = release_ok && state.release_ok }
