use Rattle.std.specs.Prelude.{ℕ, Bool, false, ◌==◌, ◌&&◌, [], Option, None, slice_index_or, if◌then◌else◌}
use Rattle.std.specs.List.{list_any}
use Rattle.lw_word.specs.WaitList.{is_of}
use Rattle.lock_model.specs.declared.machine.state.Sleeper.{Sleeper}
use Rattle.lock_model.specs.declared.machine.state.Machine.{Machine}
use Rattle.lock_model.specs.Shows.{makes_steps}

-- The list of all who wait for any lightweight lock, and what the machine looks at before a step on wait
-- lists.

-- whether the session waits for this lock
abbrev pub is_at : ℕ → ℕ → Sleeper → Bool
is_at lock session sleeper = (sleeper.lock == lock) && is_of session sleeper.waiter

-- the lock whose wait list the session has locked, where it makes steps
abbrev pub list_to_change : Machine → ℕ → Option ℕ
list_to_change machine session = if makes_steps machine session then slice_index_or machine.lists.has_list session None else None

-- whether the session is in the lock's list, and its sleep word shows waiting
abbrev pub waits_at : Machine → ℕ → ℕ → Bool
waits_at machine lock session =
    list_any (is_at lock session) machine.lists.sleepers.items && (slice_index_or machine.lists.sleep session 0 == 1)

-- whether the session took the other one off a wait list and has not woken it yet
abbrev pub may_tell : Machine → ℕ → ℕ → Bool
may_tell machine session other =
    (makes_steps machine session && slice_index_or (slice_index_or machine.lists.off session []) other false)
    && (slice_index_or machine.lists.sleep other 0 == 2)

-- whether the session may load its sleep word, and the word shows this
abbrev pub may_load_sleep : Machine → ℕ → ℕ → Bool
may_load_sleep machine session shown = makes_steps machine session && (shown == slice_index_or machine.lists.sleep session 0)

-- whether the session sees by its sleep word that it is in no list
abbrev pub sees_no_sleep : Machine → ℕ → ℕ → Bool
sees_no_sleep machine session shown = may_load_sleep machine session shown && (shown == 0)
