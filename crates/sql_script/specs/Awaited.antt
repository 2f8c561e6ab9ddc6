use Rattle.std.specs.Prelude.{ℕ, ◌==◌, ◌&&◌, ◌||◌, Bool, false, List, [], ◌∷◌, Option, None, Some, if◌then◌else◌}
use Rattle.std.specs.List.{flat_map, list_any}
use Rattle.modes_core.specs.declared.modes.Mode.TheVariants.{Share}
use Rattle.modes_core.specs.declared.sessions.Owner.TheVariants.{Transaction}
use Rattle.modes_core.specs.declared.tags.Tag.{Tag}
use Rattle.modes_core.specs.Conflict.{conflict}
use Rattle.sql_locks.specs.declared.forms.Awaits.{Awaits}
use Rattle.sql_locks.specs.declared.forms.Awaits.TheVariants as awaits
use Rattle.sql_locks.specs.declared.locks.Lock.{Lock}
use Rattle.sql_script.specs.declared.sessions.ScriptSession.{ScriptSession}
use Rattle.sql_script.specs.declared.steps.Step.{Step}
use Rattle.sql_script.specs.declared.steps.Step.TheVariants as step

-- whether one of these locks is on this relation
abbrev pub is_on_one : List Lock → ℕ → Bool
is_on_one locks relation = list_any (λ lock. lock.relation == relation) locks

-- whether the open transaction of a session has a lock on a relation of these locks
abbrev pub has_used : List Lock → ScriptSession → Bool
has_used locks session = list_any (λ used. is_on_one locks used.relation) session.used.items

-- whether the open transaction of a session has a lock on a relation of these locks that keeps an index build
-- waiting
abbrev pub has_written : List Lock → ScriptSession → Bool
has_written locks session = list_any (λ used. conflict Share used.mode && is_on_one locks used.relation) session.used.items

-- whether a statement that awaits this, with these locks, waits for the end of a session's transaction
abbrev pub is_awaited : Awaits → List Lock → ScriptSession → Bool
is_awaited awaits.Nobody locks session = false
is_awaited awaits.Writers locks session = session.has_snapshot || has_written locks session
is_awaited awaits.Users locks session = has_used locks session
is_awaited awaits.UsersAndSnapshots locks session = session.has_snapshot || has_used locks session

-- the lock of a session's open transaction, where a statement of a database waits for the end of that
-- transaction
abbrev pub awaited_in : ℕ → Awaits → List Lock → ScriptSession → Option Tag
awaited_in database its locks session =
    if (session.database == database) && is_awaited its locks session then session.transaction else None

-- a lock tag, if there is one, as a list
abbrev pub as_list : Option Tag → List Tag
as_list None = []
as_list (Some tag) = tag ∷ []

-- the locks of the transactions for whose end a statement of a database waits, in the order of their sessions
abbrev pub awaited_by : ℕ → Awaits → List Lock → List ScriptSession → List Tag
awaited_by database its locks sessions = flat_map (λ session. as_list (awaited_in database its locks session)) sessions

-- the step that waits for the end of the transaction that has this lock
abbrev pub await_step : Tag → Step
await_step tag = step.Lock tag Share Transaction

-- the steps that wait for the end of the transaction that has this lock, and keep nothing
abbrev pub pass_steps : Tag → List Step
pass_steps tag = await_step tag ∷ step.Unlock tag Share Transaction ∷ []
