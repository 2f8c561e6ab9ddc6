use Rattle.std.specs.Prelude.{ℕ, Bool, List, [], ◌∷◌, if◌then◌else◌}
use Rattle.modes_core.specs.Conflict.{conflict}
use Rattle.sql_locks.specs.declared.locks.Lock.{Lock}
use Rattle.sql_script.specs.Asked.{step_of}
use Rattle.sql_script.specs.declared.asked.Asking.TheVariants as asking
use Rattle.sql_script.specs.declared.steps.Step.{Step}

-- whether a session keeps a lock beside its transaction: one that keeps its own mode waiting
abbrev pub is_kept : Lock → Bool
is_kept lock = conflict lock.mode lock.mode

-- the steps by which a session of a database takes a lock: its transaction takes it, and so does the session
-- itself where it keeps the lock
abbrev pub keeping_steps : ℕ → Lock → List Step
keeping_steps database lock =
    if is_kept lock then (step_of database asking.Wait lock ∷ step_of database asking.Own lock ∷ []) else (step_of database asking.Wait lock ∷ [])
