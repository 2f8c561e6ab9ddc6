use Rattle.std.specs.Prelude.{ℕ, ◌+◌, ◌==◌, ◌&&◌, ◌||◌, not, Bool, List, [], ◌∷◌, ◌++◌, if◌then◌else◌}
use Rattle.std.specs.List.{list_all, list_any}
use Rattle.modes_core.specs.declared.modes.Mode.{Mode}
use Rattle.modes_core.specs.declared.sessions.Owner.TheVariants.{Session, Transaction}
use Rattle.modes_core.specs.declared.tags.Tag.{Tag}
use Rattle.modes_core.specs.declared.tags.Tag.TheVariants.{Relation}
use Rattle.modes_core.specs.Conflict.{conflict}
use Rattle.modes_core.specs.ModeSet.{all_modes}
use Rattle.sql_locks.specs.declared.locks.Lock.{Lock}
use Rattle.sql_script.specs.declared.asked.Asking.{Asking}
use Rattle.sql_script.specs.declared.asked.Asking.TheVariants.{Wait, Try, Own, GiveBack}
use Rattle.sql_script.specs.declared.steps.Step.{Step}
use Rattle.sql_script.specs.declared.steps.Step.TheVariants as step

-- whether one of these locks, on this relation, keeps a mode waiting
abbrev pub stops : List Lock → ℕ → Mode → Bool
stops locks relation mode = list_any (λ lock. (lock.relation == relation) && conflict lock.mode mode) locks

-- whether the locks before a lock, on its relation, keep all waiting whom it keeps waiting
abbrev pub is_covered : List Lock → Lock → Bool
is_covered before lock = list_all (λ mode. not (conflict lock.mode mode) || stops before lock.relation mode) all_modes

-- the locks of the second list, which come after those of the first, that no earlier ones cover, in their
-- order
abbrev pub asked_behind : List Lock → List Lock → List Lock
asked_behind before [] = []
asked_behind before (lock ∷ locks) =
    if is_covered before lock then asked_behind (before ++ lock ∷ []) locks else (lock ∷ asked_behind (before ++ lock ∷ []) locks)

-- the step by which a session asks for a lock, for its transaction or for itself, or gives it back
abbrev pub asking_step : Asking → Tag → Mode → Step
asking_step Wait tag mode = step.Lock tag mode Transaction
asking_step Try tag mode = step.Try tag mode Transaction
asking_step Own tag mode = step.Lock tag mode Session
asking_step GiveBack tag mode = step.Unlock tag mode Session

-- the step by which a session of a database asks in this way for a lock on a relation
abbrev pub step_of : ℕ → Asking → Lock → Step
step_of database asking lock = asking_step asking (Relation database (16384 + lock.relation)) lock.mode
