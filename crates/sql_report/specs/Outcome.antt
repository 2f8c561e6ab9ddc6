use Rattle.std.specs.Prelude.{◌≡◌, ℕ, ◌==◌, ◌&&◌, not, Bool, true, false, List, [], ◌∷◌, ◌++◌, Option, Some, None, slice_get}
use Rattle.std.specs.List.{list_any}
use Rattle.modes_core.specs.declared.modes.Mode.{Mode}
use Rattle.modes_core.specs.Mode.{mode_eq}
use Rattle.modes_core.specs.Conflict.{conflict}
use Rattle.sql_locks.specs.Reach.{AreLocks}
use Rattle.sql_locks.specs.declared.catalog.Link.{Link}
use Rattle.sql_locks.specs.declared.catalog.Relation.{Relation}
use Rattle.sql_locks.specs.declared.forms.FormRow.{FormRow}
use Rattle.sql_locks.specs.declared.locks.Act.{Act}
use Rattle.sql_locks.specs.declared.locks.Lock.{Lock}

-- The locks of a statement's forms, one form after another: those of a row that the table has for the form.
abbrev pub AreLocksOfActs : List Link → List Act → List Lock → Type 0
AreLocksOfActs links [] locks = locks ≡ []
AreLocksOfActs links (act ∷ acts) locks =
    (row : FormRow) × (first : List Lock) × (others : List Lock) × (locks ≡ first ++ others)
    × (row.form ≡ act.form) × AreLocks links act row.parts.now first × AreLocksOfActs links acts others

-- whether others know a relation: one that the statement's transaction made is its own
abbrev pub is_of_others : Option Relation → Bool
is_of_others None = true
is_of_others (Some relation) = not relation.is_own

-- whether others know the relation of this number
abbrev pub others_know : List Relation → ℕ → Bool
others_know relations number = is_of_others (slice_get relations number)

-- whether one of these locks is on this relation, in this mode
abbrev pub has_on : ℕ → List Lock → Mode → Bool
has_on relation locks mode = list_any (λ lock. (lock.relation == relation) && mode_eq mode lock.mode) locks

-- whether one of these locks, on a relation that others know, keeps a mode waiting
abbrev pub keep_waiting : List Relation → List Lock → Mode → Bool
keep_waiting relations locks mode =
    list_any (λ lock. others_know relations lock.relation && conflict lock.mode mode) locks
