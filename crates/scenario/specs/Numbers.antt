use Rattle.std.specs.Prelude.{◌≡◌, ◌⊎◌, ℕ, ◌+◌, ◌<◌, ◌≤◌, Bool, true, false, List, [], ◌∷◌, ◌++◌, length, set}
use Rattle.arrayvec.specs.declared.array_string.ArrayString.{ArrayString}
use Rattle.local_locks.specs.declared.records.Entry.{Entry}
use Rattle.shared_rule.specs.Boards.{Seated}
use Rattle.lock_manager.specs.Managers.{ManagerView}
use Rattle.lock_manager.specs.Sessions.{SessionView}

-- Which numbers the sessions of a script have, and which names these are known by.

-- A session was opened under this number, at a manager that has this limit, where this number of numbers was
-- given out before and after it: the next one, which is below the limit where none beyond it was given out,
-- or, where those of closed sessions are given out again, one of these.
abbrev pub IsNumbered : Bool → ℕ → ℕ → ℕ → ℕ → Type 0
IsNumbered again limit number before after =
    ((number ≡ before) × (before ≤ limit → before < limit) × (after ≡ before + 1))
    ⊎ ((again ≡ true) × (number < before) × (after ≡ before))

-- There is no number to give out: all were given out, or, where they are given out again, those of this many
-- open sessions are all.
abbrev pub IsFull : Bool → ℕ → ℕ → ℕ → Type 0
IsFull true issued live limit = live ≡ limit
IsFull false issued live limit = issued ≡ limit

-- The name of the session that was opened under this number stands behind those of the numbers before it.
-- Where the number was given out again it stands in place of the name of the session that had it.
abbrev pub IsNamed : Bool → ℕ → ArrayString 16 → List (ArrayString 16) → List (ArrayString 16) → Type 0
IsNamed again number name old new =
    ((number ≡ length old) × (new ≡ old ++ name ∷ []))
    ⊎ ((again ≡ true) × (number < length old) × (new ≡ set old number name))

-- Who sits here is this manager's, under one of the numbers that were given out.
pub record IsKnown (seated : Seated) (manager : ManagerView) (issued : ℕ) : Type 0 where
  pub table : seated.table ≡ manager.table
  pub number : seated.number < issued

-- A desk sees the databases and the local entries that sessions have.
pub record SeesSessions {B : Type 0} (database_of : SessionView B → ℕ) (entries : SessionView B → List Entry) : Type 0 where
  pub databases : (session : SessionView B) → database_of session ≡ session.database
  pub entries_ : (session : SessionView B) → entries session ≡ session.owned.entries
