use Rattle.std.specs.Prelude.{◌≡◌, ◌≢◌, ℕ, ◌≤◌, ◌<◌, List, length, insert, All, AllPairs}
use Rattle.std.specs.List.{HoldsAt}
use Rattle.std.specs.declared.cmp.Ordering.TheVariants.{Greater}
use Rattle.std.specs.Ordering.{nat_cmp}
use Rattle.std.specs.Cmp.Lexicographic.{slice_cmp}
use Rattle.lock_script.specs.declared.sessions.Named.{Named}

-- Sessions by their names.

-- the one name does not come after the other in the order of bytes
abbrev pub NotAfter : List ℕ → List ℕ → Type 0
NotAfter name other = slice_cmp nat_cmp name other ≢ Greater

-- The sessions are in the byte order of their names.
abbrev pub IsByName : {S : Type 0} → List (Named S) → Type 0
IsByName sessions = AllPairs (λ one other. NotAfter one.name.bytes other.name.bytes) sessions

-- The session at this place goes by this name.
abbrev pub IsCalled : {S : Type 0} → List (Named S) → List ℕ → ℕ → Type 0
IsCalled sessions name place = (place < length sessions) × HoldsAt (λ one. one.name.bytes ≡ name) sessions place

-- None of the sessions goes by this name.
abbrev pub IsFree : {S : Type 0} → List (Named S) → List ℕ → Type 0
IsFree sessions name = All (λ one. one.name.bytes ≢ name) sessions

-- One session more is put in, and the others keep their order.
abbrev pub PutsIn : {S : Type 0} → List (Named S) → Named S → List (Named S) → Type 0
PutsIn old one new = (place : ℕ) × (place ≤ length old) × (new ≡ insert old place one)
