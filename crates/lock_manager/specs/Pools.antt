use Rattle.std.specs.Prelude.{◌≡◌, ℕ, ◌<◌, ◌≤◌, ◌+◌, ◌%◌, ◌^◌, ◌⊎◌, List, [], ◌∷◌, ◌++◌, length, replicate, slice_get, slice_index_or, slice_set, Some}
use Rattle.std.specs.List.{remove}
use Rattle.lock_world.specs.Account.{Account}
use Rattle.shared_rule.specs.Boards.{Seated, Stack}
use Rattle.shared_rule.specs.Quiet.{Quiet}
use Rattle.lock_manager.specs.Sessions.{SessionView}
use Rattle.lock_manager.specs.Reuse.{ServesNext}

-- What contracts see of a pool of sessions: those that nobody has, and of each number that it has room for
-- how often its session was given back.
pub record PoolView (B : Type 0) : Type 0 where
  pub free : List (SessionView B)
  pub lives : List ℕ

-- A pool with no session yet, which has room for those of this many numbers.
abbrev pub IsNewPool : {B : Type 0} → ℕ → PoolView B → Type 0
IsNewPool sessions pool = pool ≡ record { free = []; lives = replicate sessions 0 }

-- The pool has room for the session of this number.
abbrev pub HasRoomFor : {B : Type 0} → ℕ → PoolView B → Type 0
HasRoomFor number pool = (length pool.free < length pool.lives) × (number < length pool.lives)

-- The pool has no room for the session of this number.
abbrev pub HasNoRoomFor : {B : Type 0} → ℕ → PoolView B → Type 0
HasNoRoomFor number pool = (length pool.lives ≤ length pool.free) ⊎ (length pool.lives ≤ number)

-- the life that the session of this number has now
abbrev pub life_of : List ℕ → ℕ → ℕ
life_of lives number = slice_index_or lives number 0

-- the lives once the session of this number was given back
abbrev pub lives_after : List ℕ → ℕ → List ℕ
lives_after lives number = slice_set lives number ((life_of lives number + 1) % 2 ^ 64)

-- Of the first of these sessions, as many as `bound` says, none has a lower number than the one at this
-- place.
abbrev pub IsLowestBelow : {B : Type 0} → (B → Seated) → List (SessionView B) → ℕ → ℕ → Type 0
IsLowestBelow {B} seat free bound place =
    (lowest session : SessionView B) (other : ℕ) → slice_get free place ≡ Some lowest → other < bound
    → slice_get free other ≡ Some session → (seat lowest.board).number ≤ (seat session.board).number

-- The pool has lent the session with the lowest number of those that nobody has, which serves this database
-- from then on.
pub record LendsLowest {B : Type 0} (seat : B → Seated) (view : B → Account) (stack : B → Stack) (quiet : B → List Quiet)
    (database : ℕ) (old new : PoolView B) (session : SessionView B) : Type 0 where
  pub place : ℕ
  pub lent : SessionView B
  pub there : slice_get old.free place ≡ Some lent
  pub lowest : IsLowestBelow seat old.free (length old.free) place
  pub next : ServesNext seat view stack quiet database lent session
  pub pool : new ≡ record old { free = remove old.free place }

-- The session was given back: all that it held is released, and it is the last of those that nobody has, in
-- another life.
pub record TakesIn {B : Type 0} (seat : B → Seated) (view : B → Account) (stack : B → Stack) (quiet : B → List Quiet)
    (session : SessionView B) (old new : PoolView B) : Type 0 where
  pub rests : SessionView B
  pub next : ServesNext seat view stack quiet 0 session rests
  pub free : new.free ≡ old.free ++ rests ∷ []
  pub lives : new.lives ≡ lives_after old.lives (seat session.board).number
