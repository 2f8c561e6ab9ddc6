use Rattle.std.specs.Prelude.{◌≡◌, ◌≢◌, ◌⊎◌, ℕ, true, List, ◌∷◌, ◌++◌, Some, slice_get}
use Rattle.modes_core.specs.declared.modes.Mode.{Mode}
use Rattle.modes_core.specs.Conflict.{conflict}
use Rattle.lock_table.specs.Content.{Wait, Content}
use Rattle.lock_table.specs.OwnWait.{OwnWait, entry_of}

-- Why a session waits for an object: somebody is in its way.

-- Another session holds the object in a mode that conflicts with the one awaited.
pub record IsBehindHolder (content : Content) (session : ℕ) (wait : OwnWait) : Type 0 where
  pub other : ℕ
  pub its : Mode
  pub another : other ≢ session
  pub holding : content.holds other wait.tag its ≡ true
  pub conflicting : conflict wait.mode its ≡ true

-- A session that waits before it in the object's queue awaits a mode that conflicts with the one awaited.
pub record IsBehindWaiter (content : Content) (session : ℕ) (wait : OwnWait) : Type 0 where
  pub ahead : List Wait
  pub behind : List Wait
  pub parts : content.waits wait.tag ≡ ahead ++ entry_of session wait ∷ behind
  pub place : ℕ
  pub before : Wait
  pub among : slice_get ahead place ≡ Some before
  pub conflicting : conflict wait.mode before.mode ≡ true

-- A session waits for a reason: a holder or a waiter before it.
abbrev pub HasReason : Content → ℕ → OwnWait → Type 0
HasReason content session wait = IsBehindHolder content session wait ⊎ IsBehindWaiter content session wait
