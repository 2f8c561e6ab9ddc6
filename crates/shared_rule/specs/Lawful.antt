use Rattle.std.specs.Prelude.{◌≡◌, ◌≢◌, ◌⊎◌, ℕ, ◌≤◌, false, List, [], ◌∷◌, ◌++◌, Some, None}
use Rattle.modes_core.specs.Tag.{partition_of}
use Rattle.lock_table.specs.declared.moves.Move.{Move}
use Rattle.lock_table.specs.declared.moves.Move.TheVariants.{Keep, Grant, Join, Release, Leave, Adopt}
use Rattle.lock_table.specs.Content.{Wait, Content}
use Rattle.lock_table.specs.OwnWait.{OwnWait}
use Rattle.lock_world.specs.declared.events.Word.TheVariants as word
use Rattle.lock_world.specs.WaitWord.{wait_state, is_asked}
use Rattle.lock_world.specs.World.{TraceEntry, Loaded}
use Rattle.lock_world.specs.Account.{Account, InHand}
use Rattle.lock_world.specs.AccountLaw.{MayPutBy, MayPutRecordedBy, MayMarkFirstBy, MayMarkNextBy}
use Rattle.lock_world.specs.AccountLaw.{MayClearSeenBy, MayClearInHandBy}

-- Where a step is lawful by the account of the session that makes it, whichever way it is.

-- Marking the waits that a move granted.

-- The move is one that may grant waits, on an object of the partition.
abbrev pub IsGrantingIn : ℕ → Move → Type 0
IsGrantingIn partition Keep = ⊥
IsGrantingIn partition (Grant tag mode) = ⊥
IsGrantingIn partition (Join tag mode) = ⊥
IsGrantingIn partition (Release tag mode) = partition_of tag ≡ partition
IsGrantingIn partition (Leave tag) = partition_of tag ≡ partition
IsGrantingIn partition (Adopt owner slot) = ⊥

-- The session is one of those whom the move grants: the move is made by the first mark, or stands recorded
-- and the session is unmarked.
abbrev pub MayMarkBy : ℕ → ℕ → Account → ℕ → InHand → Move → List Wait → Content → ℕ → Type 0
MayMarkBy limit number a partition mine done granted content other =
    MayMarkFirstBy limit number a partition mine done granted content other ⊎ MayMarkNextBy a partition mine done other

-- Putting a partition with nothing changed since the move that stands recorded.
pub record PutsRecorded (a : Account) (partition : ℕ) (mine : InHand) (done : Move) (content : Content) : Type 0 where
  pub made : Move
  pub may_put : MayPutRecordedBy a partition mine made
  pub keeps : done ≡ Keep
  pub same : content ≡ mine.now

-- Putting a partition: after a move that is made as it is put, or, with nothing changed since, after the one
-- that stands recorded.
abbrev pub MayPutPart : ℕ → ℕ → Account → ℕ → InHand → Move → Content → Type 0
MayPutPart limit number a partition mine done content =
    MayPutBy limit number a partition mine done content ⊎ PutsRecorded a partition mine done content

-- Clearing its own wait word: the grant was seen, or the wait is gone from the content in hand.
abbrev pub MayClearBy : ℕ → Account → OwnWait → Type 0
MayClearBy number a wait = MayClearSeenBy a wait ⊎ ((mine : InHand) × MayClearInHandBy number a wait mine)

-- Sleeping on its own wait word, which is no step: the session waits and has no word in hand, and its trace
-- ends with a load of that word, which showed this: neither a grant nor that it was asked to cancel.
pub record HasJustLooked (number : ℕ) (a : Account) (shown : ℕ) : Type 0 where
  pub wait : OwnWait
  pub waits : a.awaited ≡ Some wait
  pub no_partition : a.hand ≡ (λ _. None)
  pub no_slots : a.fast.slots ≡ (λ _. None)
  pub no_shared_slots : a.fast.shared_slots ≡ (λ _. None)
  pub before : List TraceEntry
  pub looked : a.trace ≡ before ++ Loaded (word.Wait number) shown ∷ []
  pub not_granted : wait_state shown ≢ 2
  pub not_asked : is_asked shown ≡ false

-- Taking a partition: those in hand have lower numbers.
abbrev pub IsAboveHand : Account → ℕ → Type 0
IsAboveHand a partition = (other : ℕ) → partition ≤ other → a.hand other ≡ None
