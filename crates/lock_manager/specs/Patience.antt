use Rattle.std.specs.Prelude.{◌≡◌, ◌⊎◌, ℕ, Bool, true, false, List, [], ◌∷◌, ◌++◌, Option, Some, None, Result, Ok, Err}
use Rattle.std.specs.List.{FoldsTo}
use Rattle.modes_core.specs.declared.modes.Mode.{Mode}
use Rattle.modes_core.specs.declared.tags.Tag.{Tag}
use Rattle.modes_core.specs.declared.refusals.Refusal.{Refusal}
use Rattle.modes_core.specs.declared.refusals.Refusal.TheVariants as refusal_
use Rattle.local_locks.specs.declared.answers.Acquired.{Acquired}
use Rattle.local_locks.specs.declared.answers.Acquired.TheVariants as acquired
use Rattle.local_locks.specs.Owned.{Owned}
use Rattle.lock_world.specs.Account.{Account}
use Rattle.lock_world.specs.declared.events.Word.TheVariants.{Wait}
use Rattle.lock_world.specs.World.{TraceEntry, Loaded}
use Rattle.shared_rule.specs.Boards.{Seated}
use Rattle.fast_path.specs.declared.use_counts.UseCounts.{UseCounts}
use Rattle.wait_queue.specs.declared.requests.Kind.TheVariants.{Waiting}
use Rattle.lock_manager.specs.declared.requests.Begun.TheVariants as begun
use Rattle.lock_manager.specs.declared.waiting.Looked.TheVariants as looked
use Rattle.lock_manager.specs.Acquires.{Begins}
use Rattle.lock_manager.specs.Waiting.{polled_as, Cancels, IsWatch, EndsWait}

-- Waits that go on for as long as their caller says. `Says now answer next` is: the caller's word, as it was
-- `now`, was asked once, answered this, and was `next` then.

-- What a wait is answered that another session asked to cancel: yes, where the grant was first.
abbrev pub CancelsAs : ℕ → List TraceEntry → Tag → Mode → Result Bool Refusal → List TraceEntry → Type 0
CancelsAs number before tag mode (Ok true) after = Cancels number before tag mode true after
CancelsAs number before tag mode (Err refusal_.Cancelled) after = Cancels number before tag mode false after
CancelsAs number before tag mode _ after = ⊥

-- A wait that its caller doesn't give up ends by what its last load showed, as every wait does.
abbrev pub EndsByLook : ℕ → List TraceEntry → Tag → Mode → ℕ → Result Bool Refusal → List TraceEntry → Type 0
EndsByLook number before tag mode shown (Ok true) after = EndsWait number before tag mode shown (Ok tt) after
EndsByLook number before tag mode shown (Ok false) after = ⊥
EndsByLook number before tag mode shown (Err refusal) after = EndsWait number before tag mode shown (Err refusal) after

-- what an acquire is answered that waits within its caller's patience, where one that is given up counts as
-- cancelled
abbrev pub answer_within : Result (Option Acquired) Refusal → Result Acquired Refusal
answer_within (Ok (Some answer)) = Ok answer
answer_within (Ok None) = Err refusal_.Cancelled
answer_within (Err refusal) = Err refusal

module _ {K : Type 0} (Says : K → Bool → K → Type 0) where
  -- The caller gives up, after a load that showed neither a grant nor that the session was asked to cancel:
  -- he says so, and the session cancels its wait. The answer is whether the grant was first.
  pub record GivesUp (last : K) (number : ℕ) (before : List TraceEntry) (tag : Tag) (mode : Mode) (shown : ℕ)
      (result : Result Bool Refusal) (after : List TraceEntry) : Type 0 where
    pub still : polled_as shown ≡ looked.Still
    pub left : K
    pub said : Says last false left
    pub was_granted : Bool
    pub answered : result ≡ Ok was_granted
    pub cancels : Cancels number before tag mode was_granted after

  -- A whole wait: after each look but the last the caller says to go on. It ends by what the last look
  -- showed, as every wait does, or the caller gives up.
  pub record WaitsWhile (keep : K) (number : ℕ) (before : List TraceEntry) (tag : Tag) (mode : Mode)
      (result : Result Bool Refusal) (after : List TraceEntry) : Type 0 where
    pub looks : List TraceEntry
    pub watch : IsWatch number looks
    pub last : K
    pub said : FoldsTo (λ now look next. Says now true next) keep looks last
    pub shown : ℕ
    pub ends :
        EndsByLook number (before ++ looks ++ Loaded (Wait number) shown ∷ []) tag mode shown result after
        ⊎ GivesUp last number (before ++ looks ++ Loaded (Wait number) shown ∷ []) tag mode shown result after

  -- The request was queued, and its wait ended so.
  pub record QueuesAndWaitsWhile (keep : K) (seat : Seated) (owned : Owned) (a : Account) (uses : UseCounts) (tag : Tag)
      (mode : Mode) (result : Result Bool Refusal) (b : Account) (left : UseCounts) : Type 0 where
    pub queued : Account
    pub starts : Begins Waiting seat owned a uses tag mode (Ok begun.Queued) queued left
    pub waits : WaitsWhile keep seat.number queued.trace tag mode result b.trace

  -- What joins the trace of an acquire that waits for as long as its caller says, by its answer: it is
  -- answered at once as one that may wait, and the caller is asked nothing, or after its wait. Where its
  -- caller gave up the answer is none.
  abbrev pub LocksWhile :
      K → Seated → Owned → Account → UseCounts → Tag → Mode → Result (Option Acquired) Refusal → Account → UseCounts → Type 0
  LocksWhile keep seat owned a uses tag mode (Ok (Some acquired.AlreadyHeld)) b left =
      Begins Waiting seat owned a uses tag mode (Ok begun.AlreadyHeld) b left
  LocksWhile keep seat owned a uses tag mode (Ok (Some acquired.Granted)) b left =
      Begins Waiting seat owned a uses tag mode (Ok begun.Granted) b left
      ⊎ QueuesAndWaitsWhile keep seat owned a uses tag mode (Ok true) b left
  LocksWhile keep seat owned a uses tag mode (Ok None) b left = QueuesAndWaitsWhile keep seat owned a uses tag mode (Ok false) b left
  LocksWhile keep seat owned a uses tag mode (Err refusal) b left =
      Begins Waiting seat owned a uses tag mode (Err refusal) b left
      ⊎ QueuesAndWaitsWhile keep seat owned a uses tag mode (Err refusal) b left
