use Rattle.std.specs.Prelude.{◌≡◌, ◌↔◌, ◌≤◌, ◌<◌, ℕ, Bool, false, Some, None, List, [], ◌∷◌, ◌++◌, Result, IfOk, OnErr, IsErrOf, IsOkUnless}
use Rattle.std.specs.Global.{Vec}
use Rattle.modes_core.specs.ModeSet.{set_has}
use Rattle.modes_core.specs.declared.modes.Mode.{Mode}
use Rattle.modes_core.specs.declared.tags.Tag.{Tag}
use Rattle.modes_core.specs.declared.refusals.Refusal.{Refusal}
use Rattle.modes_core.specs.declared.refusals.Refusal.TheVariants.{NotHeld, NoMemory}
use Rattle.local_locks.specs.declared.ends.End.TheVariants as end
use Rattle.local_locks.specs.Owned.{own_count_of, has_entry}
use Rattle.lock_table.specs.declared.waits.Waiter.{Waiter}
use Rattle.lock_world.specs.Account.{Account}
use Rattle.lock_world.specs.World.{Loaded}
use Rattle.lock_world.specs.declared.events.Word.TheVariants.{Strong}
use Rattle.shared_rule.specs.Boards.{Seated, Stack}
use Rattle.shared_rule.specs.Quiet.{Quiet}
use Rattle.fast_path.specs.Quiet.{QuietOfListing}
use Rattle.wait_queue.specs.declared.queues.Blocker.{Blocker}
use Rattle.wait_queue.specs.declared.requests.Kind.TheVariants.{Conditional, Waiting}
use Rattle.lock_manager.specs.declared.blocked.Blocked.{Blocked}
use Rattle.lock_manager.specs.declared.calls.Call.{Call}
use Rattle.lock_manager.specs.declared.calls.Call.TheVariants as call
use Rattle.lock_manager.specs.declared.calls.Answer.{Answer}
use Rattle.lock_manager.specs.declared.calls.Answer.TheVariants as answer
use Rattle.lock_manager.specs.declared.listing.Listing.{Listing}
use Rattle.lock_manager.specs.declared.waiting.Asked.{Asked}
use Rattle.lock_manager.specs.declared.waiting.Asked.TheVariants as asked
use Rattle.lock_manager.specs.Acquires.{Acquires}
use Rattle.lock_manager.specs.Blocked.{ListsBlocked}
use Rattle.lock_manager.specs.Listings.{Lists}
use Rattle.lock_manager.specs.Promises.{HasAcquired, HasTriedSlot, HasUnlocked, HasUnlockedAll, HasEndedBy, HasBegunLevel, HasHandedUp, HasEndedLevel, HasSeen}
use Rattle.lock_manager.specs.Queues.{LooksAt, IsQueue, AreBlockers}
use Rattle.lock_manager.specs.Sessions.{SessionView}
use Rattle.lock_manager.specs.Waiting.{AsksOneOf, LooksForWaiters}
use Rattle.lock_manager.specs.WaitingSessions.{Locks}

-- Calls of a session as values.

module _ {B : Type 0} (seat : B → Seated) (view : B → Account) (stack : B → Stack) (quiet_of : B → List Quiet) (old new : SessionView B) where
  -- Whether somebody waits for what the session has in this mode.
  pub record SeesWaiters (tag : Tag) (mode : Mode) (result : Result Bool Refusal) : Type 0 where
    pub not_held : IsErrOf result NotHeld ↔ (has_entry old.owned.entries tag mode ≡ false)
    pub no_other : IsOkUnless result NotHeld
    pub looked : IfOk result (λ is_awaited. LooksForWaiters (view old.board).trace tag mode is_awaited (view new.board).trace)
    pub quiet : quiet_of new.board ≡ quiet_of old.board
    pub untouched : OnErr result (new.board ≡ old.board)

  -- The waits on the object, in the order of its queue.
  pub record SeesQueue (tag : Tag) (result : Result (Vec Waiter) Refusal) : Type 0 where
    pub looked :
        LooksAt (λ taken. IfOk result (λ rows. IsQueue tag rows.items taken)) (view old.board).trace tag (view new.board).trace
    pub quiet : quiet_of new.board ≡ quiet_of old.board
    pub no_memory : IsOkUnless result NoMemory

  -- Who is in the way of that session's wait on the object.
  pub record SeesBlockers (tag : Tag) (session : ℕ) (result : Result (Vec Blocker) Refusal) : Type 0 where
    pub looked :
        LooksAt (λ taken. IfOk result (λ found. AreBlockers tag session found.items taken)) (view old.board).trace tag
        (view new.board).trace
    pub quiet : quiet_of new.board ≡ quiet_of old.board
    pub no_memory : IsOkUnless result NoMemory

  -- All waits, with those in their way.
  pub record SeesWaits (result : Result (Vec Blocked) Refusal) : Type 0 where
    pub listed : ListsBlocked (seat old.board).number (view old.board) result (view new.board)
    pub quiet : quiet_of new.board ≡ quiet_of old.board
    pub no_memory : IsOkUnless result NoMemory

  -- All that is held and awaited.
  pub record SeesAll (result : Result Listing Refusal) : Type 0 where
    pub listed :
        Lists (seat old.board).groups (seat old.board).limit (seat old.board).number (view old.board) result (view new.board)
    pub quiet : QuietOfListing (seat old.board).limit result (quiet_of old.board) (quiet_of new.board)
    pub no_memory : IsOkUnless result NoMemory

  -- The strong lock counter of this index was loaded.
  pub record SeesCount (index shown : ℕ) : Type 0 where
    pub loaded : (view new.board).trace ≡ (view old.board).trace ++ Loaded (Strong index) shown ∷ []
    pub quiet : quiet_of new.board ≡ quiet_of old.board

  -- That session was asked to cancel its wait.
  pub record HasAskedToCancel (other : ℕ) (answer_ : Asked) : Type 0 where
    pub asked_ : AsksOneOf (seat old.board).limit (view old.board) other answer_ (view new.board)
    pub untouched : (seat old.board).limit ≤ other → new.board ≡ old.board
    pub quiet : quiet_of new.board ≡ quiet_of old.board
    pub oneself : other ≡ (seat old.board).number → answer_ ≡ asked.NotWaiting

  -- The call was made, and this is its answer. No other answer belongs to it.
  abbrev pub Made : Call → Answer → Type 0
  Made (call.TryLock tag mode owner) (answer.Acquired result) =
      HasAcquired seat view stack quiet_of old new Conditional
      (Acquires (seat old.board) old.owned (view old.board) old.uses tag mode result (view new.board) new.uses) tag mode owner result
  Made (call.Acquire tag mode owner) (answer.Acquired result) =
      HasAcquired seat view stack quiet_of old new Waiting
      (Locks (seat old.board) old.owned (view old.board) old.uses tag mode result (view new.board) new.uses) tag mode owner result
  Made (call.TryFast tag mode owner) (answer.Acquired result) = HasTriedSlot seat view stack quiet_of old new tag mode owner result
  Made (call.Unlock tag mode owner) (answer.Unlocked result) = HasUnlocked seat view stack quiet_of old new tag mode owner result
  Made call.UnlockAll (answer.Released count) = HasUnlockedAll seat view stack quiet_of old new count
  Made call.Commit answer.Ended = HasEndedBy seat view stack quiet_of old new end.Commit
  Made call.Abort answer.Ended = HasEndedBy seat view stack quiet_of old new end.Abort
  Made call.BeginNested (answer.Level result) = HasBegunLevel seat view stack quiet_of old new result
  Made call.CommitNested (answer.Level result) = HasHandedUp seat view stack quiet_of old new result
  Made call.AbortNested (answer.Level result) = HasEndedLevel seat view stack quiet_of old new result
  Made (call.Held tag) (answer.Held modes) = (set_has modes ≡ has_entry old.owned.entries tag) × (new ≡ old)
  Made (call.OwnerCount tag mode owner) (answer.OwnerCount count) =
      (count ≡ own_count_of old.owned tag mode owner) × (new ≡ old)
  Made (call.HasWaiters tag mode) (answer.HasWaiters result) =
      HasSeen seat view stack quiet_of old new (SeesWaiters tag mode result)
  Made (call.Queue tag) (answer.Queue result) = HasSeen seat view stack quiet_of old new (SeesQueue tag result)
  Made (call.Blockers tag session) (answer.Blockers result) =
      HasSeen seat view stack quiet_of old new (SeesBlockers tag session result)
  Made call.Waits (answer.Waits result) = HasSeen seat view stack quiet_of old new (SeesWaits result)
  Made call.List (answer.Listing result) = HasSeen seat view stack quiet_of old new (SeesAll result)
  Made (call.StrongCount index) (answer.StrongCount (Some shown)) =
      (index < 1024) × HasSeen seat view stack quiet_of old new (SeesCount index shown)
  Made (call.StrongCount index) (answer.StrongCount None) = (1024 ≤ index) × (new ≡ old)
  Made (call.AskCancel other) (answer.Asked answer_) =
      HasSeen seat view stack quiet_of old new (HasAskedToCancel other answer_)
  Made _ _ = ⊥
