use Rattle.std.specs.Prelude.{◌≡◌, Some, List, ⊤}
use Rattle.arrayvec.specs.declared.array_string.ArrayString.{ArrayString}
use Rattle.lock_world.specs.Account.{Account}
use Rattle.shared_rule.specs.Boards.{Seated, Stack}
use Rattle.shared_rule.specs.Quiet.{Quiet}
use Rattle.lock_manager.specs.declared.calls.Answer as its
use Rattle.lock_manager.specs.declared.calls.Answer.TheVariants as its_answer
use Rattle.lock_manager.specs.declared.calls.Call.{Call}
use Rattle.lock_manager.specs.declared.calls.Call.TheVariants as call
use Rattle.lock_manager.specs.Calls.{Made}
use Rattle.lock_manager.specs.Sessions.{SessionView}
use Rattle.scenario.specs.declared.answers.Said.TheVariants as said
use Rattle.scenario.specs.declared.answers.Row.TheVariants as row
use Rattle.scenario.specs.declared.answers.Answer.{Answer}
use Rattle.scenario.specs.declared.answers.Answer.TheVariants as answer
use Rattle.scenario.specs.Told.{acquire_told, blockers_told, cancel_told, level_told, list_told, queue_told, unlock_told, waiters_told}

-- What a session's call comes to in a script.

-- The answer is one that the call of a script may have.
abbrev pub Fits : Call → its.Answer → Type 0
Fits (call.TryLock tag mode owner) (its_answer.Acquired result) = ⊤
Fits (call.TryFast tag mode owner) (its_answer.Acquired result) = ⊤
Fits (call.Unlock tag mode owner) (its_answer.Unlocked result) = ⊤
Fits call.UnlockAll (its_answer.Released count) = ⊤
Fits call.Commit its_answer.Ended = ⊤
Fits call.Abort its_answer.Ended = ⊤
Fits call.BeginNested (its_answer.Level result) = ⊤
Fits call.CommitNested (its_answer.Level result) = ⊤
Fits call.AbortNested (its_answer.Level result) = ⊤
Fits (call.HasWaiters tag mode) (its_answer.HasWaiters result) = ⊤
Fits (call.Queue tag) (its_answer.Queue result) = ⊤
Fits (call.Blockers tag session) (its_answer.Blockers result) = ⊤
Fits call.List (its_answer.Listing result) = ⊤
Fits (call.StrongCount index) (its_answer.StrongCount (Some shown)) = ⊤
Fits (call.AskCancel session) (its_answer.Asked asked) = ⊤
Fits _ _ = ⊥

-- What the session of this name is told of a call, by what the library answered. Where the call is about
-- another session, the other name is that one's.
module _ (name other : ArrayString 16) where
  abbrev pub IsTold : Call → its.Answer → Answer → Type 0
  IsTold _ (its_answer.Acquired result) it = it ≡ acquire_told name result
  IsTold (call.Unlock tag mode owner) (its_answer.Unlocked result) it = it ≡ unlock_told name mode result
  IsTold _ (its_answer.Released count) it = it ≡ answer.Said name (said.UnlockedAll count)
  IsTold call.Commit its_answer.Ended it = it ≡ answer.Said name said.Committed
  IsTold call.Abort its_answer.Ended it = it ≡ answer.Said name said.Aborted
  IsTold _ (its_answer.Level result) it = it ≡ level_told name result
  IsTold (call.HasWaiters tag mode) (its_answer.HasWaiters result) it = it ≡ waiters_told name mode result
  IsTold _ (its_answer.Queue result) it = it ≡ queue_told name result
  IsTold _ (its_answer.Blockers result) it = it ≡ blockers_told name other result
  IsTold _ (its_answer.Listing result) it = it ≡ list_told name result
  IsTold (call.StrongCount index) (its_answer.StrongCount (Some shown)) it = it ≡ answer.Row (row.Counter index shown)
  IsTold _ (its_answer.Asked asked) it = it ≡ cancel_told name other asked
  IsTold _ _ it = ⊥

-- The call was made, as the library promises of it, and this is its answer under the session's name.
pub record IsMade {B : Type 0} (seat : B → Seated) (view : B → Account) (stack : B → Stack) (old new : SessionView B)
    (name other : ArrayString 16) (it : Call) (told : Answer) : Type 0 where
  pub quiet_of : B → List Quiet
  pub answered : its.Answer
  pub made : Made seat view stack quiet_of old new it answered
  pub is_told : IsTold name other it answered told
