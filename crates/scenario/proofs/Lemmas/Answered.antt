-- What the library answers to a call of a script is one of the call's own, and the session keeps its seat.
use Rattle.std.specs.Prelude.{Some, None, List}
use Rattle.lock_world.specs.Account.{Account}
use Rattle.shared_rule.specs.Boards.{Seated, Stack}
use Rattle.shared_rule.specs.Quiet.{Quiet}
use Rattle.lock_manager.specs.declared.calls.Answer.{Answer}
use Rattle.lock_manager.specs.declared.calls.Answer.TheVariants as answer
use Rattle.lock_manager.specs.declared.calls.Call.{Call}
use Rattle.lock_manager.specs.declared.calls.Call.TheVariants as call
use Rattle.lock_manager.specs.Calls.{Made}
use Rattle.lock_manager.specs.Crews.{KeepsSeat}
use Rattle.lock_manager.specs.Sessions.{SessionView}
use Rattle.std.proofs.Common.{arith}
use Rattle.scenario.specs.Calls.{IsScripted}
use Rattle.scenario.specs.Made.{Fits}

module _ {B : Type 0} (seat : B → Seated) (view : B → Account) (stack : B → Stack) (quiet_of : B → List Quiet) (old new : SessionView B) where
  pub fits : (it : Call) (answered : Answer) → IsScripted it → Made seat view stack quiet_of old new it answered → Fits it answered × KeepsSeat seat old new
  fits (call.TryLock tag mode owner) (answer.Acquired result) scripted made = (tt, made.same.seat_)
  fits (call.TryFast tag mode owner) (answer.Acquired result) scripted made = (tt, made.same.seat_)
  fits (call.Unlock tag mode owner) (answer.Unlocked result) scripted made = (tt, made.same.seat_)
  fits call.UnlockAll (answer.Released count) scripted made = (tt, made.same.seat_)
  fits call.Commit answer.Ended scripted made = (tt, made.same.seat_)
  fits call.Abort answer.Ended scripted made = (tt, made.same.seat_)
  fits call.BeginNested (answer.Level result) scripted made = (tt, made.same.seat_)
  fits call.CommitNested (answer.Level result) scripted made = (tt, made.same.seat_)
  fits call.AbortNested (answer.Level result) scripted made = (tt, made.same.seat_)
  fits (call.HasWaiters tag mode) (answer.HasWaiters result) scripted made = (tt, made.same.seat_)
  fits (call.Queue tag) (answer.Queue result) scripted made = (tt, made.same.seat_)
  fits (call.Blockers tag session) (answer.Blockers result) scripted made = (tt, made.same.seat_)
  fits call.List (answer.Listing result) scripted made = (tt, made.same.seat_)
  fits (call.StrongCount index) (answer.StrongCount (Some shown)) scripted made = (tt, made.1.same.seat_)
  fits (call.StrongCount index) (answer.StrongCount None) scripted made = absurd (omega (arith, scripted, made.0))
  fits (call.AskCancel session) (answer.Asked asked) scripted made = (tt, made.same.seat_)
  fits (call.Acquire tag mode owner) _ scripted made = absurd scripted
  fits (call.Held tag) _ scripted made = absurd scripted
  fits (call.OwnerCount tag mode owner) _ scripted made = absurd scripted
  fits call.Waits _ scripted made = absurd scripted
  fits _ _ scripted made = absurd made
