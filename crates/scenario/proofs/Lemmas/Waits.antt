-- The seats of sessions that wait.
use Rattle.std.proofs.Common.{◌≡◌, ◌∙◌, inl, inr}
use Rattle.lock_world.specs.Account.{Account}
use Rattle.shared_rule.specs.Boards.{Seated, Stack}
use Rattle.lock_manager.specs.Sessions.{SessionView}
use Rattle.lock_manager.specs.WaitingSessions.{WaitingView}
use Rattle.scenario.specs.declared.answers.Said.{Said}
use Rattle.scenario.specs.declared.answers.Said.TheVariants as said
use Rattle.scenario.specs.Waits.{GoesOn}

module _ {B : Type 0} (seat : B → Seated) (view : B → Account) (stack : B → Stack) (old : WaitingView B) where
  -- one that goes on keeps it
  pub goes_on-seat : (told : Said) (new : SessionView B) → GoesOn seat view stack old told new → seat new.board ≡ seat old.board
  goes_on-seat said.GrantedAfterWaiting new (inl found) = found.same.seat_
  goes_on-seat said.GrantedAfterWaiting new (inr stops) = stops.gave_up.same.seat_ ∙ stops.still.seat_
  goes_on-seat said.Cancelled new stops = stops.gave_up.same.seat_ ∙ stops.still.seat_
  goes_on-seat _ new never = absurd never
