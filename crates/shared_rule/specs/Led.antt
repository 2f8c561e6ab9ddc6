use Rattle.std.specs.Prelude.{◌≡◌, List}
use Rattle.atomic_table.specs.declared.shared.Seat.{Seat}
use Rattle.lock_table.specs.Content.{Content}
use Rattle.lock_world.specs.Account.{Account}
use Rattle.shared_rule.specs.declared.history.PlacedView.{PlacedView}
use Rattle.shared_rule.specs.declared.history.View.{View}
use Rattle.shared_rule.specs.declared.kept.Kept.{Kept}
use Rattle.shared_rule.specs.Boards.{StaysLone}
use Rattle.shared_rule.specs.Plays.{side_of, account_at, number_at, quiet_at, todo_at, owed_at, HasSession, IsSameSeat}
use Rattle.shared_rule.specs.Quiet.{Quiet}
use Rattle.shared_rule.specs.Seats.{behind_of}
use Rattle.shared_rule.specs.Todos.{Todo}

-- All else of a view is as it was: the next number, those that have closed, and those behind the first
-- session.
pub record KeepsOthers {T : Type 0} (before after : View T) : Type 0 where
  pub next : after.next ≡ before.next
  pub closed : after.closed ≡ before.closed
  pub behind : behind_of after.sessions ≡ behind_of before.sessions

-- What a call of several steps makes of a seat: it is the same seat, of the same session, whose account is
-- this then, whose quiet steps are these, and which has this to do for those who wait for lightweight locks.
-- It has to wake those whom it had to wake.
pub record LedBy {T : Type 0} (content : T → Content) (before after : Seat (Kept T) (PlacedView T)) (a : Account)
    (its_quiet : List Quiet) (its_todo : Todo) : Type 0 where
  pub seat : IsSameSeat before after
  pub session : HasSession (side_of after).0
  pub number : number_at after ≡ number_at before
  pub lone : StaysLone (side_of before).0 (side_of after).0
  pub account : account_at content after ≡ a
  pub quiet : quiet_at after ≡ its_quiet
  pub todo : todo_at after ≡ its_todo
  pub owed : owed_at after ≡ owed_at before
  pub others : KeepsOthers (side_of before).0 (side_of after).0

-- A call that made no quiet step, and leaves this to do.
abbrev pub LedTo : {T : Type 0} → (T → Content) → Seat (Kept T) (PlacedView T) → Seat (Kept T) (PlacedView T) → Account → Todo → Type 0
LedTo content before after a todo = LedBy content before after a (quiet_at before) todo

-- A call that made no quiet step, and leaves as much to do as there was.
abbrev pub Led : {T : Type 0} → (T → Content) → Seat (Kept T) (PlacedView T) → Seat (Kept T) (PlacedView T) → Account → Type 0
Led content before after a = LedTo content before after a (todo_at before)
