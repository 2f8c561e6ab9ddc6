use Rattle.std.proofs.Common.{◌≡◌, ℕ, List, [], sym, ap, ◌∙◌, subst}
use Rattle.atomic_table.specs.declared.shared.Seat.{Seat}
use Rattle.lock_table.specs.Content.{Content}
use Rattle.lock_world.specs.Account.{Account}
use Rattle.shared_rule.specs.declared.history.PlacedView.{PlacedView}
use Rattle.shared_rule.specs.declared.history.View.{View}
use Rattle.shared_rule.specs.declared.kept.Kept.{Kept}
use Rattle.shared_rule.specs.Boards.{parts_in_hand, shelves_out, first_marks, IsAtRest, StaysLone}
use Rattle.shared_rule.specs.History.{first_account}
use Rattle.shared_rule.specs.Led.{Led, LedBy}
use Rattle.shared_rule.specs.LwLocks.{no_lists}
use Rattle.shared_rule.specs.Plays.{side_of, account_at, todo_at, HasSession}
use Rattle.shared_rule.specs.Quiet.{Quiet}
use Rattle.shared_rule.specs.Todos.{Todo, todo_attempted, nothing_to_do}
use Rattle.shared_rule.proofs.Lemmas.Idle.{lists-told, idle-still}

-- What a board keeps between two calls, before and after a call of several steps.

module _ {T : Type 0} where
  -- A session whose board is at rest is in no wait list, and has none in hand.
  pub rests-lists : (content : T → Content) {number : ℕ} {view : View T} {shelves : List (ℕ × Kept T)} → IsAtRest number view shelves
      → (first_account content view.sessions).lists ≡ no_lists
  rests-lists content {view = view} rests = lists-told content view.sessions ∙ rests.idle.none

  -- The seat of a board at rest is one session's.
  pub rests-session : {number : ℕ} {view : View T} {shelves : List (ℕ × Kept T)} → IsAtRest number view shelves → HasSession view
  rests-session {number} {view} rests = record {
    history = record { number = number; marks = first_marks view.sessions };
    others = [];
    sessions = ap (λ (v : View T). v.sessions) rests.lone;
  }

  -- Where no content came or went, those in hand are off their shelves still.
  out-still : (before after : List (ℕ × Kept T)) → after ≡ before → before ≡ shelves_out (parts_in_hand before)
      → after ≡ shelves_out (parts_in_hand after)
  out-still before after same out = subst (λ (shelves : List (ℕ × Kept T)). shelves ≡ shelves_out (parts_in_hand shelves)) (sym same) out

  -- A call leaves a board at rest that leaves the session's lists as they were and nothing to do for those
  -- who wait, with those contents off their shelves that are in hand;
  pub led-rests : {content : T → Content} {number : ℕ} {before after : Seat (Kept T) (PlacedView T)} {a : Account} {quiet : List Quiet} {todo : Todo}
      → LedBy content before after a quiet todo → a.lists ≡ (account_at content before).lists → todo ≡ nothing_to_do
      → (side_of after).1 ≡ shelves_out (parts_in_hand (side_of after).1) → IsAtRest number (side_of before).0 (side_of before).1 → IsAtRest number (side_of after).0 (side_of after).1
  led-rests {content} {number} {before} {after} led same free out rests = record {
    lone = led.lone number rests.lone;
    out = out;
    idle = idle-still content (side_of before).0.sessions (side_of after).0.sessions (ap (λ (a : Account). a.lists) led.account ∙ same) (led.todo ∙ free) rests.idle;
  }

  -- so does one that made no quiet step, and after which no content came or went;
  pub released-rests : {content : T → Content} {number : ℕ} {before after : Seat (Kept T) (PlacedView T)} {a : Account}
      → Led content before after a → a.lists ≡ (account_at content before).lists → (side_of after).1 ≡ (side_of before).1
      → IsAtRest number (side_of before).0 (side_of before).1 → IsAtRest number (side_of after).0 (side_of after).1
  released-rests {before = before} {after} led same shelves rests =
      led-rests led same rests.idle.free (out-still (side_of before).1 (side_of after).1 shelves rests.out) rests

  -- so does an acquire of a lightweight lock of slots;
  pub acquired-rests : {content : T → Content} {number : ℕ} {before after : Seat (Kept T) (PlacedView T)} {a : Account} {quiet : List Quiet}
      → LedBy content before after a quiet (todo_attempted (todo_at before)) → a.lists ≡ (account_at content before).lists → (side_of after).1 ≡ (side_of before).1
      → IsAtRest number (side_of before).0 (side_of before).1 → IsAtRest number (side_of after).0 (side_of after).1
  acquired-rests {before = before} {after} led same shelves rests =
      led-rests led same (ap todo_attempted rests.idle.free) (out-still (side_of before).1 (side_of after).1 shelves rests.out) rests

  -- and so does one try for the lock of its own slots.
  pub tried-rests : (content : T → Content) {number : ℕ} (before after : Seat (Kept T) (PlacedView T)) → (account_at content after).lists ≡ (account_at content before).lists
      → todo_at after ≡ nothing_to_do → StaysLone (side_of before).0 (side_of after).0 → (side_of after).1 ≡ (side_of before).1 → IsAtRest number (side_of before).0 (side_of before).1
      → IsAtRest number (side_of after).0 (side_of after).1
  tried-rests content {number} before after same free lone shelves rests = record {
    lone = lone number rests.lone;
    out = out-still (side_of before).1 (side_of after).1 shelves rests.out;
    idle = idle-still content (side_of before).0.sessions (side_of after).0.sessions same free rests.idle;
  }
