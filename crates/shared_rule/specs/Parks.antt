use Rattle.std.specs.Prelude.{◌≡◌, ◌≢◌, ℕ, List, [], ◌∷◌}
use Rattle.atomic_table.specs.declared.shared.Seat.{Seat}
use Rattle.lock_world.specs.declared.events.Word.TheVariants.{Wait, Sleep}
use Rattle.lock_world.specs.WaitWord.{wait_state}
use Rattle.lock_world.specs.Account.{Account}
use Rattle.shared_rule.specs.declared.history.Mark.{Mark}
use Rattle.shared_rule.specs.declared.history.PlacedView.{PlacedView}
use Rattle.shared_rule.specs.declared.kept.Kept.{Kept}
use Rattle.shared_rule.specs.Boards.{first_marks}
use Rattle.shared_rule.specs.Layout.{index_of_word}
use Rattle.shared_rule.specs.LwLocks.{no_lists}
use Rattle.shared_rule.specs.Marks.{CalledWaiter, CalledSleeper, ParksWaiting, ParksAsleep}
use Rattle.shared_rule.specs.Plays.{side_of, number_at}
use Rattle.shared_rule.specs.Todos.{Todo, HasNoLock, nothing_to_do}

-- Parking on a word of its own: what a session has done before. And calling one that may be parked.

-- Parking on its wait word: the session has no lightweight lock, stands in no wait list, and has nothing to
-- do for others and nobody to wake.
pub record HasNothingLeft (a : Account) (todo : Todo) (owed : List ℕ) : Type 0 where
  pub no_lock : HasNoLock a
  pub no_lists_ : a.lists ≡ no_lists
  pub free : todo ≡ nothing_to_do
  pub wakes_nobody : owed ≡ []

module _ {T : Type 0} where
  -- By its last mark the session of the seat looked at the word at this index to park on it, one of its own
  -- two, and it showed this: a wait word no grant, a sleep word not that the session was told.
  pub data LookedToPark (sessions : ℕ) (seat : Seat (Kept T) (PlacedView T)) (word shown : ℕ) : Type 0 where
    at_wait_word :
        (before : List (Mark T)) → first_marks (side_of seat).0.sessions ≡ ParksWaiting shown ∷ before
        → word ≡ index_of_word sessions (Wait (number_at seat)) → wait_state shown ≢ 2
        → LookedToPark sessions seat word shown
    at_sleep_word :
        (before : List (Mark T)) → first_marks (side_of seat).0.sessions ≡ ParksAsleep shown ∷ before
        → word ≡ index_of_word sessions (Sleep (number_at seat)) → shown ≢ 0
        → LookedToPark sessions seat word shown

  -- The mark is that of a call of the session that may be parked on the word at this index.
  pub data CallsAt (sessions : ℕ) (mark : Mark T) (word : ℕ) : Type 0 where
    calls_on_wait : (other : ℕ) → mark ≡ CalledWaiter other → word ≡ index_of_word sessions (Wait other) → CallsAt sessions mark word
    calls_on_sleep : (other : ℕ) → mark ≡ CalledSleeper other → word ≡ index_of_word sessions (Sleep other) → CallsAt sessions mark word
