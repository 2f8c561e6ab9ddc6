use Rattle.std.proofs.Common.{◌≡◌, ℕ, [], Option, sym, ap, ◌∙◌, subst}
use Rattle.atomic_table.specs.declared.shared.Seat.{Seat}
use Rattle.lock_table.specs.declared.request.Request.{Request}
use Rattle.lock_table.specs.Content.{Content}
use Rattle.lw_word.specs.declared.words.LwMode.{LwMode}
use Rattle.shared_rule.specs.declared.history.PlacedView.{PlacedView}
use Rattle.shared_rule.specs.declared.kept.Kept.{Kept}
use Rattle.shared_rule.specs.Acquires.{GetsSlots, TakesPartition}
use Rattle.shared_rule.specs.Led.{LedTo}
use Rattle.shared_rule.specs.LwLocks.{lock_number, no_lists, queued_for}
use Rattle.shared_rule.specs.Plays.{account_at, todo_at, owed_at, side_of}
use Rattle.shared_rule.specs.Todos.{nothing_to_do, todo_lost, todo_held, IsLatestBy}
use Rattle.shared_rule.specs.Waiting.{Sought, IsQueued, HasSeenHeld, HasWonQueued}
use Rattle.shared_rule.proofs.Lemmas.Acquires.{took_part-between, got_slots-between}
use Rattle.shared_rule.proofs.Lemmas.Orders.{latest-with}

-- Whoever has won in the list, and left it, has what it came for.
module _ {T : Type 0} (content : T → Content) (sought : Sought) (first now last : Seat (Kept T) (PlacedView T))
    (leaves : LedTo content now last (record (account_at content now) { lists = no_lists }) nothing_to_do) (slots : (side_of last).1 ≡ (side_of now).1) where
  pub part-left :
      (begun : T → Option Request) (sessions part : ℕ) (taken : T)
      → HasWonQueued content sought (λ at after. TakesPartition content begun sessions part at after taken) first now
      → TakesPartition content begun sessions part first last taken
  part-left begun sessions part taken has =
      let waits = has.waits in
      took_part-between content (lock_number sought.lock) first has.at now last waits.began.idle waits.began.todo waits.queues waits.shelves begun sessions part taken
      has.won leaves slots

  pub slots-left :
      (groups : ℕ) (mode : LwMode) (owner : ℕ) → HasWonQueued content sought (GetsSlots content groups mode owner) first now
      → GetsSlots content groups mode owner first last
  slots-left groups mode owner has =
      let waits = has.waits in
      got_slots-between content (lock_number sought.lock) first has.at now last waits.began.idle waits.began.todo waits.queues waits.shelves groups mode owner
      has.won leaves slots

-- Whoever stands in the list has nobody to wake, and where it lost it has earlier locks alone.
module _ {T : Type 0} (content : T → Content) (sought : Sought) (first now : Seat (Kept T) (PlacedView T)) where
  queued-owed : IsQueued content sought first now → owed_at now ≡ []
  queued-owed waits = waits.queues.owed ∙ waits.began.wakes_nobody

module _ {T : Type 0} (content : T → Content) (sought : Sought) (first now : Seat (Kept T) (PlacedView T)) where
  pub lost-owed : HasSeenHeld content sought first now → owed_at now ≡ []
  lost-owed seen = seen.saw.nothing.led.owed ∙ queued-owed content sought first seen.at seen.waits

  pub lost-todo : HasSeenHeld content sought first now → todo_at now ≡ todo_held (lock_number sought.lock)
  lost-todo seen = seen.saw.nothing.led.todo ∙ ap todo_lost seen.waits.queues.todo

  pub lost-latest : HasSeenHeld content sought first now → IsLatestBy (account_at content now) sought.lock
  lost-latest seen =
      subst (λ a. IsLatestBy a sought.lock) (sym (seen.saw.nothing.led.account ∙ seen.waits.queues.account))
      (latest-with (account_at content first) (queued_for (lock_number sought.lock)) sought.lock seen.waits.began.latest)

  pub won-owed : (wins : Seat (Kept T) (PlacedView T) → Seat (Kept T) (PlacedView T) → Type 0) → ((at after : Seat (Kept T) (PlacedView T)) → wins at after → owed_at after ≡ owed_at at)
      → HasWonQueued content sought wins first now → owed_at now ≡ []
  won-owed wins same has = same has.at now has.won ∙ queued-owed content sought first has.at has.waits
