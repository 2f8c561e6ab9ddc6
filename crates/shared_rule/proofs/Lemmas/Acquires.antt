use Rattle.std.proofs.Common.{◌≡◌, ℕ, ◌∷◌, Option, None, refl, sym, ap, ◌∙◌, subst}
use Rattle.atomic_table.specs.declared.shared.Seat.{Seat}
use Rattle.lock_table.specs.declared.request.Request.{Request}
use Rattle.lock_table.specs.Content.{Content}
use Rattle.lock_world.specs.Account.{Account, SlotsInHand, ListAccount}
use Rattle.lw_word.specs.declared.words.LwMode.{LwMode}
use Rattle.lw_word.specs.declared.words.LwMode.TheVariants.{Exclusive, Shared}
use Rattle.lock_world.specs.AccountSteps.{account_taking}
use Rattle.lock_world.specs.AccountFacts.{KnowsContent, KnowsSlots}
use Rattle.shared_rule.specs.declared.history.PlacedView.{PlacedView}
use Rattle.shared_rule.specs.Marks.{TookFast, SharedFast}
use Rattle.shared_rule.specs.declared.kept.Kept.{Kept}
use Rattle.shared_rule.specs.declared.kept.Kept.TheVariants.{Nothing}
use Rattle.shared_rule.specs.History.{slots_shown}
use Rattle.shared_rule.specs.Layout.{content_shelf_of}
use Rattle.shared_rule.specs.Led.{LedBy, LedTo}
use Rattle.shared_rule.specs.LwLocks.{no_lists, queued_for}
use Rattle.shared_rule.specs.Acquires.{GotNothing, IsAsBefore, GetsSlots, account_getting, TakesPartition}
use Rattle.shared_rule.specs.Todos.{Todo, TriesAtMost, nothing_to_do, todo_attempted, todo_in_list, todo_got}
use Rattle.shared_rule.specs.Plays.{side_of, Side, account_at, number_at, quiet_at, todo_at, HasSession, IsSameSeat, TookSlots, SharedSlots}
use Rattle.shared_rule.specs.Quiet.{quiet_getting}
use Rattle.shared_rule.proofs.Lemmas.Led.{led-noted, led_to-as, led_by-as, led_by-todo, led_to-then, led_by-then}

-- How the calls of an acquire make it up.

-- An account with other lists, and with none where it had none.
abbrev pub with_lists : Account → ListAccount → Account
with_lists a lists = record a { lists = lists }

idle-same : (a : Account) → a.lists ≡ no_lists → with_lists a no_lists ≡ a
idle-same a idle = λ i. with_lists a (sym idle i)

-- What a session knows of a content, and of slots, is not of lists.
knows-content : (number : ℕ) (a : Account) (lists : ListAccount) (p : ℕ) (content : Content) → KnowsContent number (with_lists a lists) p content → KnowsContent number a p content
knows-content number a lists p content knows = record {
  holds_of_it = knows.holds_of_it;
  waits_of_it = knows.waits_of_it;
  its_holds = knows.its_holds;
  own_holds = knows.own_holds;
  tabled_holds = knows.tabled_holds;
  past = knows.past;
  own_stand = knows.own_stand;
  in_slots = knows.in_slots;
  no_wait = knows.no_wait;
  once = knows.once;
  granted_hold = knows.granted_hold;
}

knows-slots : (groups number : ℕ) (a : Account) (lists : ListAccount) (owner : ℕ) (slots : SlotsInHand) → KnowsSlots groups number (with_lists a lists) owner slots → KnowsSlots groups number a owner slots
knows-slots groups number a lists owner slots knows = record {
  database = knows.database;
  holds = knows.holds;
  one_each = knows.one_each;
  in_use = knows.in_use;
  in_groups = knows.in_groups;
  own_database = knows.own_database;
  own = knows.own;
  as_remembered = knows.as_remembered;
}

-- Getting slots comes to the same with other lists.
getting-with : (mode : LwMode) (number : ℕ) (a : Account) (lists after : ListAccount) (owner : ℕ) (slots : SlotsInHand)
    → with_lists (account_getting mode number (with_lists a lists) owner slots) after ≡ account_getting mode number (with_lists a after) owner slots
getting-with Exclusive number a lists after owner slots = refl
getting-with Shared number a lists after owner slots = refl

module _ {T : Type 0} (content : T → Content) where
  -- A step that took the lock of a session's slots,
  pub took-slots : (groups owner : ℕ) (before after : Seat (Kept T) (PlacedView T)) → HasSession (side_of before).0 → IsSameSeat before after
      → TookSlots content groups owner (side_of before) (side_of after) → GetsSlots content groups Exclusive owner before after
  took-slots groups owner before after has same took = record {
    shown = slots_shown took.database took.words;
    knows = took.knows;
    led = led-noted content before after (TookFast owner took.database took.words) has same (ap (λ (side : Side T). side.0) took.side) (λ owed i. owed);
    shelves = ap (λ (side : Side T). side.1) took.side;
  }

  -- or shared it.
  pub shared-slots : (groups owner : ℕ) (before after : Seat (Kept T) (PlacedView T)) → HasSession (side_of before).0 → IsSameSeat before after
      → SharedSlots content groups owner (side_of before) (side_of after) → GetsSlots content groups Shared owner before after
  shared-slots groups owner before after has same shares = record {
    shown = slots_shown shares.database shares.words;
    knows = shares.knows;
    led = led-noted content before after (SharedFast owner shares.database shares.words) has same (ap (λ (side : Side T). side.0) shares.side) (λ owed i. owed);
    shelves = ap (λ (side : Side T). side.1) shares.side;
  }

  -- A call that got nothing, with at most an attempt to make before and after it, and one more.
  module _ (before middle after : Seat (Kept T) (PlacedView T)) (todo : Todo) (first : GotNothing content before middle todo) where
    got-then : (does : Todo → Todo) → GotNothing content middle after (does (todo_at middle)) → GotNothing content before after (does todo)
    got-then does second = record {
      led = led_to-then content before middle after (account_at content before) todo (λ a. a) does first.led second.led;
      shelves = second.shelves ∙ first.shelves;
    }

    module _ (same : todo_attempted todo ≡ todo_attempted (todo_at before)) where
      pub tried-then_slots : (groups : ℕ) (mode : LwMode) (owner : ℕ) → GetsSlots content groups mode owner middle after → GetsSlots content groups mode owner before after
      tried-then_slots groups mode owner takes = record {
        shown = takes.shown;
        knows = subst (λ n. KnowsSlots groups n (account_at content before) owner takes.shown) first.led.number
            (subst (λ a. KnowsSlots groups (number_at middle) a owner takes.shown) first.led.account takes.knows);
        led = led_by-todo content before after _ _ (todo_attempted todo) (todo_attempted (todo_at before))
            (subst (λ n. LedBy content before after (account_getting mode n (account_at content before) owner takes.shown) (quiet_getting mode owner (quiet_at before)) (todo_attempted todo)) first.led.number
            (led_by-then content before middle after (account_at content before) (quiet_at before) todo (λ a. account_getting mode (number_at middle) a owner takes.shown) (quiet_getting mode owner) todo_attempted first.led takes.led))
            same;
        shelves = takes.shelves ∙ first.shelves;
      }

      pub tried-then_part : (begun : T → Option Request) (sessions part : ℕ) (taken : T) → TakesPartition content begun sessions part middle after taken → TakesPartition content begun sessions part before after taken
      tried-then_part begun sessions part taken takes = record {
        led = led_by-todo content before after _ _ (todo_attempted todo) (todo_attempted (todo_at before))
            (led_to-then content before middle after (account_at content before) todo (λ a. account_taking a part (content taken)) todo_attempted first.led takes.led)
            same;
        shelves = takes.shelves ∙ ap (λ shelves. (content_shelf_of part, Nothing) ∷ shelves) first.shelves;
        none_begun = takes.none_begun;
        knows = subst (λ n. KnowsContent n (account_at content before) part (content taken)) first.led.number
            (subst (λ a. KnowsContent (number_at middle) a part (content taken)) first.led.account takes.knows);
        waiters = takes.waiters;
      }

  -- A call that got nothing and left all as it was, with one attempt more.
  pub nothing-then_got :
      (before middle after : Seat (Kept T) (PlacedView T)) → IsAsBefore content before middle → (does : Todo → Todo)
      → GotNothing content middle after (does (todo_at middle)) → GotNothing content before after (does (todo_at before))
  nothing-then_got before middle after first = got-then before middle after (todo_at before) first

  -- Between queueing and leaving the list.
  module _ (lock : ℕ) (before queued attempted after : Seat (Kept T) (PlacedView T)) (idle : (account_at content before).lists ≡ no_lists) (tries : TriesAtMost lock (todo_at before))
      (queues : LedTo content before queued (with_lists (account_at content before) (queued_for lock)) (todo_in_list lock)) (same : (side_of queued).1 ≡ (side_of before).1) where
    -- Either way there is nothing else to attempt.
    once-tried : nothing_to_do ≡ todo_attempted (todo_at before)
    once-tried = λ i. record { due = sym tries.no_look i; tries = None; owes_release_ok = sym tries.no_ok i; calls = sym tries.calls_nobody i; lost = 0 }

    -- A partition was got,
    pub took_part-between :
        (begun : T → Option Request) (sessions part : ℕ) (taken : T) → TakesPartition content begun sessions part queued attempted taken
        → LedTo content attempted after (with_lists (account_at content attempted) no_lists) nothing_to_do → (side_of after).1 ≡ (side_of attempted).1
        → TakesPartition content begun sessions part before after taken
    took_part-between begun sessions part taken takes leaves rest =
        let a : Account = account_at content before in
        let twice = led_to-then content before queued attempted (with_lists a (queued_for lock)) (todo_in_list lock) (λ b. account_taking b part (content taken)) todo_attempted queues takes.led in
        let thrice = led_to-then content before attempted after (account_taking (with_lists a (queued_for lock)) part (content taken)) (todo_got lock) (λ b. with_lists b no_lists) (λ _. nothing_to_do) twice leaves in
        record {
          led = led_by-todo content before after _ _ nothing_to_do (todo_attempted (todo_at before))
              (led_to-as content before after nothing_to_do (account_taking (with_lists a no_lists) part (content taken)) (account_taking a part (content taken)) thrice (ap (λ b. account_taking b part (content taken)) (idle-same a idle)))
              once-tried;
          shelves = rest ∙ takes.shelves ∙ ap (λ shelves. (content_shelf_of part, Nothing) ∷ shelves) same;
          none_begun = takes.none_begun;
          knows = knows-content (number_at before) a (queued_for lock) part (content taken)
              (subst (λ n. KnowsContent n (with_lists a (queued_for lock)) part (content taken)) queues.number
              (subst (λ b. KnowsContent (number_at queued) b part (content taken)) queues.account takes.knows));
          waiters = takes.waiters;
        }

    -- or the lock of a session's slots,
    pub got_slots-between :
        (groups : ℕ) (mode : LwMode) (owner : ℕ) → GetsSlots content groups mode owner queued attempted
        → LedTo content attempted after (with_lists (account_at content attempted) no_lists) nothing_to_do → (side_of after).1 ≡ (side_of attempted).1
        → GetsSlots content groups mode owner before after
    got_slots-between groups mode owner takes leaves rest =
        let a : Account = account_at content before in
        let n : ℕ = number_at queued in
        let its = quiet_getting mode owner (quiet_at before) in
        let twice = led_by-then content before queued attempted (with_lists a (queued_for lock)) (quiet_at before) (todo_in_list lock) (λ b. account_getting mode n b owner takes.shown) (quiet_getting mode owner) todo_attempted queues takes.led in
        let thrice = led_by-then content before attempted after (account_getting mode n (with_lists a (queued_for lock)) owner takes.shown) its (todo_got lock) (λ b. with_lists b no_lists) (λ q. q) (λ _. nothing_to_do) twice leaves in
        let fourth : LedBy content before after (account_getting mode n a owner takes.shown) its nothing_to_do =
        led_by-as content before after its nothing_to_do (with_lists (account_getting mode n (with_lists a (queued_for lock)) owner takes.shown) no_lists) (account_getting mode n a owner takes.shown) thrice
        (getting-with mode n a (queued_for lock) no_lists owner takes.shown ∙ ap (λ b. account_getting mode n b owner takes.shown) (idle-same a idle)) in
        record {
          shown = takes.shown;
          knows = knows-slots groups (number_at before) a (queued_for lock) owner takes.shown
              (subst (λ n. KnowsSlots groups n (with_lists a (queued_for lock)) owner takes.shown) queues.number
              (subst (λ b. KnowsSlots groups (number_at queued) b owner takes.shown) queues.account takes.knows));
          led = led_by-todo content before after _ _ nothing_to_do (todo_attempted (todo_at before))
              (subst (λ n. LedBy content before after (account_getting mode n a owner takes.shown) its nothing_to_do) queues.number fourth) once-tried;
          shelves = rest ∙ takes.shelves ∙ same;
        }
