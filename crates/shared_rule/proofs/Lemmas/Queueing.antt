use Rattle.std.proofs.Common.{◌≡◌, ℕ, ◌<◌, ◌≤◌, ◌+◌, List, ◌∷◌, drop, length, get_or, Some, None, refl, sym, ap, ◌∙◌, subst, inl, inr}
use Rattle.std.proofs.lemmas.List.{drop_more, drop_all}
use Rattle.std.proofs.lemmas.Bool.{cond-true, eq-eqb}
use Rattle.std.specs.Prelude.{◌==◌, ◌&&◌, not, false, is_some, if◌then◌else◌}
use Rattle.lw_word.specs.WaitList.{stands_in}
use Rattle.atomic_table.specs.declared.shared.Seat.{Seat}
use Rattle.lw_word.specs.declared.wait_lists.LwWaiter.{LwWaiter}
use Rattle.lock_table.specs.Content.{Content}
use Rattle.lock_world.specs.Account.{Account, ListAccount}
use Rattle.lock_world.specs.AccountSteps.{account_locking_list, account_unlocking_list, account_joining_list}
use Rattle.lock_world.specs.AccountSteps.{account_leaving_list, account_taking_off, account_telling}
use Rattle.shared_rule.specs.declared.history.PlacedView.{PlacedView}
use Rattle.shared_rule.specs.declared.kept.Kept.{Kept}
use Rattle.shared_rule.specs.History.{list_here}
use Rattle.shared_rule.specs.Led.{Led, LedTo}
use Rattle.shared_rule.specs.LwLocks.{no_lists, queued_for}
use Rattle.shared_rule.specs.Plays.{account_at, todo_at}
use Rattle.shared_rule.specs.Wakeups.{all_taken_off, all_told, all_owed, all_called, MayTakeAllOff, MayTellAll}
use Rattle.shared_rule.specs.declared.lw_locks.LwLock.{LwLock}
use Rattle.shared_rule.specs.declared.lw_locks.LwLock.TheVariants.{OfPart, OfSlots}
use Rattle.shared_rule.specs.Todos.{Todo, todo_owing, todo_calling, HasBy, TriesAtMost, nothing_to_do, todo_queueing, todo_leaving, todo_told, todo_setting_ok, todo_in_list, todo_got, lock_of_list, is_off_list_in_hand}
use Rattle.shared_rule.proofs.Lemmas.Led.{led-then, led_to-then, led_to-as, led_by-todo}

-- What queueing, leaving a list and waking make of an account, step by step.

module _ {T : Type 0} (content : T → Content) (before locked : Seat (Kept T) (PlacedView T)) (lock : ℕ) (waiters : List LwWaiter)
    (locks : Led content before locked (account_locking_list (account_at content before) lock waiters)) where
  abbrev a : Account
  a = account_at content before

  -- The list is in hand then.
  pub list-in_hand : (account_at content locked).lists.in_hand ≡ Some (record { lock = lock; waiters = waiters })
  list-in_hand = ap (λ (b : Account). b.lists.in_hand) locks.account

  pub stands-still : (account_at content locked).lists.stands ≡ a.lists.stands
  stands-still = ap (λ (b : Account). b.lists.stands) locks.account

  -- Queueing: the list is locked, has-waiters set, the list joined and unlocked.
  pub queued :
      (flagged joined after : Seat (Kept T) (PlacedView T)) (waiter : LwWaiter) → a.lists ≡ no_lists → TriesAtMost lock (todo_at before)
      → Led content locked flagged (account_at content locked)
      → LedTo content flagged joined (account_joining_list (account_at content flagged) (list_here (account_at content flagged).lists.in_hand) waiter)
      (todo_queueing (todo_at flagged) (lock_of_list (account_at content flagged).lists.in_hand))
      → Led content joined after (account_unlocking_list (account_at content joined))
      → LedTo content before after (record a { lists = queued_for lock }) (todo_in_list lock)
  queued flagged joined after waiter idle tries flags joins unlocks =
      let one = led-then content before locked flagged (account_locking_list a lock waiters) (λ b. b) locks flags in
      let it : lock_of_list (account_at content flagged).lists.in_hand ≡ Some lock = ap (λ (b : Account). lock_of_list b.lists.in_hand) one.account in
      let joins' = subst (λ its. LedTo content flagged joined (account_joining_list (account_at content flagged) (list_here (account_at content flagged).lists.in_hand) waiter) (todo_queueing (todo_at flagged) its)) it joins in
      let two = led_to-then content before flagged joined (account_locking_list a lock waiters) (todo_at before) (λ b. account_joining_list b (list_here b.lists.in_hand) waiter) (λ todo. todo_queueing todo (Some lock)) one joins' in
      let three = led_to-then content before joined after
      (account_joining_list (account_locking_list a lock waiters) (list_here (account_locking_list a lock waiters).lists.in_hand) waiter) (todo_queueing (todo_at before) (Some lock)) account_unlocking_list (λ todo. todo) two unlocks in
      let four = led_to-as content before after (todo_queueing (todo_at before) (Some lock)) _ _ three (ap (λ (lists : ListAccount). record a { lists = record { in_hand = None; stands = Some lock; off = lists.off } }) idle) in
      led_by-todo content before after _ _ (todo_queueing (todo_at before) (Some lock)) (todo_in_list lock) four (λ i. record { due = tries.no_look i; tries = Some lock; owes_release_ok = Some lock; calls = tries.calls_nobody i; lost = 0 })

  -- Leaving: it is locked, left and unlocked,
  pub dequeued :
      (left after : Seat (Kept T) (PlacedView T)) (number : ℕ) → a.lists ≡ queued_for lock → todo_at before ≡ todo_got lock
      → LedTo content locked left (account_leaving_list (account_at content locked) (list_here (account_at content locked).lists.in_hand) number) (todo_leaving (todo_at locked))
      → Led content left after (account_unlocking_list (account_at content left))
      → LedTo content before after (record a { lists = no_lists }) nothing_to_do
  dequeued left after number stood got leaves unlocks =
      let one = led_to-then content before locked left (account_locking_list a lock waiters) (todo_at before) (λ b. account_leaving_list b (list_here b.lists.in_hand) number) todo_leaving locks leaves in
      let two = led_to-then content before left after
      (account_leaving_list (account_locking_list a lock waiters) (list_here (account_locking_list a lock waiters).lists.in_hand) number) (todo_leaving (todo_at before)) account_unlocking_list (λ todo. todo) one unlocks in
      let three = led_to-as content before after (todo_leaving (todo_at before)) _ _ two (ap (λ (lists : ListAccount). record a { lists = record { in_hand = None; stands = None; off = lists.off } }) stood) in
      led_by-todo content before after _ _ (todo_leaving (todo_at before)) nothing_to_do three (ap todo_leaving got)

  -- Release-ok, set with the list in hand by one that got its lock and is off the list, is not owed any more.
  won-ok : (number : ℕ) → a.lists ≡ queued_for lock → stands_in number waiters ≡ false
      → todo_setting_ok number (account_locking_list a lock waiters).lists (todo_got lock) lock ≡ nothing_to_do
  won-ok number stood off =
      cond-true (lock == lock) _ _ (eq-eqb lock lock refl)
      ∙ ap (λ stands. if not (is_some stands) then todo_told (todo_got lock) lock
      else (if is_off_list_in_hand number (Some (record { lock = lock; waiters = waiters })) lock then todo_leaving (todo_got lock) else todo_got lock)) (ap (λ (lists : ListAccount). lists.stands) stood)
      ∙ cond-true (is_off_list_in_hand number (Some (record { lock = lock; waiters = waiters })) lock) _ _ ((λ i. eq-eqb lock lock refl i && not (off i)))

  pub won-todo : (number : ℕ) → a.lists ≡ queued_for lock → todo_at before ≡ todo_got lock → stands_in number waiters ≡ false
      → todo_setting_ok number (account_at content locked).lists (todo_at locked) lock ≡ nothing_to_do
  won-todo number stood got off =
      (λ i. todo_setting_ok number (ap (λ (b : Account). b.lists) locks.account i) ((locks.todo ∙ got) i) lock) ∙ won-ok number stood off

  -- or, where somebody has taken the session off, release-ok is set, the list unlocked, and the session
  -- sleeps until it is told.
  pub taken_off-told :
      (flagged unlocked after : Seat (Kept T) (PlacedView T)) (number : ℕ) → a.lists ≡ queued_for lock → todo_at before ≡ todo_got lock → stands_in number waiters ≡ false
      → LedTo content locked flagged (account_at content locked) (todo_setting_ok number (account_at content locked).lists (todo_at locked) lock)
      → Led content flagged unlocked (account_unlocking_list (account_at content flagged))
      → Led content unlocked after (record (account_at content unlocked) { lists = record ((account_at content unlocked).lists) { stands = None } })
      → LedTo content before after (record a { lists = no_lists }) nothing_to_do
  taken_off-told flagged unlocked after number stood got off sets unlocks sleeps =
      let zero = led_by-todo content locked flagged _ _ _ nothing_to_do sets (won-todo number stood got off) in
      let one = led_to-then content before locked flagged (account_locking_list a lock waiters) (todo_at before) (λ b. b) (λ _. nothing_to_do) locks zero in
      let two = led_to-then content before flagged unlocked (account_locking_list a lock waiters) nothing_to_do account_unlocking_list (λ todo. todo) one unlocks in
      let three = led_to-then content before unlocked after (account_unlocking_list (account_locking_list a lock waiters)) nothing_to_do
      (λ b. record b { lists = record (b.lists) { stands = None } }) (λ todo. todo) two sleeps in
      led_to-as content before after nothing_to_do _ _ three (ap (λ (lists : ListAccount). record a { lists = record { in_hand = None; stands = None; off = lists.off } }) stood)

-- The waiter at a place is the first of those from there on.
pub next-waiter : (waiters : List LwWaiter) (i : ℕ) (waiter : LwWaiter) → i < length waiters → waiter ≡ get_or waiters i waiter → drop i waiters ≡ waiter ∷ drop (i + 1) waiters
next-waiter waiters i waiter within is = drop_more waiters i waiter within ∙ ap (λ its. its ∷ drop (i + 1) waiters) (sym is)

-- Taking off those from a place on, and telling them.
module _ {T : Type 0} (content : T → Content) (items : List LwWaiter) (i : ℕ) (waiter : LwWaiter)
    (within : i < length items) (is : waiter ≡ get_or items i waiter) where
  pub may_take_off-first : (number : ℕ) (a : Account) → MayTakeAllOff number a (drop i items) → MayTakeAllOff number a (waiter ∷ drop (i + 1) items)
  may_take_off-first number a may = subst (MayTakeAllOff number a) (next-waiter items i waiter within is) may

  pub may_tell-first : (a : Account) → MayTellAll a (drop i items) → MayTellAll a (waiter ∷ drop (i + 1) items)
  may_tell-first a may = subst (MayTellAll a) (next-waiter items i waiter within is) may

  pub off-next : (a b end : Account) → all_taken_off a (drop i items) ≡ end → b ≡ account_taking_off a (list_here a.lists.in_hand) waiter.session → all_taken_off b (drop (i + 1) items) ≡ end
  off-next a b end ends same = ap (λ c. all_taken_off c (drop (i + 1) items)) same ∙ sym (ap (all_taken_off a) (next-waiter items i waiter within is)) ∙ ends

  pub told-next : (a b end : Account) → all_told a (drop i items) ≡ end → b ≡ account_telling a waiter.session → all_told b (drop (i + 1) items) ≡ end
  told-next a b end ends same = ap (λ c. all_told c (drop (i + 1) items)) same ∙ sym (ap (all_told a) (next-waiter items i waiter within is)) ∙ ends

pub off-last : (items : List LwWaiter) (i : ℕ) (a end : Account) → length items ≤ i → all_taken_off a (drop i items) ≡ end → a ≡ end
off-last items i a end past ends = sym (ap (all_taken_off a) (drop_all i items past)) ∙ ends

pub told-last : (items : List LwWaiter) (i : ℕ) (a end : Account) → length items ≤ i → all_told a (drop i items) ≡ end → a ≡ end
told-last items i a end past ends = sym (ap (all_told a) (drop_all i items past)) ∙ ends

-- What is to do, in the same way.
module _ (items : List LwWaiter) (i : ℕ) (waiter : LwWaiter) (within : i < length items) (is : waiter ≡ get_or items i waiter) where
  pub owed-next : (todo other end : Todo) → all_owed todo (drop i items) ≡ end → other ≡ todo_owing todo waiter.session → all_owed other (drop (i + 1) items) ≡ end
  owed-next todo other end ends same = ap (λ t. all_owed t (drop (i + 1) items)) same ∙ sym (ap (all_owed todo) (next-waiter items i waiter within is)) ∙ ends

  pub called-next : (todo other end : Todo) → all_called todo (drop i items) ≡ end → other ≡ todo_calling (todo_owing todo waiter.session) waiter.session → all_called other (drop (i + 1) items) ≡ end
  called-next todo other end ends same = ap (λ t. all_called t (drop (i + 1) items)) same ∙ sym (ap (all_called todo) (next-waiter items i waiter within is)) ∙ ends

pub owed-last : (items : List LwWaiter) (i : ℕ) (todo end : Todo) → length items ≤ i → all_owed todo (drop i items) ≡ end → todo ≡ end
owed-last items i todo end past ends = sym (ap (all_owed todo) (drop_all i items past)) ∙ ends

pub called-last : (items : List LwWaiter) (i : ℕ) (todo end : Todo) → length items ≤ i → all_called todo (drop i items) ≡ end → todo ≡ end
called-last items i todo end past ends = sym (ap (all_called todo) (drop_all i items past)) ∙ ends

-- Steps on lists leave what the session has of locks.
pub got-left : (lock : LwLock) (a b : Account) (lists : ListAccount) → b ≡ record a { lists = lists } → HasBy a lock → HasBy b lock
got-left (OfPart part) a b lists same (inl has) = inl (ap (λ (c : Account). is_some (c.hand part)) same ∙ has)
got-left (OfPart part) a b lists same (inr has) = inr (ap (λ (c : Account). c.shares part) same ∙ has)
got-left (OfSlots owner) a b lists same (inl has) = inl (ap (λ (c : Account). is_some (c.fast.slots owner)) same ∙ has)
got-left (OfSlots owner) a b lists same (inr has) = inr (ap (λ (c : Account). is_some (c.fast.shared_slots owner)) same ∙ has)
