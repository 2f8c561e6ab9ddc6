use Rattle.std.proofs.Common.{◌≡◌, ◌≢◌, ℕ, ◌/◌, ◌%◌, ◌^◌, ◌<◌, ◌==◌, Bool, true, false, List, [], ◌∷◌, ◌++◌}
use Rattle.std.proofs.Common.{Option, Some, None, refl, sym, ap, ◌∙◌, subst, bit_or}
use Rattle.std.specs.Prelude.{if◌then◌else◌}
use Rattle.lw_word.specs.declared.wait_lists.LwWaiter.{LwWaiter}
use Rattle.lw_word.specs.declared.words.LwMode.{LwMode}
use Rattle.lw_word.specs.LightweightWord.{list_locked_word, list_unlocked_word, release_ok_word, has_waiters_word}
use Rattle.lw_word.specs.WaitList.{without}
use Rattle.lock_table.specs.Content.{Content}
use Rattle.lock_table.specs.Put.{set_at}
use Rattle.lock_table.proofs.Lemmas.Put.{set_at-else, set_at-same}
use Rattle.lock_world.specs.declared.events.Word.TheVariants.{Partition, Fast, Sleep}
use Rattle.lock_world.specs.declared.events.Step.TheVariants as step_of
use Rattle.lock_world.specs.World.{World, Words, word_in}
use Rattle.lock_world.specs.WaitLists.{partition_lock, fast_lock, after_seeing_none}
use Rattle.lock_world.specs.Happens.Lists.{sleepers, with_sleepers, after_locking_partition_list, after_locking_fast_list, HasList}
use Rattle.lock_world.specs.Happens.Lists.{after_unlocking_partition_list, after_unlocking_fast_list, after_joining_list, after_leaving_the_list}
use Rattle.lock_world.specs.Happens.Lists.{after_taking_off_the_list, after_telling_one, after_loading_sleep, after_flagging_partition, after_flagging_fast}
use Rattle.lock_world.specs.Account.{Account, ListInHand, list_in_hand, account}
use Rattle.lock_world.specs.AccountSteps.{account_locking_list, account_unlocking_list, account_joining_list, account_leaving_list}
use Rattle.lock_world.specs.AccountSteps.{account_taking_off, account_telling, account_loading_sleep}
use Rattle.lock_world.specs.AccountLaw.{MayLockListBy, MayJoinListBy, MayLeaveListBy, MayTakeOffBy, MayTellBy}
use Rattle.lock_world.proofs.Lemmas.Accounts.Lists.{list_now, account-locking_partition_list, account-locking_fast_list}
use Rattle.lock_world.proofs.Lemmas.Accounts.Lists.{account-unlocking_partition_list, account-unlocking_fast_list, account-joining_list, account-leaving_list}
use Rattle.lock_world.proofs.Lemmas.Accounts.Lists.{account-taking_off, account-telling, account-loading_sleep}
use Rattle.lock_world.proofs.Lemmas.Accounts.Lists.{lock_list-lawful, has_list-lawful, join_list-lawful, leave_list-lawful, take_off-lawful, tell-lawful}
use Rattle.shared_rule.specs.declared.history.Mark.{Mark}
use Rattle.lock_world.specs.Wakes.Waking.{NoneOr}
use Rattle.shared_rule.specs.Todos.{Todo, todo_told_by, flagged_told_by, JoinsLatest}
use Rattle.shared_rule.specs.Todos.{TellsNobodyBy, IsLeftWellBy, lock_of_list}
use Rattle.lock_world.specs.Wakes.Owing.{IsLatest}
use Rattle.lock_world.proofs.Lemmas.Wakes.Readings.{some-same}
use Rattle.shared_rule.proofs.Lemmas.Orders.{latest-by, none-shared}
use Rattle.shared_rule.proofs.Lemmas.Owings.{keeps-unlocking, keeps-setting_ok, lock-in_hand, tells-told}
use Rattle.shared_rule.proofs.Lemmas.StepsOwed.{keeps-locking, keeps-joining, keeps-leaving, keeps-flagging, calls-here}
use Rattle.shared_rule.specs.Marks as mark
use Rattle.shared_rule.specs.declared.history.History.{History}
use Rattle.shared_rule.specs.declared.rule.TableSizes.{TableSizes}
use Rattle.shared_rule.specs.declared.lw_locks.LwLock.{LwLock}
use Rattle.shared_rule.specs.declared.lw_locks.LwLock.TheVariants.{OfPart, OfSlots}
use Rattle.shared_rule.specs.LwLocks.{word_of_lock, lock_number, LockExists}
use Rattle.shared_rule.specs.Shown.{set_word}
use Rattle.shared_rule.specs.History.{told, list_here}
use Rattle.shared_rule.specs.Ruled.{IsInNoHand}
use Rattle.shared_rule.proofs.Lemmas.Frame.{Stepper, IsNoted}
use Rattle.shared_rule.proofs.Lemmas.Events.Words.{IsAlwaysLawful}
use Rattle.shared_rule.proofs.Lemmas.Events.ListShelves.{known-list}

-- A step by which a list comes in the session's hand or goes, as it is noted; contents stay, and who stands
-- where.
pub record ChangesHand {T : Type 0} (content : T → Content) (groups : ℕ) (w : World) (number : ℕ) (a : Account) (todo : Todo) (flagged : Bool) (mark : Mark T) (next : Words) (has : Option ℕ) : Type 0 where
  pub noted : IsNoted content groups w number a todo flagged mark next
  pub contents : noted.after.contents ≡ w.contents
  pub has_list : noted.after.sessions.has_list ≡ set_at w.sessions.has_list number has
  pub list : noted.after.words.list ≡ w.words.list

module _ {T : Type 0} (content : T → Content) (sizes : TableSizes) (x : History T) where
  abbrev a : Account
  a = told content x.number x.marks

  abbrev todo : Todo
  todo = todo_told_by x.number x.marks

  abbrev flagged : Bool
  flagged = flagged_told_by x.marks

  -- Locking a list whose bit is not set.
  pub locking-noted :
      (lock : LwLock) (w : World) → Stepper sizes w x.number a → LockExists sizes.sessions lock → MayLockListBy a → word_in w.words (word_of_lock lock) / 2 ^ 28 % 2 ≡ 0
      → NoneOr todo.due (lock_number lock) → TellsNobodyBy a → (waiters : List LwWaiter) → waiters ≡ w.words.list (lock_number lock)
      → ChangesHand content sizes.groups w x.number a todo flagged (mark.LockedList (lock_number lock) waiters)
      (set_word w.words (word_of_lock lock) (list_locked_word (word_in w.words (word_of_lock lock)))) (Some (lock_number lock))
  locking-noted (OfPart p) w steps exists may unlocked fits nobody waiters is = record {
    noted = record {
      step = step_of.LockList (Partition p);
      tells = (OfPart p, refl, refl);
      after = after_locking_partition_list w x.number p;
      happens = (exists, lock_list-lawful w steps.safe x.number steps.makes (w.words.partition p) (subst MayLockListBy steps.account may) unlocked, refl);
      numbers = refl;
      account = (λ i. account_locking_list (steps.account i) (partition_lock p) (is i)) ∙ sym (account-locking_partition_list w x.number p);
      words = refl;
      none_beyond = steps.none_beyond;
      few_counted = steps.few_counted x.number;
      keeps = keeps-locking w x.number todo flagged (Partition p) fits (tells-told w x.number a steps.account steps.safe nobody);
    };
    contents = refl;
    has_list = refl;
    list = refl;
  }
  locking-noted (OfSlots o) w steps exists may unlocked fits nobody waiters is = record {
    noted = record {
      step = step_of.LockList (Fast o);
      tells = (OfSlots o, refl, refl);
      after = after_locking_fast_list w x.number o;
      happens = (
        subst (λ n. o < n) (sym steps.is_limit) exists,
        lock_list-lawful w steps.safe x.number steps.makes (w.words.fast o) (subst MayLockListBy steps.account may) unlocked,
        refl,
      );
      numbers = refl;
      account = (λ i. account_locking_list (steps.account i) (fast_lock o) (is i)) ∙ sym (account-locking_fast_list w x.number o);
      words = refl;
      none_beyond = steps.none_beyond;
      few_counted = steps.few_counted x.number;
      keeps = keeps-locking w x.number todo flagged (Fast o) fits (tells-told w x.number a steps.account steps.safe nobody);
    };
    contents = refl;
    has_list = refl;
    list = refl;
  }

  -- Unlocking it.
  pub unlocking-noted :
      (lock : LwLock) (has_waiters release_ok : Bool) (w : World) → Stepper sizes w x.number a → HasList w x.number (lock_number lock)
      → (waiters : List LwWaiter) → w.words.list (lock_number lock) ≡ waiters → (has_waiters ≡ false → waiters ≡ [])
      → (release_ok ≡ false → (other : ℕ) × (a.lists.off other ≡ true)) → IsLeftWellBy a todo lock waiters
      → ChangesHand content sizes.groups w x.number a todo flagged mark.UnlockedList
      (set_word w.words (word_of_lock lock) (list_unlocked_word (word_in w.words (word_of_lock lock)) has_waiters release_ok)) None
  unlocking-noted (OfPart p) has_waiters release_ok w steps has waiters list waiters_stay release_stays well = record {
    noted = record {
      step = step_of.UnlockList (Partition p) has_waiters release_ok;
      tells = (OfPart p, has_waiters, release_ok, refl);
      after = after_unlocking_partition_list w x.number p has_waiters release_ok;
      happens = (has, refl);
      numbers = refl;
      account = ap account_unlocking_list steps.account ∙ sym (account-unlocking_partition_list w x.number p has_waiters release_ok);
      words = refl;
      none_beyond = steps.none_beyond;
      few_counted = steps.few_counted x.number;
      keeps = keeps-unlocking w x.number a steps.account steps.safe todo flagged (OfPart p) has_waiters release_ok waiters list waiters_stay release_stays well;
    };
    contents = refl;
    has_list = refl;
    list = refl;
  }
  unlocking-noted (OfSlots o) has_waiters release_ok w steps has waiters list waiters_stay release_stays well = record {
    noted = record {
      step = step_of.UnlockList (Fast o) has_waiters release_ok;
      tells = (OfSlots o, has_waiters, release_ok, refl);
      after = after_unlocking_fast_list w x.number o has_waiters release_ok;
      happens = (has, refl);
      numbers = refl;
      account = ap account_unlocking_list steps.account ∙ sym (account-unlocking_fast_list w x.number o has_waiters release_ok);
      words = refl;
      none_beyond = steps.none_beyond;
      few_counted = steps.few_counted x.number;
      keeps = keeps-unlocking w x.number a steps.account steps.safe todo flagged (OfSlots o) has_waiters release_ok waiters list waiters_stay release_stays well;
    };
    contents = refl;
    has_list = refl;
    list = refl;
  }

  -- A list in hand is not at home, before a step that changes it nor after it.
  kept-beside : (w : World) (lock : ℕ) (waiters : List LwWaiter) → w.sessions.has_list x.number ≡ Some lock → (l : ℕ) → IsInNoHand l w.sessions.has_list
      → set_at w.words.list lock waiters l ≡ w.words.list l
  kept-beside w lock waiters has l nobody = set_at-else w.words.list lock waiters l (λ same. nobody x.number (has ∙ ap Some (sym same)))

  -- What the account has in hand is the list as it stands.
  here : (w : World) (mine : ListInHand) → (account w x.number).lists.in_hand ≡ Some mine → list_here (account w x.number).lists.in_hand ≡ list_now w mine.lock
  here w mine known =
      let is = known-list (w.sessions.has_list x.number) w.words.list mine known in
      ap list_here known ∙ (λ i. record { lock = mine.lock; waiters = sym is.1 i })

  pub joining-lawful : (mine : ListInHand) (mode : LwMode) → MayJoinListBy a mine → flagged ≡ true → todo.owes_release_ok ≡ None
      → ((its : ListInHand) → a.lists.in_hand ≡ Some its → NoneOr todo.tries its.lock) → JoinsLatest a → IsAlwaysLawful content sizes x (Sleep x.number) (λ _. Unit {0}) (λ _. 1) (λ _. mark.JoinedList mode)
  joining-lawful mine mode may set owes_none no_other joins w steps n below shown _ =
      let may' : MayJoinListBy (account w x.number) mine = subst (λ b. MayJoinListBy b mine) steps.account may in
      let lawful = join_list-lawful w steps.safe x.number steps.makes mine may' in
      let waiter : LwWaiter = record { session = x.number; mode = mode } in
      record {
        list = set_at w.words.list mine.lock (w.words.list mine.lock ++ waiter ∷ []);
        noted = record {
          step = step_of.JoinList mode;
          tells = refl;
          after = after_joining_list w x.number mine.lock mode;
          happens = (mine.lock, lawful, refl);
          numbers = refl;
          account = (λ i. account_joining_list (steps.account i) (list_here (steps.account i).lists.in_hand) waiter)
              ∙ (ap (λ l. account_joining_list (account w x.number) l waiter) (here w mine may'.in_hand)
              ∙ sym (account-joining_list w x.number mine.lock mode lawful));
          words = refl;
          none_beyond = steps.none_beyond;
          few_counted = steps.few_counted x.number;
          keeps = keeps-joining w x.number todo flagged mode (lock_of_list a.lists.in_hand)
              (ap (λ (b : Account). lock_of_list b.lists.in_hand) steps.account ∙ lock-in_hand (w.sessions.has_list x.number) w.words.list) set owes_none
              (λ lock has. no_other (record { lock = lock; waiters = w.words.list lock })
              (ap (λ (b : Account). b.lists.in_hand) steps.account ∙ ap (λ its. list_in_hand its w.words.list) has))
              (λ lock has.
              let its : Some (lock_number joins.lock) ≡ Some lock = sym joins.in_hand ∙ ap (λ (b : Account). lock_of_list b.lists.in_hand) steps.account
              ∙ lock-in_hand (w.sessions.has_list x.number) w.words.list ∙ has in
              subst (IsLatest w x.number) (some-same (lock_number joins.lock) lock its)
              (latest-by w x.number a steps.account steps.safe (none-shared content x.number x.marks) joins.sessions joins.lock joins.there joins.latest));
        };
        home = λ p none. (none, refl);
        lists = λ l nobody. (nobody, kept-beside w mine.lock _ lawful.has.in_hand l nobody);
      }

  pub leaving-lawful : (mine : ListInHand) → MayLeaveListBy x.number a mine → IsAlwaysLawful content sizes x (Sleep x.number) (λ _. Unit {0}) (λ _. 0) (λ _. mark.LeftList)
  leaving-lawful mine may w steps n below shown _ =
      let may' : MayLeaveListBy x.number (account w x.number) mine = subst (λ b. MayLeaveListBy x.number b mine) steps.account may in
      let lawful = leave_list-lawful w steps.safe x.number steps.makes mine may' in
      record {
        list = set_at w.words.list mine.lock (without x.number (w.words.list mine.lock));
        noted = record {
          step = step_of.LeaveList;
          tells = refl;
          after = after_leaving_the_list w x.number mine.lock;
          happens = (mine.lock, lawful, refl);
          numbers = refl;
          account = (λ i. account_leaving_list (steps.account i) (list_here (steps.account i).lists.in_hand) x.number)
              ∙ (ap (λ l. account_leaving_list (account w x.number) l x.number) (here w mine may'.in_hand)
              ∙ sym (account-leaving_list w x.number mine.lock lawful));
          words = refl;
          none_beyond = steps.none_beyond;
          few_counted = steps.few_counted x.number;
          keeps = keeps-leaving w x.number todo flagged;
        };
        home = λ p none. (none, refl);
        lists = λ l nobody. (nobody, kept-beside w mine.lock _ lawful.has.in_hand l nobody);
      }

  pub taking_off-lawful : (mine : ListInHand) (other : ℕ) → MayTakeOffBy x.number a mine other
      → IsAlwaysLawful content sizes x (Sleep other) (λ _. Unit {0}) (λ _. 2) (λ _. mark.TookOff other)
  taking_off-lawful mine other may w steps n below shown _ =
      let may' : MayTakeOffBy x.number (account w x.number) mine other = subst (λ b. MayTakeOffBy x.number b mine other) steps.account may in
      let lawful = take_off-lawful w steps.safe x.number steps.makes mine other may' in
      record {
        list = set_at w.words.list mine.lock (without other (w.words.list mine.lock));
        noted = record {
          step = step_of.TakeOff other;
          tells = refl;
          after = after_taking_off_the_list w x.number other mine.lock;
          happens = (mine.lock, lawful, refl);
          numbers = refl;
          account = (λ i. account_taking_off (steps.account i) (list_here (steps.account i).lists.in_hand) other)
              ∙ (ap (λ l. account_taking_off (account w x.number) l other) (here w mine may'.in_hand)
              ∙ sym (account-taking_off w x.number other mine.lock lawful));
          words = refl;
          none_beyond = steps.none_beyond;
          few_counted = steps.few_counted x.number;
          keeps = record { in_order = tt; asks = λ d is was. tt; todo_ = λ d is. calls-here d x.number todo is other true; flagged_ = λ d was. was };
        };
        home = λ p none. (none, refl);
        lists = λ l nobody. (nobody, kept-beside w mine.lock _ lawful.has.in_hand l nobody);
      }

  pub telling-lawful : (other : ℕ) → MayTellBy a other → IsAlwaysLawful content sizes x (Sleep other) (λ _. Unit {0}) (λ _. 0) (λ _. mark.Told other)
  telling-lawful other may w steps n below shown _ =
      let lawful = tell-lawful w steps.safe x.number steps.makes other (subst (λ b. MayTellBy b other) steps.account may) in
      record {
        list = w.words.list;
        noted = record {
          step = step_of.Tell other;
          tells = refl;
          after = after_telling_one w x.number other;
          happens = (lawful, refl);
          numbers = refl;
          account = ap (λ b. account_telling b other) steps.account ∙ sym (account-telling w x.number other);
          words = refl;
          none_beyond = steps.none_beyond;
          few_counted = steps.few_counted x.number;
          keeps = record { in_order = tt; asks = λ d is was. tt; todo_ = λ d is. calls-here d x.number todo is other true; flagged_ = λ d was. was };
        };
        home = λ p none. (none, refl);
        lists = λ l nobody. (nobody, refl);
      }

  -- What a load of its own sleep word leaves of the words.
  seen-words : (w : World) (s : ℕ) (zero : Bool) → (with_sleepers w (if zero then after_seeing_none (sleepers w) s else sleepers w)).words ≡ w.words
  seen-words w s true = refl
  seen-words w s false = refl

  pub loading_sleep-lawful : IsAlwaysLawful content sizes x (Sleep x.number) (λ _. Unit {0}) (λ n. n) mark.LoadedSleep
  loading_sleep-lawful w steps n below shown _ =
      let same = seen-words w x.number (n == 0) in
      let stored : w.words ≡ set_word w.words (Sleep x.number) n = ap (λ f. record (w.words) { sleep = f }) (sym (set_at-same w.words.sleep x.number n shown)) in
      record {
        list = w.words.list;
        noted = record {
          step = step_of.LoadSleep n;
          tells = refl;
          after = after_loading_sleep w x.number n;
          happens = (record { steps = steps.makes; is_word = shown }, refl);
          numbers = refl;
          account = ap (λ b. account_loading_sleep b n) steps.account ∙ sym (account-loading_sleep w x.number n);
          words = same ∙ stored;
          none_beyond = steps.none_beyond;
          few_counted = steps.few_counted x.number;
          keeps = record { in_order = tt; asks = λ d is was. tt; todo_ = λ d is. is; flagged_ = λ d was. was };
        };
        home = λ p none. (none, refl);
        lists = λ l nobody. (nobody, ap (λ (words : Words). words.list l) same);
      }

  -- The flags.
  pub setting_release_ok-lawful : (lock : LwLock) → LockExists sizes.sessions lock
      → (todo.owes_release_ok ≡ Some (lock_number lock) → a.lists.stands ≡ None → NoneOr todo.tries (lock_number lock))
      → (todo.owes_release_ok ≡ Some (lock_number lock) → a.lists.in_hand ≢ None → TellsNobodyBy a)
      → IsAlwaysLawful content sizes x (word_of_lock lock) (λ _. Unit {0}) (λ n. bit_or n (2 ^ 29)) (λ _. mark.SetReleaseOk (lock_number lock))
  setting_release_ok-lawful (OfPart p) exists no_other nobody w steps n below shown _ = record {
    list = w.words.list;
    noted = record {
      step = step_of.SetReleaseOk (Partition p) n;
      tells = (n, (OfPart p, refl, refl));
      after = after_flagging_partition w p (release_ok_word (w.words.partition p));
      happens = (exists, record { steps = steps.makes; is_word = shown }, refl);
      numbers = refl;
      account = steps.account;
      words = ap (λ k. set_word w.words (Partition p) (release_ok_word k)) (sym shown);
      none_beyond = steps.none_beyond;
      few_counted = steps.few_counted x.number;
      keeps = keeps-setting_ok w x.number a todo flagged steps.account (Partition p) n (partition_lock p) refl no_other nobody;
    };
    home = λ q none. (none, refl);
    lists = λ l nobody. (nobody, refl);
  }
  setting_release_ok-lawful (OfSlots o) exists no_other nobody w steps n below shown _ = record {
    list = w.words.list;
    noted = record {
      step = step_of.SetReleaseOk (Fast o) n;
      tells = (n, (OfSlots o, refl, refl));
      after = after_flagging_fast w o (release_ok_word (w.words.fast o));
      happens = (subst (λ k. o < k) (sym steps.is_limit) exists, record { steps = steps.makes; is_word = shown }, refl);
      numbers = refl;
      account = steps.account;
      words = ap (λ k. set_word w.words (Fast o) (release_ok_word k)) (sym shown);
      none_beyond = steps.none_beyond;
      few_counted = steps.few_counted x.number;
      keeps = keeps-setting_ok w x.number a todo flagged steps.account (Fast o) n (fast_lock o) refl no_other nobody;
    };
    home = λ q none. (none, refl);
    lists = λ l nobody. (nobody, refl);
  }

  pub setting_has_waiters-lawful : (lock : LwLock) (mine : ListInHand) → a.lists.in_hand ≡ Some mine → mine.lock ≡ lock_number lock
      → IsAlwaysLawful content sizes x (word_of_lock lock) (λ _. Unit {0}) (λ n. bit_or n (2 ^ 30)) (λ _. mark.SetHasWaiters (lock_number lock))
  setting_has_waiters-lawful (OfPart p) mine known its w steps n below shown _ =
      let has = has_list-lawful w steps.safe x.number steps.makes mine (subst (λ (b : Account). b.lists.in_hand ≡ Some mine) steps.account known) in
      record {
        list = w.words.list;
        noted = record {
          step = step_of.SetHasWaiters (Partition p) n;
          tells = (n, (OfPart p, refl, refl));
          after = after_flagging_partition w p (has_waiters_word (w.words.partition p));
          happens = (record { has = subst (HasList w x.number) its has; is_word = shown }, refl);
          numbers = refl;
          account = steps.account;
          words = ap (λ k. set_word w.words (Partition p) (has_waiters_word k)) (sym shown);
          none_beyond = steps.none_beyond;
          few_counted = steps.few_counted x.number;
          keeps = keeps-flagging w x.number todo flagged (Partition p) n;
        };
        home = λ q none. (none, refl);
        lists = λ l nobody. (nobody, refl);
      }
  setting_has_waiters-lawful (OfSlots o) mine known its w steps n below shown _ =
      let has = has_list-lawful w steps.safe x.number steps.makes mine (subst (λ (b : Account). b.lists.in_hand ≡ Some mine) steps.account known) in
      record {
        list = w.words.list;
        noted = record {
          step = step_of.SetHasWaiters (Fast o) n;
          tells = (n, (OfSlots o, refl, refl));
          after = after_flagging_fast w o (has_waiters_word (w.words.fast o));
          happens = (record { has = subst (HasList w x.number) its has; is_word = shown }, refl);
          numbers = refl;
          account = steps.account;
          words = ap (λ k. set_word w.words (Fast o) (has_waiters_word k)) (sym shown);
          none_beyond = steps.none_beyond;
          few_counted = steps.few_counted x.number;
          keeps = keeps-flagging w x.number todo flagged (Fast o) n;
        };
        home = λ q none. (none, refl);
        lists = λ l nobody. (nobody, refl);
      }
