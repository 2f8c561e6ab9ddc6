use Rattle.std.proofs.Common.{◌≡◌, ◌≢◌, ℕ, ◌+◌, ◌*◌, ◌/◌, ◌%◌, arith, Bool, true, false, not, List, [], Option, Some, None, refl, sym, ap, ◌∙◌, subst, inl, inr}
use Rattle.std.specs.Prelude.{◌==◌, ◌&&◌, is_some, if◌then◌else◌}
use Rattle.std.proofs.lemmas.Bool.{cases_Bool, both_ways, cond-true, cond-false, eqb-true, false≢true}
use Rattle.lw_word.specs.declared.wait_lists.LwWaiter.{LwWaiter}
use Rattle.lw_word.specs.WaitList.{stands_in}
use Rattle.lock_table.specs.Content.{Content}
use Rattle.lock_world.specs.declared.events.Step.TheVariants.{UnlockList, SetReleaseOk}
use Rattle.lock_world.specs.declared.events.Word.{Word}
use Rattle.lock_world.specs.Safe.{is_hand_of}
use Rattle.lock_world.specs.World.{World, Hand}
use Rattle.lock_world.specs.WaitLists.{partition_lock, fast_lock}
use Rattle.lock_world.specs.SafeWorld.{SafeWorld}
use Rattle.lock_world.specs.Account.{Account, ListAccount, ListInHand, account, own_hand, list_in_hand, known_slots}
use Rattle.lock_world.specs.Wakes.Waking.{NobodyIsForgotten, TellsNobody, NoneOr, IsLeftWell, HasLock}
use Rattle.lock_world.specs.Wakes.Waking as waking_of
use Rattle.lock_world.specs.Wakes.Owing.{Duties, waking, lock_bit, lock_row, lock_of, is_lock, after_setting_ok, ok_set_as_owed, ok_set_before_told, ok_set_by_told, ok_set_by_winner, AsksUnlocking, HasNothingToDo}
use Rattle.lock_world.specs.Wakes.{Beside}
use Rattle.lock_world.proofs.Lemmas.Wakes.Rows.{even-bit, odd-bit}
use Rattle.shared_rule.specs.declared.lw_locks.LwLock.{LwLock}
use Rattle.shared_rule.specs.declared.lw_locks.LwLock.TheVariants.{OfPart, OfSlots}
use Rattle.shared_rule.specs.LwLocks.{word_of_lock, lock_number}
use Rattle.shared_rule.specs.Ruled.{todo_of, todo_with, OwesAsTold}
use Rattle.shared_rule.specs.Todos.{Todo, nothing_to_do, without_lost, todo_leaving, todo_told, todo_setting_ok, is_off_list_in_hand, lock_of_list, HasBy, IsLeftWellBy, nobody_waits, took_off, still_has, tries_next, TellsNobodyBy}
use Rattle.shared_rule.proofs.Lemmas.StepsOwed.{KeepsOwed, owes-here, both-here}

-- What the account has of lists and locks is so in the World.
pub lock-in_hand : (has : Option ℕ) (list : ℕ → List LwWaiter) → lock_of_list (list_in_hand has list) ≡ has
lock-in_hand None list = refl
lock-in_hand (Some lock) list = refl

off-in_hand : (number : ℕ) (has : Option ℕ) (list : ℕ → List LwWaiter) (lock : ℕ)
    → is_off_list_in_hand number (list_in_hand has list) lock ≡ (is_lock has lock && not (stands_in number (list lock)))
off-in_hand number None list lock = refl
off-in_hand number (Some its) list lock = elim (cases_Bool (its == lock)) [
  | inl same ↦ ap (λ l. (its == lock) && not (stands_in number (list l))) (eqb-true its lock same)
  | inr other ↦ ap (λ b. b && not (stands_in number (list its))) other ∙ sym (ap (λ b. b && not (stands_in number (list lock))) other)
]

-- Release-ok.
module _ (w : World) (number : ℕ) (a : Account) (todo : Todo) (flagged : Bool) (shows : a ≡ account w number) where
  lists_are : a.lists ≡ (account w number).lists
  lists_are = ap (λ (b : Account). b.lists) shows

  setting-is : (x : Duties) (row : ℕ → Bool) (lock : ℕ) → without_lost todo ≡ todo_with x row number → without_lost (todo_setting_ok number a.lists todo lock) ≡ todo_with (after_setting_ok w x number lock) row number
  setting-is x row lock is = (λ i. without_lost (todo_setting_ok number (lists_are i) todo lock)) ∙ elim (cases_Bool owed) [
    | inr free ↦ ap without_lost (cond-false owed (if not (is_some (w.sessions.stands number)) then todo_told todo lock else (if off then todo_leaving todo else todo)) todo free)
        ∙ is ∙ ap at (sym (cond-false (is_lock (x.owes_release_ok number) lock) (ok_set_as_owed w x number lock) x (sym same ∙ free)))
    | inl owes ↦ ap without_lost (cond-true owed (if not (is_some (w.sessions.stands number)) then todo_told todo lock else (if off then todo_leaving todo else todo)) todo owes)
        ∙ elim (cases_Bool (not (is_some (w.sessions.stands number)))) [
          | inl told ↦ ap without_lost (cond-true (not (is_some (w.sessions.stands number))) (todo_told todo lock) (if off then todo_leaving todo else todo) told)
              ∙ both-here x row number todo is (Some lock) None
              ∙ ap at (sym (cond-true (not (is_some (w.sessions.stands number))) (ok_set_by_told x number lock) (ok_set_before_told w x number lock) told))
          | inr stands ↦ ap without_lost (cond-false (not (is_some (w.sessions.stands number))) (todo_told todo lock) (if off then todo_leaving todo else todo) stands)
              ∙ elim (cases_Bool off) [
                | inl won ↦ ap without_lost (cond-true off (todo_leaving todo) todo won) ∙ owes-here x row number todo is None
                    ∙ ap at (sym (cond-true won_ (ok_set_by_winner x number) x (sym its ∙ won)))
                | inr lost ↦ ap without_lost (cond-false off (todo_leaving todo) todo lost) ∙ is
                    ∙ ap at (sym (cond-false won_ (ok_set_by_winner x number) x (sym its ∙ lost)))
              ]
              ∙ ap at (sym (cond-false (not (is_some (w.sessions.stands number))) (ok_set_by_told x number lock) (ok_set_before_told w x number lock) stands))
        ]
        ∙ ap at (sym (cond-true (is_lock (x.owes_release_ok number) lock) (ok_set_as_owed w x number lock) x (sym same ∙ owes)))
  ] where
    at : Duties → Todo
    at y = todo_with y row number

    owed : Bool
    owed = is_lock todo.owes_release_ok lock

    same : owed ≡ is_lock (x.owes_release_ok number) lock
    same = ap (λ (t : Todo). is_lock t.owes_release_ok lock) is

    off : Bool
    off = is_off_list_in_hand number (list_in_hand (w.sessions.has_list number) w.words.list) lock

    won_ : Bool
    won_ = is_lock (w.sessions.has_list number) lock && not (stands_in number (w.words.list lock))

    its : off ≡ won_
    its = off-in_hand number (w.sessions.has_list number) w.words.list lock

  some-list : (lock : ℕ) → w.sessions.has_list number ≡ Some lock → a.lists.in_hand ≢ None
  some-list lock has none =
      let never : ◌≡◌ {A = Option ListInHand} None (Some (record { lock = lock; waiters = w.words.list lock })) =
      sym none ∙ ap (λ (l : ListAccount). l.in_hand) lists_are ∙ ap (λ its. list_in_hand its w.words.list) has in cc (never)

  pub keeps-setting_ok : (word : Word) (shown lock : ℕ) → lock_of word ≡ lock → (todo.owes_release_ok ≡ Some lock → a.lists.stands ≡ None → NoneOr todo.tries lock)
      → (todo.owes_release_ok ≡ Some lock → a.lists.in_hand ≢ None → TellsNobodyBy a)
      → KeepsOwed w number todo flagged (todo_setting_ok number a.lists todo lock) flagged (SetReleaseOk word shown)
  keeps-setting_ok word shown lock its no_other nobody = subst (λ l. KeepsOwed w number todo flagged (todo_setting_ok number a.lists todo l) flagged (SetReleaseOk word shown)) its (record {
    in_order = tt;
    asks = λ x is was. record {
      no_other = λ owes stands. subst (λ (t : Todo). NoneOr t.tries (lock_of word)) is
          (subst (NoneOr todo.tries) (sym its) (no_other (ap (λ (t : Todo). t.owes_release_ok) is ∙ owes ∙ ap Some its) (ap (λ (l : ListAccount). l.stands) lists_are ∙ stands)));
      tells_nobody = λ owes has other. sym (ap (λ (l : ListAccount). l.off other) lists_are)
          ∙ nobody (ap (λ (t : Todo). t.owes_release_ok) is ∙ owes ∙ ap Some its) (some-list (lock_of word) has) other;
    };
    todo_ = λ b is. setting-is b.duties (b.sleeps.owed number) (lock_of word) is;
    flagged_ = λ b was. was ∙ sym (kept b.duties (lock_of word));
  }) where
    kept : (x : Duties) (l : ℕ) → (after_setting_ok w x number l).flagged number ≡ x.flagged number
    kept x l = elim (cases_Bool (is_lock (x.owes_release_ok number) l)) [
      | inr free ↦ ap of (cond-false (is_lock (x.owes_release_ok number) l) (ok_set_as_owed w x number l) x free)
      | inl owed ↦ ap of (cond-true (is_lock (x.owes_release_ok number) l) (ok_set_as_owed w x number l) x owed) ∙ elim (cases_Bool (not (is_some (w.sessions.stands number)))) [
        | inl told ↦ ap of (cond-true (not (is_some (w.sessions.stands number))) (ok_set_by_told x number l) (ok_set_before_told w x number l) told)
        | inr stands ↦ ap of (cond-false (not (is_some (w.sessions.stands number))) (ok_set_by_told x number l) (ok_set_before_told w x number l) stands) ∙ elim (cases_Bool (won l)) [
          | inl got ↦ ap of (cond-true (won l) (ok_set_by_winner x number) x got)
          | inr not_got ↦ ap of (cond-false (won l) (ok_set_by_winner x number) x not_got)
        ]
      ]
    ] where
      of : Duties → Bool
      of y = y.flagged number

      won : ℕ → Bool
      won j = is_lock (w.sessions.has_list number) j && not (stands_in number (w.words.list j))

-- What the account has of locks the session has.
if-some : {A : Type 0} (b : Bool) (x : A) → is_some (if b then Some x else None) ≡ b
if-some true x = refl
if-some false x = refl

pub own-hand : (hand : Option Hand) (now : Content) (k : ℕ) → is_some (own_hand hand now k) ≡ is_hand_of hand k
own-hand None now k = refl
own-hand (Some h) now k = if-some (h.holder == k) (record { taken = h.taken; now = now; recorded = h.recorded; unmarked = h.unmarked })

pub known : (has : Bool) (database : ℕ) (slot : ℕ → ℕ) → is_some (known_slots has database slot) ≡ has
known has database slot = if-some has _

even-lock : (partition fast : ℕ → Bool) (p : ℕ) → lock_bit partition fast (partition_lock p) ≡ partition p
even-lock partition fast p = even-bit partition fast (2 * p) (omega arith) ∙ ap partition (let half : 2 * p / 2 ≡ p = omega arith in half)

odd-lock : (partition fast : ℕ → Bool) (o : ℕ) → lock_bit partition fast (fast_lock o) ≡ fast o
odd-lock partition fast o = odd-bit partition fast (2 * o + 1) (λ even. omega (arith, even)) ∙ ap fast (let half : (2 * o + 1) / 2 ≡ o = omega arith in half)

pub lock-is : (l : LwLock) → lock_of (word_of_lock l) ≡ lock_number l
lock-is (OfPart p) = refl
lock-is (OfSlots o) = refl

module _ (w : World) (number : ℕ) (a : Account) (shows : a ≡ account w number) (safe : SafeWorld w) where
  pub has-lock : (x : Duties) (l : LwLock) → HasBy a l → HasLock (waking w x) number (lock_number l)
  has-lock x (OfPart p) (inl has) =
      inl (even-lock (w.sessions.holds_partition number) (w.sessions.holds_fast number) p ∙ safe.but_slots.table.carriers.hands p number
      ∙ sym (own-hand (w.contents.hand p) (w.contents.now p) number) ∙ ap (λ (b : Account). is_some (b.hand p)) (sym shows) ∙ has)
  has-lock x (OfPart p) (inr has) =
      inr (even-lock (w.sessions.shares_partition number) (w.sessions.shares_fast number) p ∙ ap (λ (b : Account). b.shares p) (sym shows) ∙ has)
  has-lock x (OfSlots o) (inl has) =
      inl (odd-lock (w.sessions.holds_partition number) (w.sessions.holds_fast number) o
      ∙ sym (known (w.sessions.holds_fast number o) (w.words.database o) (w.words.slot o)) ∙ ap (λ (b : Account). is_some (b.fast.slots o)) (sym shows) ∙ has)
  has-lock x (OfSlots o) (inr has) =
      inr (odd-lock (w.sessions.shares_partition number) (w.sessions.shares_fast number) o
      ∙ sym (known (w.sessions.shares_fast number o) (w.words.database o) (w.words.slot o)) ∙ ap (λ (b : Account). is_some (b.fast.shared_slots o)) (sym shows) ∙ has)

  off-told : (other : ℕ) → a.lists.off other ≡ true → w.sessions.off number other ≡ true
  off-told other off = ap (λ (b : Account). b.lists.off other) (sym shows) ∙ off

  pub tells-told : TellsNobodyBy a → TellsNobody w.sessions.off number
  tells-told nobody other = ap (λ (b : Account). b.lists.off other) (sym shows) ∙ nobody other

  left-well : (x : Duties) (row : ℕ → Bool) (todo : Todo) (l : LwLock) (waiters : List LwWaiter) → without_lost todo ≡ todo_with x row number → w.words.list (lock_number l) ≡ waiters → IsLeftWellBy a todo l waiters
      → IsLeftWell (waking w x) (lock_number l) number
  left-well x row todo l waiters is list (nobody_waits none) = waking_of.nobody_waits (list ∙ none)
  left-well x row todo l waiters is list (took_off other off) = waking_of.took_off other (off-told other off)
  left-well x row todo l waiters is list (still_has has) = waking_of.still_has (has-lock x l has)
  left-well x row todo l waiters is list (tries_next tries) = waking_of.tries_next (sym (ap (λ (t : Todo). t.tries) is) ∙ tries)

  -- Unlocking a list.
  pub keeps-unlocking : (todo : Todo) (flagged : Bool) (l : LwLock) (has_waiters release_ok : Bool) (waiters : List LwWaiter) → w.words.list (lock_number l) ≡ waiters
      → (has_waiters ≡ false → waiters ≡ []) → (release_ok ≡ false → (other : ℕ) × (a.lists.off other ≡ true)) → IsLeftWellBy a todo l waiters
      → KeepsOwed w number todo flagged todo flagged (UnlockList (word_of_lock l) has_waiters release_ok)
  keeps-unlocking todo flagged l has_waiters release_ok waiters list waiters_stay release_stays well = record {
    in_order = tt;
    asks = λ b is was. subst (λ n. AsksUnlocking w b.duties number n has_waiters release_ok) (sym (lock-is l)) (record {
      waiters_stay = elim (cases_Bool has_waiters) [
        | inl stay ↦ inl stay
        | inr go ↦ inr (list ∙ waiters_stay go)
      ];
      release_stays = elim (cases_Bool release_ok) [
        | inl stay ↦ inl stay
        | inr go ↦ let off = release_stays go in inr (off.0, off-told off.0 off.1)
      ];
      left_well = left-well b.duties (b.sleeps.owed number) todo l waiters is list well;
    });
    todo_ = λ x is. is;
    flagged_ = λ x was. was;
  }

-- A session without a lock, with no list in hand and nothing to do has nothing left.
none-row : (partition fast : ℕ → Bool) → ((p : ℕ) → partition p ≡ false) → ((o : ℕ) → fast o ≡ false) → (lock : ℕ) → lock_bit partition fast lock ≡ false
none-row partition fast none clear lock = elim (cases_Bool (lock % 2 == 0)) [
  | inl even ↦ cond-true (lock % 2 == 0) (partition (lock / 2)) (fast (lock / 2)) even ∙ none (lock / 2)
  | inr odd ↦ cond-false (lock % 2 == 0) (partition (lock / 2)) (fast (lock / 2)) odd ∙ clear (lock / 2)
]

pub nothing-left : (w : World) (b : Beside) (k : ℕ) → ((p : ℕ) → w.sessions.holds_partition k p ≡ false) → ((o : ℕ) → w.sessions.holds_fast k o ≡ false)
    → ((p : ℕ) → w.sessions.shares_partition k p ≡ false) → ((o : ℕ) → w.sessions.shares_fast k o ≡ false)
    → nothing_to_do ≡ todo_of b k → OwesAsTold b k [] → w.sessions.has_list k ≡ None → TellsNobody w.sessions.off k → HasNothingToDo w b.duties b.waits b.sleeps k
nothing-left w b k no_part no_fast no_shared no_shared_fast free wakes_nobody no_list nobody = record {
  no_lock = λ lock has. elim has [
    | inl held ↦ both_ways (lock_row w.sessions.holds_partition w.sessions.holds_fast k lock) (none-row (w.sessions.holds_partition k) (w.sessions.holds_fast k) no_part no_fast lock) held
    | inr shared ↦ both_ways (lock_row w.sessions.shares_partition w.sessions.shares_fast k lock) (none-row (w.sessions.shares_partition k) (w.sessions.shares_fast k) no_shared no_shared_fast lock) shared
  ];
  no_look = sym (ap (λ (t : Todo). t.due) free);
  no_try = sym (ap (λ (t : Todo). t.tries) free);
  no_ok = sym (ap (λ (t : Todo). t.owes_release_ok) free);
  no_list = no_list;
  tells_nobody = nobody;
  calls_no_waiter = λ other. elim (cases_Bool (b.waits.owed k other)) [
    | inl owed ↦ absurd (false≢true (wakes_nobody other owed))
    | inr none ↦ none
  ];
  calls_no_sleeper = λ other. sym (ap (λ (t : Todo). t.calls other) free);
}
