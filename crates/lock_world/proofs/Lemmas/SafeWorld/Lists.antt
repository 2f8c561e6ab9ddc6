use Rattle.std.proofs.Common.{◌≡◌, ℕ, ◌/◌, ◌%◌, ◌^◌, Bool, true, false, Option, Some, None, refl, sym, ap, ◌∙◌, subst}
use Rattle.std.specs.Prelude.{◌==◌, if◌then◌else◌}
use Rattle.std.proofs.lemmas.Bool.{both_ways, eqb-true}
use Rattle.lw_word.specs.declared.words.LwMode.{LwMode}
use Rattle.lw_word.specs.LightweightWord.{list_locked_word, list_unlocked_word, HoldersStay}
use Rattle.lw_word.proofs.Lemmas.Flags.{list_locked_word-holders, list_unlocked_word-list_locked, list_unlocked_word-holders}
use Rattle.lock_table.specs.Put.{set_at}
use Rattle.lock_table.proofs.Lemmas.Put.{set_at-else, set_at-each}
use Rattle.lock_world.specs.World.{World}
use Rattle.lock_world.specs.WaitLists.{partition_lock, fast_lock, lock_word, Sleepers, SleepersAreInOrder, ListsAreSafe, after_joining, after_leaving_list, after_taking_off, after_telling, after_seeing_none}
use Rattle.lock_world.specs.Happens.Lists.{sleepers, with_lists, MayLockList, after_locking_partition_list, after_locking_fast_list, HasList, after_unlocking_partition_list, after_unlocking_fast_list, with_sleepers, MayJoinList, after_joining_list, MayLeaveList, after_leaving_the_list, MayTakeOff, after_taking_off_the_list, MayTell, after_telling_one, MayLoadSleep, after_loading_sleep, after_flagging_partition, after_flagging_fast}
use Rattle.lock_world.specs.Safe.{SafeButSlots}
use Rattle.lock_world.specs.SafeWorld.{SafeWorld, tabled}
use Rattle.lock_world.proofs.Lemmas.Words.Holders.{ShowsHolders-stay}
use Rattle.lock_world.proofs.Lemmas.ListWords.{ListsAreShown, lock_word-partition, lock_word-fast, lock_word-set_partition, lock_word-set_fast, shown-locked, shown-unlocked, kept-partition, kept-fast}
use Rattle.lock_world.proofs.Lemmas.WaitLists.{joining_list-safe, leaving_list-safe, taking_off-safe, telling-safe, seeing_none-safe}
use Rattle.lock_world.proofs.Lemmas.Table.Beside.{same-table}
use Rattle.lock_world.proofs.Lemmas.Table.Sharing.{with_partition_words, with_partition_words-table}
use Rattle.lock_world.proofs.Lemmas.SafeWorld.Beside.{beside-safe_world}

-- Steps on wait lists are safe: no other fact speaks of lists, sleep words and flags.

with_lists-but_slots :
    (w : World) (partition fast : ℕ → ℕ) (s : Sleepers) (has : ℕ → Option ℕ) → SafeButSlots w → ((p : ℕ) → HoldersStay (w.words.partition p) (partition p))
    → ((o : ℕ) → HoldersStay (w.words.fast o) (fast o)) → SafeButSlots (with_lists w partition fast s has)
with_lists-but_slots w partition fast s has safe partitions_stay fast_stay = record {
  table = same-table (with_partition_words w partition w.sessions.shares_partition) (with_lists w partition fast s has)
      (with_partition_words-table w partition w.sessions.shares_partition safe.table (λ p.
      ShowsHolders-stay w.numbers.limit (w.words.partition p) (partition p) (λ k. w.sessions.holds_partition k p) (λ k. w.sessions.shares_partition k p) (partitions_stay p) (safe.table.promise.words p)));
  locks = record {
    fast_words = λ o. ShowsHolders-stay w.numbers.limit (w.words.fast o) (fast o) (λ k. w.sessions.holds_fast k o) (λ k. w.sessions.shares_fast k o) (fast_stay o) (safe.locks.fast_words o);
    no_fast = safe.locks.no_fast;
    no_shared_fast = safe.locks.no_shared_fast;
    no_shared_partition = safe.locks.no_shared_partition;
  };
  traces = safe.traces;
}

with_lists-safe_world :
    (w : World) (partition fast : ℕ → ℕ) (s : Sleepers) (has : ℕ → Option ℕ) → SafeWorld w → ((p : ℕ) → HoldersStay (w.words.partition p) (partition p))
    → ((o : ℕ) → HoldersStay (w.words.fast o) (fast o)) → ListsAreSafe partition fast s has w.numbers.live → SafeWorld (with_lists w partition fast s has)
with_lists-safe_world w partition fast s has safe partitions_stay fast_stay lists =
    beside-safe_world w (with_lists w partition fast s has) safe (with_lists-but_slots (tabled w) partition fast s has safe.but_slots partitions_stay fast_stay) lists safe.zero safe.remembered

-- One word has changed and not who holds it.
one_stays : (word : ℕ → ℕ) (lock n : ℕ) → HoldersStay (word lock) n → (l : ℕ) → HoldersStay (word l) (set_at word lock n l)
one_stays word lock n stay = set_at-each (λ l x. HoldersStay (word l) x) word lock n stay (λ l _. refl)

-- Who is not live stays with no list in hand.
none_in_hand : (w : World) (s : ℕ) (its : Option ℕ) → SafeWorld w → w.numbers.live s ≡ true → (k : ℕ) → w.numbers.live k ≡ false → set_at w.sessions.has_list s its k ≡ None
none_in_hand w s its safe alive k dead =
    set_at-else w.sessions.has_list s its k (λ same. both_ways (w.numbers.live k) dead (ap w.numbers.live same ∙ alive)) ∙ safe.lists.no_list k dead

module _ (w : World) (s : ℕ) (safe : SafeWorld w) where
  abbrev words : ℕ → ℕ
  words = lock_word w.words.partition w.words.fast

  -- The words are those of before but for one lock's, of which the session takes the list in hand, or puts
  -- it.
  locked :
      (lock n : ℕ) (partition fast : ℕ → ℕ) → words lock ≡ n → lock_word partition fast ≡ set_at words lock (list_locked_word n) → MayLockList w.numbers n w.sessions.has_list s
      → ListsAreSafe partition fast (sleepers w) (set_at w.sessions.has_list s (Some lock)) w.numbers.live
  locked lock n partition fast is after may = record {
    shown = subst (λ word. ListsAreShown word (set_at w.sessions.has_list s (Some lock))) (ap (λ x. set_at words lock (list_locked_word x)) is ∙ sym after)
        (shown-locked words lock s w.sessions.has_list safe.lists.shown (ap (λ x. x / 2 ^ 28 % 2) is ∙ may.unlocked) may.no_list);
    sleepers = safe.lists.sleepers;
    no_list = none_in_hand w s (Some lock) safe may.steps.live;
    no_stand = safe.lists.no_stand;
  }

  unlocked :
      (lock n : ℕ) (partition fast : ℕ → ℕ) (waiters release : Bool) → lock_word partition fast ≡ set_at words lock (list_unlocked_word n waiters release) → HasList w s lock
      → ListsAreSafe partition fast (sleepers w) (set_at w.sessions.has_list s None) w.numbers.live
  unlocked lock n partition fast waiters release after has = record {
    shown = subst (λ word. ListsAreShown word (set_at w.sessions.has_list s None)) (sym after)
        (shown-unlocked words lock s (list_unlocked_word n waiters release) w.sessions.has_list safe.lists.shown (list_unlocked_word-list_locked n waiters release) has.in_hand);
    sleepers = safe.lists.sleepers;
    no_list = none_in_hand w s None safe has.steps.live;
    no_stand = safe.lists.no_stand;
  }

  -- Locking a list.
  pub locking_partition_list-safe_world : (p : ℕ) → MayLockList w.numbers (w.words.partition p) w.sessions.has_list s → SafeWorld (after_locking_partition_list w s p)
  locking_partition_list-safe_world p may =
      with_lists-safe_world w (set_at w.words.partition p _) w.words.fast (sleepers w) (set_at w.sessions.has_list s (Some (partition_lock p))) safe
      (one_stays w.words.partition p _ (list_locked_word-holders (w.words.partition p))) (λ o. refl)
      (locked (partition_lock p) (w.words.partition p) _ _ (lock_word-partition w.words.partition w.words.fast p) (lock_word-set_partition w.words.partition w.words.fast p _) may)

  pub locking_fast_list-safe_world : (o : ℕ) → MayLockList w.numbers (w.words.fast o) w.sessions.has_list s → SafeWorld (after_locking_fast_list w s o)
  locking_fast_list-safe_world o may =
      with_lists-safe_world w w.words.partition (set_at w.words.fast o _) (sleepers w) (set_at w.sessions.has_list s (Some (fast_lock o))) safe
      (λ p. refl) (one_stays w.words.fast o _ (list_locked_word-holders (w.words.fast o)))
      (locked (fast_lock o) (w.words.fast o) _ _ (lock_word-fast w.words.partition w.words.fast o) (lock_word-set_fast w.words.partition w.words.fast o _) may)

  -- Unlocking it.
  pub unlocking_partition_list-safe_world : (p : ℕ) (waiters release : Bool) → HasList w s (partition_lock p) → SafeWorld (after_unlocking_partition_list w s p waiters release)
  unlocking_partition_list-safe_world p waiters release has =
      with_lists-safe_world w (set_at w.words.partition p _) w.words.fast (sleepers w) (set_at w.sessions.has_list s None) safe
      (one_stays w.words.partition p _ (list_unlocked_word-holders (w.words.partition p) waiters release)) (λ o. refl)
      (unlocked (partition_lock p) (w.words.partition p) _ _ waiters release (lock_word-set_partition w.words.partition w.words.fast p _) has)

  pub unlocking_fast_list-safe_world : (o : ℕ) (waiters release : Bool) → HasList w s (fast_lock o) → SafeWorld (after_unlocking_fast_list w s o waiters release)
  unlocking_fast_list-safe_world o waiters release has =
      with_lists-safe_world w w.words.partition (set_at w.words.fast o _) (sleepers w) (set_at w.sessions.has_list s None) safe
      (λ p. refl) (one_stays w.words.fast o _ (list_unlocked_word-holders (w.words.fast o) waiters release))
      (unlocked (fast_lock o) (w.words.fast o) _ _ waiters release (lock_word-set_fast w.words.partition w.words.fast o _) has)

  -- Setting a flag.
  pub flagging_partition-safe_world :
      (p n : ℕ) → HoldersStay (w.words.partition p) n → n / 2 ^ 28 % 2 ≡ w.words.partition p / 2 ^ 28 % 2 → SafeWorld (after_flagging_partition w p n)
  flagging_partition-safe_world p n stay same =
      with_lists-safe_world w (set_at w.words.partition p n) w.words.fast (sleepers w) w.sessions.has_list safe (one_stays w.words.partition p n stay) (λ o. refl)
      (kept-partition w.words.partition w.words.fast (sleepers w) w.sessions.has_list w.numbers.live safe.lists p n same)

  pub flagging_fast-safe_world :
      (o n : ℕ) → HoldersStay (w.words.fast o) n → n / 2 ^ 28 % 2 ≡ w.words.fast o / 2 ^ 28 % 2 → SafeWorld (after_flagging_fast w o n)
  flagging_fast-safe_world o n stay same =
      with_lists-safe_world w w.words.partition (set_at w.words.fast o n) (sleepers w) w.sessions.has_list safe (λ p. refl) (one_stays w.words.fast o n stay)
      (kept-fast w.words.partition w.words.fast (sleepers w) w.sessions.has_list w.numbers.live safe.lists o n same)

  -- Changing the list in hand, and telling those taken off.
  sleeping : (after : Sleepers) → SleepersAreInOrder after → ((k : ℕ) → w.numbers.live k ≡ false → after.stands k ≡ None) → SafeWorld (with_sleepers w after)
  sleeping after order none =
      with_lists-safe_world w w.words.partition w.words.fast after w.sessions.has_list safe (λ p. refl) (λ o. refl)
      (record { shown = safe.lists.shown; sleepers = order; no_list = safe.lists.no_list; no_stand = none })

  stands_else : (its : Option ℕ) → w.numbers.live s ≡ true → (k : ℕ) → w.numbers.live k ≡ false → set_at w.sessions.stands s its k ≡ None
  stands_else its alive k dead =
      set_at-else w.sessions.stands s its k (λ same. both_ways (w.numbers.live k) dead (ap w.numbers.live same ∙ alive)) ∙ safe.lists.no_stand k dead

  pub joining_list-safe_world : (lock : ℕ) (mode : LwMode) → MayJoinList w s lock → SafeWorld (after_joining_list w s lock mode)
  joining_list-safe_world lock mode may =
      sleeping (after_joining (sleepers w) lock (record { session = s; mode = mode }))
      (joining_list-safe (sleepers w) lock (record { session = s; mode = mode }) safe.lists.sleepers may.idle) (stands_else (Some lock) may.has.steps.live)

  pub leaving_list-safe_world : (lock : ℕ) → MayLeaveList w s lock → SafeWorld (after_leaving_the_list w s lock)
  leaving_list-safe_world lock may =
      sleeping (after_leaving_list (sleepers w) lock s) (leaving_list-safe (sleepers w) lock s safe.lists.sleepers may.stands) (stands_else None may.has.steps.live)

  pub taking_off-safe_world : (other lock : ℕ) → MayTakeOff w s other lock → SafeWorld (after_taking_off_the_list w s other lock)
  taking_off-safe_world other lock may =
      sleeping (after_taking_off (sleepers w) lock s other) (taking_off-safe (sleepers w) lock s other safe.lists.sleepers may.stands) safe.lists.no_stand

  pub telling-safe_world : (other : ℕ) → MayTell w s other → SafeWorld (after_telling_one w s other)
  telling-safe_world other may = sleeping (after_telling (sleepers w) s other) (telling-safe (sleepers w) s other safe.lists.sleepers may.taken_off) safe.lists.no_stand

  pub loading_sleep-safe_world : (n : ℕ) → MayLoadSleep w s n → SafeWorld (after_loading_sleep w s n)
  loading_sleep-safe_world n may = at (n == 0) (λ none. eqb-true n 0 none) where
    at : (none : Bool) → (none ≡ true → n ≡ 0) → SafeWorld (with_sleepers w (if none then after_seeing_none (sleepers w) s else sleepers w))
    at true is = sleeping (after_seeing_none (sleepers w) s) (seeing_none-safe (sleepers w) s safe.lists.sleepers (sym may.is_word ∙ is refl)) (stands_else None may.steps.live)
    at false is = sleeping (sleepers w) safe.lists.sleepers safe.lists.no_stand
