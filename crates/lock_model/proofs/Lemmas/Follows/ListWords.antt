use Rattle.std.proofs.Common.{◌≡◌, ℕ, ◌<◌, ◌≤◌, Bool, true, false, length, get_or, Option, Some, None, refl, sym, ap, ◌∙◌, subst, inl}
use Rattle.std.proofs.Math.ListN.{set}
use Rattle.std.proofs.lemmas.Bool.{both_ways, and_parts, and_from}
use Rattle.std.proofs.lemmas.List.{get_or_past}
use Rattle.lw_word.specs.LightweightWord.{release_ok_word, has_waiters_word, IsListLocked}
use Rattle.lw_word.specs.LockState.{LockState, opening_state, word_of, state_of}
use Rattle.lw_word.proofs.Lemmas.States.{bit_is_set}
use Rattle.lock_table.specs.Put.{set_at}
use Rattle.lock_world.specs.declared.events.Step.TheVariants.{LockList, UnlockList, SetReleaseOk, SetHasWaiters}
use Rattle.lock_world.specs.declared.events.Word.TheVariants.{Partition, Fast}
use Rattle.lock_world.specs.WaitLists.{partition_lock, fast_lock}
use Rattle.lock_world.specs.World.{World}
use Rattle.lock_world.specs.Happens.{Next}
use Rattle.lock_world.specs.Happens.Lists.{sleepers, with_lists, MayLockList, HasList, after_locking_partition_list, after_locking_fast_list, after_unlocking_partition_list, after_unlocking_fast_list, after_flagging_partition, after_flagging_fast}
use Rattle.lock_world.specs.SafeWorld.{SafeWorld}
use Rattle.lock_world.proofs.Lemmas.ListWords.{lock_word-partition}
use Rattle.lock_model.specs.declared.machine.state.Machine.{Machine}
use Rattle.lock_model.specs.Shows.{Shows, ShowsLock, makes_steps}
use Rattle.lock_model.specs.ListWords.{may_lock_list, has_list, unlocked_in}
use Rattle.lock_model.proofs.Lemmas.Follows.Seats.{number_of_some, some_of_number, none_is}
use Rattle.lock_model.proofs.Lemmas.Shows.Changes.{partition_word-set, fast_word-set}
use Rattle.lock_model.proofs.Lemmas.Shows.ListWords.{has_list-set}
use Rattle.lock_model.proofs.Lemmas.Shows.Looks.{steps_from, steps_kept}
use Rattle.lock_model.proofs.Lemmas.Shows.LwWords.{number_shown, made_shown, list_free_shown, list_locked_shown, list_unlocked_shown, release_ok_shown, has_waiters_shown}
use Rattle.lock_model.proofs.Lemmas.Shows.Kept.{lists_shown, table_shown}

-- The bits of lightweight words that guard wait lists, and their flags.

-- the machine, once a partition's word shows this
abbrev pub with_partition_word : Machine → ℕ → LockState → Machine
with_partition_word m p word = record m { words = record (m.words) { partitions = set m.words.partitions p word } }

-- the machine, once the word of the owner's slots shows this
abbrev pub with_fast_word : Machine → ℕ → LockState → Machine
with_fast_word m o word = record m { words = record (m.words) { fast = set m.words.fast o word } }

-- the machine, once the session has this list in hand, or none
abbrev pub with_list : Machine → ℕ → Option ℕ → Machine
with_list m s its = record m { lists = record (m.lists) { has_list = set m.lists.has_list s its } }

module _ (m : Machine) (w : World) (safe : SafeWorld w) (shows : Shows m w) where
  -- What the machine tests.

  may_lock : (s number : ℕ) (its : LockState) → ShowsLock its number → may_lock_list m s ≡ true → its.list_locked ≡ false → MayLockList w.numbers number w.sessions.has_list s
  may_lock s number its says may free =
      let both = and_parts _ _ may in
      record {
        steps = steps_from m w safe shows s both.0;
        unlocked = (list_free_shown its number says).0 free;
        no_list = sym (shows.lists.has_list s) ∙ none_is (get_or m.lists.has_list s None) both.1;
      }

  has_from : (s lock : ℕ) → has_list m s lock ≡ true → HasList w s lock
  has_from s lock has =
      let both = and_parts _ _ has in
      record {
        steps = steps_from m w safe shows s both.0;
        in_hand = sym (shows.lists.has_list s) ∙ number_of_some (get_or m.lists.has_list s None) lock both.1;
      }

  pub has_not : (s lock : ℕ) → has_list m s lock ≡ false → HasList w s lock → ⊥
  has_not s lock none has =
      both_ways (has_list m s lock) none
      (and_from _ _ (steps_kept m w safe shows s has.steps) (some_of_number (get_or m.lists.has_list s None) lock (shows.lists.has_list s ∙ has.in_hand)))

  -- A partition that there is not has a free word, so that nobody has its list in hand.
  pub no_such_list : (s p : ℕ) → length m.words.partitions ≤ p → HasList w s (partition_lock p) → ⊥
  no_such_list s p past has =
      let free : opening_state ≡ state_of (w.words.partition p) = sym (get_or_past m.words.partitions p opening_state past) ∙ (shows.words.partition p).says in
      let locked : IsListLocked (w.words.partition p) =
      subst IsListLocked (lock_word-partition w.words.partition w.words.fast p) ((safe.lists.shown (partition_lock p)).had_is_shown s has.in_hand) in
      both_ways (state_of (w.words.partition p)).list_locked (sym (ap (λ (state : LockState). state.list_locked) free)) ((bit_is_set _).1 locked)

  -- What it shows then.

  partition_shown : (s p number : ℕ) (word : LockState) (list : Option ℕ) → s < 64 → p < length m.words.partitions → ShowsLock word number
      → Shows (with_list (with_partition_word m p word) s list) (with_lists w (set_at w.words.partition p number) w.words.fast (sleepers w) (set_at w.sessions.has_list s list))
  partition_shown s p number word list below in_words says = lists_shown shows (with_lists w (set_at w.words.partition p number) w.words.fast (sleepers w) (set_at w.sessions.has_list s list))
      (partition_word-set m.words w.words p word number shows.words in_words says)
      (has_list-set m.lists w.words.sleep w.words.list w.sessions.has_list w.sessions.stands w.sessions.off s list shows.lists below)

  fast_shown : (s o number : ℕ) (word : LockState) (list : Option ℕ) → s < 64 → o < 64 → ShowsLock word number
      → Shows (with_list (with_fast_word m o word) s list) (with_lists w w.words.partition (set_at w.words.fast o number) (sleepers w) (set_at w.sessions.has_list s list))
  fast_shown s o number word list below exists says = lists_shown shows (with_lists w w.words.partition (set_at w.words.fast o number) (sleepers w) (set_at w.sessions.has_list s list))
      (fast_word-set m.words w.words o word number shows.words exists says)
      (has_list-set m.lists w.words.sleep w.words.list w.sessions.has_list w.sessions.stands w.sessions.off s list shows.lists below)

  partition_flagged : (p number : ℕ) (word : LockState) → p < length m.words.partitions → ShowsLock word number → Shows (with_partition_word m p word) (after_flagging_partition w p number)
  partition_flagged p number word in_words says = table_shown shows (after_flagging_partition w p number)
      (partition_word-set m.words w.words p word number shows.words in_words says)
      shows.contents
      shows.waits

  fast_flagged : (o number : ℕ) (word : LockState) → o < 64 → ShowsLock word number → Shows (with_fast_word m o word) (after_flagging_fast w o number)
  fast_flagged o number word exists says = table_shown shows (after_flagging_fast w o number)
      (fast_word-set m.words w.words o word number shows.words exists says)
      shows.contents
      shows.waits

  in_limit : (o : ℕ) → o < 64 → o < w.numbers.limit
  in_limit o exists = subst (λ n. o < n) (sym shows.numbers.limit) exists

  -- A list is locked.

  pub locked_partition_list : (s p : ℕ) (its word : LockState) → s < 64 → p < 16 → p < length m.words.partitions → ShowsLock its (w.words.partition p)
      → may_lock_list m s ≡ true → (its.list_locked ≡ false) × (word ≡ record its { list_locked = true })
      → (v : World) × Next w (record { session = s; step = LockList (Partition p) }) v × Shows (with_list (with_partition_word m p word) s (Some (partition_lock p))) v
  locked_partition_list s p its word below exists in_words says may answer = (
    after_locking_partition_list w s p,
    inl (exists, may_lock s _ its says may answer.0, refl),
    partition_shown s p _ word (Some (partition_lock p)) below in_words (made_shown word _ answer.1 (list_locked_shown its _ says)),
  )

  pub locked_fast_list : (s o : ℕ) (its word : LockState) → s < 64 → o < 64 → ShowsLock its (w.words.fast o)
      → may_lock_list m s ≡ true → (its.list_locked ≡ false) × (word ≡ record its { list_locked = true })
      → (v : World) × Next w (record { session = s; step = LockList (Fast o) }) v × Shows (with_list (with_fast_word m o word) s (Some (fast_lock o))) v
  locked_fast_list s o its word below exists says may answer = (
    after_locking_fast_list w s o,
    inl (in_limit o exists, may_lock s _ its says may answer.0, refl),
    fast_shown s o _ word (Some (fast_lock o)) below exists (made_shown word _ answer.1 (list_locked_shown its _ says)),
  )

  -- The list is unlocked.

  pub unlocked_partition_list : (s p : ℕ) (waiters release : Bool) (its word : LockState) → s < 64 → p < length m.words.partitions → ShowsLock its (w.words.partition p)
      → has_list m s (partition_lock p) ≡ true → word ≡ unlocked_in its waiters release
      → (v : World) × Next w (record { session = s; step = UnlockList (Partition p) waiters release }) v × Shows (with_list (with_partition_word m p word) s None) v
  unlocked_partition_list s p waiters release its word below in_words says has is = (
    after_unlocking_partition_list w s p waiters release,
    inl (has_from s (partition_lock p) has, refl),
    partition_shown s p _ word None below in_words (made_shown word _ is (list_unlocked_shown its _ says waiters release)),
  )

  pub unlocked_fast_list : (s o : ℕ) (waiters release : Bool) (its word : LockState) → s < 64 → o < 64 → ShowsLock its (w.words.fast o)
      → has_list m s (fast_lock o) ≡ true → word ≡ unlocked_in its waiters release
      → (v : World) × Next w (record { session = s; step = UnlockList (Fast o) waiters release }) v × Shows (with_list (with_fast_word m o word) s None) v
  unlocked_fast_list s o waiters release its word below exists says has is = (
    after_unlocking_fast_list w s o waiters release,
    inl (has_from s (fast_lock o) has, refl),
    fast_shown s o _ word None below exists (made_shown word _ is (list_unlocked_shown its _ says waiters release)),
  )

  -- Release-ok is set,

  pub release_ok_in_partition : (s p shown : ℕ) (its word : LockState) → makes_steps m s ≡ true → p < 16 → p < length m.words.partitions → ShowsLock its (w.words.partition p)
      → shown ≡ word_of its → word ≡ record its { release_ok = true }
      → (v : World) × Next w (record { session = s; step = SetReleaseOk (Partition p) shown }) v × Shows (with_partition_word m p word) v
  release_ok_in_partition s p shown its word steps exists in_words says is_word is = (
    after_flagging_partition w p (release_ok_word (w.words.partition p)),
    inl (exists, record { steps = steps_from m w safe shows s steps; is_word = is_word ∙ number_shown its _ says }, refl),
    partition_flagged p _ word in_words (made_shown word _ is (release_ok_shown its _ says)),
  )

  pub release_ok_in_fast : (s o shown : ℕ) (its word : LockState) → makes_steps m s ≡ true → o < 64 → ShowsLock its (w.words.fast o)
      → shown ≡ word_of its → word ≡ record its { release_ok = true }
      → (v : World) × Next w (record { session = s; step = SetReleaseOk (Fast o) shown }) v × Shows (with_fast_word m o word) v
  release_ok_in_fast s o shown its word steps exists says is_word is = (
    after_flagging_fast w o (release_ok_word (w.words.fast o)),
    inl (in_limit o exists, record { steps = steps_from m w safe shows s steps; is_word = is_word ∙ number_shown its _ says }, refl),
    fast_flagged o _ word exists (made_shown word _ is (release_ok_shown its _ says)),
  )

  -- and has-waiters.

  pub has_waiters_in_partition : (s p shown : ℕ) (its word : LockState) → has_list m s (partition_lock p) ≡ true → p < length m.words.partitions → ShowsLock its (w.words.partition p)
      → shown ≡ word_of its → word ≡ record its { has_waiters = true }
      → (v : World) × Next w (record { session = s; step = SetHasWaiters (Partition p) shown }) v × Shows (with_partition_word m p word) v
  has_waiters_in_partition s p shown its word has in_words says is_word is = (
    after_flagging_partition w p (has_waiters_word (w.words.partition p)),
    inl (record { has = has_from s (partition_lock p) has; is_word = is_word ∙ number_shown its _ says }, refl),
    partition_flagged p _ word in_words (made_shown word _ is (has_waiters_shown its _ says)),
  )

  pub has_waiters_in_fast : (s o shown : ℕ) (its word : LockState) → has_list m s (fast_lock o) ≡ true → o < 64 → ShowsLock its (w.words.fast o)
      → shown ≡ word_of its → word ≡ record its { has_waiters = true }
      → (v : World) × Next w (record { session = s; step = SetHasWaiters (Fast o) shown }) v × Shows (with_fast_word m o word) v
  has_waiters_in_fast s o shown its word has exists says is_word is = (
    after_flagging_fast w o (has_waiters_word (w.words.fast o)),
    inl (record { has = has_from s (fast_lock o) has; is_word = is_word ∙ number_shown its _ says }, refl),
    fast_flagged o _ word exists (made_shown word _ is (has_waiters_shown its _ says)),
  )

  -- Where the word shows another number than it should, nothing is lawful.
  pub not_its_word : (shown number : ℕ) (its : LockState) → ShowsLock its number → (shown ≡ word_of its → ⊥) → shown ≡ number → ⊥
  not_its_word shown number its says other is = other (is ∙ sym (number_shown its number says))
