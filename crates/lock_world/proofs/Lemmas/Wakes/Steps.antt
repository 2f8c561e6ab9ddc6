use Rattle.std.proofs.Common.{◌≡◌, ◌⊎◌, ℕ, Bool, true, false, not, Option, Some, None, refl, sym, ap, ◌∙◌, subst, inl, inr}
use Rattle.std.specs.Prelude.{◌==◌, ◌&&◌, is_some}
use Rattle.std.proofs.lemmas.Bool.{cases_eq, cases_Bool, false≢true, and_parts, eq-eqb, ne_eqb, eqb-true, cond-true, cond-false}
use Rattle.modes_core.specs.Tag.{partition_of}
use Rattle.lw_word.specs.LightweightWord.{taken_word, put_word, shared_word, unshared_word, release_ok_word, has_waiters_word, list_locked_word, list_unlocked_word}
use Rattle.lw_word.specs.WaitList.{stands_in}
use Rattle.lw_word.proofs.Lemmas.Words.{taken_word-flags, put_word-flags, shared_word-flags, unshared_word-flags}
use Rattle.lock_table.specs.declared.moves.Move.{Move}
use Rattle.lock_table.specs.declared.moves.Move.TheVariants.{Keep, Grant, Join, Release, Leave, Adopt}
use Rattle.lock_table.specs.Content.{Content}
use Rattle.lock_table.specs.Put.{set_at}
use Rattle.lock_table.proofs.Lemmas.Put.{set_at-same}
use Rattle.lock_world.specs.declared.events.Step.{Step}
use Rattle.lock_world.specs.declared.events.Step.TheVariants.{TakeExclusive, PutExclusive, TakeShared, PutShared, SplitSeat, JoinSeat, AskCancel, LoadWait, SetWaiting, MarkGranted, ClearWait, PutPassing, LoadStrong, LoadWord, SetSlot, ClearSlot, StoreDatabase, Count, Uncount, TransferSlot, LockList, UnlockList, JoinList, LeaveList, TakeOff, Tell, LoadSleep, SetReleaseOk, SetHasWaiters}
use Rattle.lock_world.specs.declared.events.Word.{Word}
use Rattle.lock_world.specs.declared.events.Word.TheVariants.{Partition, Fast, Database, Slot}
use Rattle.lock_world.specs.World.{World}
use Rattle.lock_world.specs.WaitLists.{partition_lock, fast_lock, lock_word, after_seeing_none}
use Rattle.lock_world.specs.SafeWorld.{SafeWorld, tabled}
use Rattle.lock_world.specs.Happens.{HappensStep, HappensTaking, HappensPutting, HappensSharing, HappensUnsharing, HappensLoading, HappensLockingList, HappensUnlockingList, HappensSettingReleaseOk, HappensSettingHasWaiters}
use Rattle.lock_world.specs.Happens.Seats.{HappensJoining, after_closing}
use Rattle.lock_world.specs.Happens.Partitions.{after_taking_partition, after_putting_partition}
use Rattle.lock_world.specs.Happens.Slots.{after_taking_fast, after_putting_fast}
use Rattle.lock_world.specs.Happens.Counters.{after_passing}
use Rattle.lock_world.specs.Happens.Sharing.{after_sharing_partition, after_unsharing_partition, after_sharing_fast, after_unsharing_fast}
use Rattle.lock_world.specs.Happens.Waits.{HappensMarkingIn, HappensMarking, HappensClearing}
use Rattle.lock_world.specs.Happens.Lists.{sleepers, with_lists, after_joining_list}
use Rattle.lock_world.proofs.Lemmas.ListWords.{lock_word-partition, lock_word-fast, lock_word-set_partition, lock_word-set_fast}
use Rattle.lock_world.proofs.Lemmas.Words.Holders.{shared-room, shared-some}
use Rattle.lock_world.proofs.Lemmas.Safe.Sharing.{live-within}
use Rattle.lock_world.specs.Wakes.Waking.{NobodyIsForgotten}
use Rattle.lock_world.specs.Wakes.Calling.{Calls}
use Rattle.lock_world.specs.Wakes.Owing.{Duties, waking, is_lock, after_attempt, after_putting, after_locking, after_queueing, ok_set_by_told, ok_set_by_winner, ok_set_before_told, ok_set_as_owed, after_setting_ok, duties_after, AsksTaking, AsksLocking, AsksUnlocking, AsksSettingOk, HasNothingToDo, Asks, lock_of}
use Rattle.lock_world.proofs.Lemmas.Wakes.Readings.{row-here, row-away, row-more}
use Rattle.lock_world.proofs.Lemmas.Wakes.Rows.{row-set_partition, row-set_fast}
use Rattle.lock_world.proofs.Lemmas.Wakes.Shown.{Nobody, held_in, shared_in, Shows, took, gave, locked, unlocked, showed_waiters, set_ok_told, set_ok_won, set_ok_anyway}
use Rattle.lock_world.proofs.Lemmas.Wakes.Lists.{joining-nobody, leaving-nobody, taking_off-nobody, telling-nobody, seeing_told-nobody}

-- Each step of a session that keeps to what it has to do forgets nobody.

to : (v u : World) (y : Duties) → Nobody u y → v ≡ u → Nobody v y
to v u y nobody e = subst (λ a. Nobody a y) (sym e) nobody

pub first : (A B C : Type 0) → (A → C) → A ⊎ B → C ⊎ B
first A B C f (inl a) = inl (f a)
first A B C f (inr b) = inr b

pub second : (A B C : Type 0) → (B → C) → A ⊎ B → A ⊎ C
second A B C f (inl a) = inl a
second A B C f (inr b) = inr (f b)

-- One lock more of a session, or one less.
abbrev pub with_lock : (ℕ → ℕ → Bool) → ℕ → ℕ → Bool → ℕ → ℕ → Bool
with_lock f s lock b = set_at f s (set_at (f s) lock b)

-- What the World shows after a step on the wait list of a lock, or on its flags.
pub lists-partition :
    (w : World) (p m : ℕ) (has_list : ℕ → Option ℕ)
    → Shows (with_lists w (set_at w.words.partition p m) w.words.fast (sleepers w) has_list)
    (set_at (lock_word w.words.partition w.words.fast) (partition_lock p) m) (held_in w) (shared_in w) (sleepers w) has_list
lists-partition w p m has_list = record { word_is = lock_word-set_partition w.words.partition w.words.fast p m; holds_is = refl; shares_is = refl; sleepers_is = refl; list_is = refl }

pub lists-fast :
    (w : World) (o m : ℕ) (has_list : ℕ → Option ℕ)
    → Shows (with_lists w w.words.partition (set_at w.words.fast o m) (sleepers w) has_list)
    (set_at (lock_word w.words.partition w.words.fast) (fast_lock o) m) (held_in w) (shared_in w) (sleepers w) has_list
lists-fast w o m has_list = record { word_is = lock_word-set_fast w.words.partition w.words.fast o m; holds_is = refl; shares_is = refl; sleepers_is = refl; list_is = refl }

module _ (w : World) (x : Duties) (s : ℕ) (nobody : Nobody w x) where
  taking-keeps : (word : Word) (v : World) → HappensTaking w s word v → AsksTaking x s (lock_of word) → Nobody v (after_attempt x s)
  taking-keeps (Partition p) v h k =
      to v _ (after_attempt x s) (took w x s (partition_lock p) (w.words.partition p) nobody (lock_word-partition w.words.partition w.words.fast p) (after_taking_partition w s p)
      (taken_word (w.words.partition p)) (with_lock (held_in w) s (partition_lock p) true) (shared_in w)
      (record { word_is = lock_word-set_partition w.words.partition w.words.fast p (taken_word (w.words.partition p)); holds_is = row-set_partition w.sessions.holds_partition w.sessions.holds_fast s p true; shares_is = refl; sleepers_is = refl; list_is = refl })
      (taken_word-flags (w.words.partition p) h.0.free) k (λ j l has. first _ _ _ (row-more (held_in w) s (partition_lock p) j l) has) (inl (row-here (held_in w) s (partition_lock p) true))) h.1
  taking-keeps (Fast o) v h k =
      to v _ (after_attempt x s) (took w x s (fast_lock o) (w.words.fast o) nobody (lock_word-fast w.words.partition w.words.fast o) (after_taking_fast w s o)
      (taken_word (w.words.fast o)) (with_lock (held_in w) s (fast_lock o) true) (shared_in w)
      (record { word_is = lock_word-set_fast w.words.partition w.words.fast o (taken_word (w.words.fast o)); holds_is = row-set_fast w.sessions.holds_partition w.sessions.holds_fast s o true; shares_is = refl; sleepers_is = refl; list_is = refl })
      (taken_word-flags (w.words.fast o) h.0.free) k (λ j l has. first _ _ _ (row-more (held_in w) s (fast_lock o) j l) has) (inl (row-here (held_in w) s (fast_lock o) true))) h.1
  taking-keeps word v h k = absurd h

  sharing-keeps : (word : Word) (v : World) → SafeWorld w → HappensSharing w s word v → AsksTaking x s (lock_of word) → Nobody v (after_attempt x s)
  sharing-keeps (Partition p) v safe h k =
      to v _ (after_attempt x s) (took w x s (partition_lock p) (w.words.partition p) nobody (lock_word-partition w.words.partition w.words.fast p) (after_sharing_partition w s p)
      (shared_word (w.words.partition p)) (held_in w) (with_lock (shared_in w) s (partition_lock p) true)
      (record { word_is = lock_word-set_partition w.words.partition w.words.fast p (shared_word (w.words.partition p)); holds_is = refl; shares_is = row-set_partition w.sessions.shares_partition w.sessions.shares_fast s p true; sleepers_is = refl; list_is = refl })
      (shared_word-flags (w.words.partition p) (shared-room w.numbers.limit (w.words.partition p) (λ k. w.sessions.holds_partition k p) (λ k. w.sessions.shares_partition k p) s
      safe.but_slots.table.carriers.numbers.few (live-within (tabled w) s safe.but_slots h.1.steps.live) (safe.but_slots.table.promise.words p) h.1.new))
      k (λ j l has. second _ _ _ (row-more (shared_in w) s (partition_lock p) j l) has) (inr (row-here (shared_in w) s (partition_lock p) true))) h.2
  sharing-keeps (Fast o) v safe h k =
      to v _ (after_attempt x s) (took w x s (fast_lock o) (w.words.fast o) nobody (lock_word-fast w.words.partition w.words.fast o) (after_sharing_fast w s o)
      (shared_word (w.words.fast o)) (held_in w) (with_lock (shared_in w) s (fast_lock o) true)
      (record { word_is = lock_word-set_fast w.words.partition w.words.fast o (shared_word (w.words.fast o)); holds_is = refl; shares_is = row-set_fast w.sessions.shares_partition w.sessions.shares_fast s o true; sleepers_is = refl; list_is = refl })
      (shared_word-flags (w.words.fast o) (shared-room w.numbers.limit (w.words.fast o) (λ k. w.sessions.holds_fast k o) (λ k. w.sessions.shares_fast k o) s
      safe.but_slots.table.carriers.numbers.few (live-within (tabled w) s safe.but_slots h.1.steps.live) (safe.but_slots.locks.fast_words o) h.1.new))
      k (λ j l has. second _ _ _ (row-more (shared_in w) s (fast_lock o) j l) has) (inr (row-here (shared_in w) s (fast_lock o) true))) h.2
  sharing-keeps word v safe h k = absurd h

  put-partition :
      (p : ℕ) (done : Move) (content : Content) (v : World) → SafeWorld w → SafeWorld v → w.sessions.holds_partition s p ≡ true
      → v ≡ after_putting_partition w s p done content → x.due s ≡ None → Nobody v (after_putting x s (partition_lock p) (put_word (w.words.partition p)))
  put-partition p done content v safe after holding e none =
      to v _ (after_putting x s (partition_lock p) (put_word (w.words.partition p)))
      (gave w x s (partition_lock p) (w.words.partition p) nobody (lock_word-partition w.words.partition w.words.fast p) (after_putting_partition w s p done content)
      (put_word (w.words.partition p)) (with_lock (held_in w) s (partition_lock p) false) (shared_in w)
      (record { word_is = lock_word-set_partition w.words.partition w.words.fast p (put_word (w.words.partition p)); holds_is = row-set_partition w.sessions.holds_partition w.sessions.holds_fast s p false; shares_is = refl; sleepers_is = refl; list_is = refl })
      (put_word-flags (w.words.partition p) ((safe.but_slots.table.promise.words p).held_is_shown s holding)) none (subst SafeWorld e after)
      (λ j l away has. first _ _ _ (λ it. row-away (held_in w) s (partition_lock p) false j l away ∙ it) has)) e

  putting-keeps : (word : Word) (done : Move) (v : World) → SafeWorld w → SafeWorld v → HappensPutting w s word done v → x.due s ≡ None → Nobody v (duties_after w x s (PutExclusive word done))
  putting-keeps (Partition p) done v safe after (inl h) none = put-partition p done h.0 v safe after h.1.may_move.holding h.2 none
  putting-keeps (Partition p) done v safe after (inr h) none = put-partition p Keep (w.contents.now p) v safe after h.0.holding h.1 none
  putting-keeps (Fast o) done v safe after h none =
      to v _ (after_putting x s (fast_lock o) (put_word (w.words.fast o)))
      (gave w x s (fast_lock o) (w.words.fast o) nobody (lock_word-fast w.words.partition w.words.fast o) (after_putting_fast w s o)
      (put_word (w.words.fast o)) (with_lock (held_in w) s (fast_lock o) false) (shared_in w)
      (record { word_is = lock_word-set_fast w.words.partition w.words.fast o (put_word (w.words.fast o)); holds_is = row-set_fast w.sessions.holds_partition w.sessions.holds_fast s o false; shares_is = refl; sleepers_is = refl; list_is = refl })
      (put_word-flags (w.words.fast o) ((safe.but_slots.locks.fast_words o).held_is_shown s h.1.0.holding)) none (subst SafeWorld h.1.1 after)
      (λ j l away has. first _ _ _ (λ it. row-away (held_in w) s (fast_lock o) false j l away ∙ it) has)) h.1.1
  putting-keeps word done v safe after h none = absurd h

  unsharing-keeps : (word : Word) (v : World) → SafeWorld w → SafeWorld v → HappensUnsharing w s word v → x.due s ≡ None → Nobody v (duties_after w x s (PutShared word))
  unsharing-keeps (Partition p) v safe after h none =
      to v _ (after_putting x s (partition_lock p) (unshared_word (w.words.partition p)))
      (gave w x s (partition_lock p) (w.words.partition p) nobody (lock_word-partition w.words.partition w.words.fast p) (after_unsharing_partition w s p)
      (unshared_word (w.words.partition p)) (held_in w) (with_lock (shared_in w) s (partition_lock p) false)
      (record { word_is = lock_word-set_partition w.words.partition w.words.fast p (unshared_word (w.words.partition p)); holds_is = refl; shares_is = row-set_partition w.sessions.shares_partition w.sessions.shares_fast s p false; sleepers_is = refl; list_is = refl })
      (unshared_word-flags (w.words.partition p) (shared-some w.numbers.limit (w.words.partition p) (λ k. w.sessions.holds_partition k p) (λ k. w.sessions.shares_partition k p) s
      (safe.but_slots.table.promise.words p) h.0.sharing)) none (subst SafeWorld h.1 after)
      (λ j l away has. second _ _ _ (λ it. row-away (shared_in w) s (partition_lock p) false j l away ∙ it) has)) h.1
  unsharing-keeps (Fast o) v safe after h none =
      to v _ (after_putting x s (fast_lock o) (unshared_word (w.words.fast o)))
      (gave w x s (fast_lock o) (w.words.fast o) nobody (lock_word-fast w.words.partition w.words.fast o) (after_unsharing_fast w s o)
      (unshared_word (w.words.fast o)) (held_in w) (with_lock (shared_in w) s (fast_lock o) false)
      (record { word_is = lock_word-set_fast w.words.partition w.words.fast o (unshared_word (w.words.fast o)); holds_is = refl; shares_is = row-set_fast w.sessions.shares_partition w.sessions.shares_fast s o false; sleepers_is = refl; list_is = refl })
      (unshared_word-flags (w.words.fast o) (shared-some w.numbers.limit (w.words.fast o) (λ k. w.sessions.holds_fast k o) (λ k. w.sessions.shares_fast k o) s
      (safe.but_slots.locks.fast_words o) h.0.sharing)) none (subst SafeWorld h.1 after)
      (λ j l away has. second _ _ _ (λ it. row-away (shared_in w) s (fast_lock o) false j l away ∙ it) has)) h.1
  unsharing-keeps word v safe after h none = absurd h

  passing-keeps : (o : ℕ) (v : World) (t : _) (m : _) → SafeWorld w → SafeWorld v → HappensStep w s (PutPassing o t m) v → x.due s ≡ None → Nobody v (duties_after w x s (PutPassing o t m))
  passing-keeps o v t m safe after h none =
      to v _ (after_putting x s (fast_lock o) (put_word (w.words.fast o)))
      (gave w x s (fast_lock o) (w.words.fast o) nobody (lock_word-fast w.words.partition w.words.fast o) (after_passing w s o t m)
      (put_word (w.words.fast o)) (with_lock (held_in w) s (fast_lock o) false) (shared_in w)
      (record { word_is = lock_word-set_fast w.words.partition w.words.fast o (put_word (w.words.fast o)); holds_is = row-set_fast w.sessions.holds_partition w.sessions.holds_fast s o false; shares_is = refl; sleepers_is = refl; list_is = refl })
      (put_word-flags (w.words.fast o) ((safe.but_slots.locks.fast_words o).held_is_shown s h.0.holding)) none (subst SafeWorld h.1 after)
      (λ j l away has. first _ _ _ (λ it. row-away (held_in w) s (fast_lock o) false j l away ∙ it) has)) h.1

  joining_seat-keeps : (joiner : Option ℕ) (v : World) (waits sleeps : Calls) → HappensJoining w s joiner v → HasNothingToDo w x waits sleeps s → Nobody v x
  joining_seat-keeps (Some j) v waits sleeps h nothing = to v _ x nobody h.1
  joining_seat-keeps None v waits sleeps h nothing = to v _ x (subst NobodyIsForgotten (sym same) nobody) h.1 where
    same : waking (after_closing w s) x ≡ waking w x
    same = λ i. record (waking w x) { sleepers = record ((waking w x).sleepers) { off = set_at-same w.sessions.off s (λ _. false) (λ j o. sym (nothing.tells_nobody o) j) i } }

  marking_in-keeps : (o p : ℕ) (done : Move) (v : World) → HappensMarkingIn w s o p done v → Nobody v x
  marking_in-keeps o p done v (inl h) = to v _ x nobody h.3
  marking_in-keeps o p done v (inr h) = to v _ x nobody h.1

  marking-keeps : (o : ℕ) (done : Move) (v : World) → HappensMarking w s o done v → Nobody v x
  marking-keeps o Keep v h = absurd h
  marking-keeps o (Grant t m) v h = absurd h
  marking-keeps o (Join t m) v h = absurd h
  marking-keeps o (Release t m) v h = marking_in-keeps o (partition_of t) (Release t m) v h
  marking-keeps o (Leave t) v h = marking_in-keeps o (partition_of t) (Leave t) v h
  marking-keeps o (Adopt q i) v h = absurd h

  clearing-keeps : (leaving : Bool) (v : World) → HappensClearing w s leaving v → Nobody v x
  clearing-keeps false v h = to v _ x nobody h.2
  clearing-keeps true v (inl h) = to v _ x nobody h.4
  clearing-keeps true v (inr h) = to v _ x nobody h.3

  loading-keeps : (word : Word) (n : ℕ) (v : World) → HappensLoading w s word n v → Nobody v x
  loading-keeps (Fast o) n v h = to v _ x nobody h.2
  loading-keeps (Database q) n v h = to v _ x nobody h.1
  loading-keeps (Slot q i) n v h = to v _ x nobody h.1
  loading-keeps word n v h = absurd h

  locking-keeps : (word : Word) (v : World) → HappensLockingList w s word v → AsksLocking w x s (lock_of word) → Nobody v (after_locking x s)
  locking-keeps (Partition p) v h k = to v _ (after_locking x s) (locked w x s (partition_lock p) (w.words.partition p) nobody (lock_word-partition w.words.partition w.words.fast p) _
      (lists-partition w p (list_locked_word (w.words.partition p)) (set_at w.sessions.has_list s (Some (partition_lock p)))) k h.1.no_list) h.2
  locking-keeps (Fast o) v h k = to v _ (after_locking x s) (locked w x s (fast_lock o) (w.words.fast o) nobody (lock_word-fast w.words.partition w.words.fast o) _
      (lists-fast w o (list_locked_word (w.words.fast o)) (set_at w.sessions.has_list s (Some (fast_lock o)))) k h.1.no_list) h.2
  locking-keeps word v h k = absurd h

  unlocking-keeps : (word : Word) (waiters release : Bool) (v : World) → SafeWorld w → HappensUnlockingList w s word waiters release v → AsksUnlocking w x s (lock_of word) waiters release → Nobody v x
  unlocking-keeps (Partition p) waiters release v safe h k = to v _ x (unlocked w x s (partition_lock p) (w.words.partition p) nobody (lock_word-partition w.words.partition w.words.fast p) _ waiters release safe
      (lists-partition w p (list_unlocked_word (w.words.partition p) waiters release) (set_at w.sessions.has_list s None)) h.0.in_hand k) h.1
  unlocking-keeps (Fast o) waiters release v safe h k = to v _ x (unlocked w x s (fast_lock o) (w.words.fast o) nobody (lock_word-fast w.words.partition w.words.fast o) _ waiters release safe
      (lists-fast w o (list_unlocked_word (w.words.fast o) waiters release) (set_at w.sessions.has_list s None)) h.0.in_hand k) h.1
  unlocking-keeps word waiters release v safe h k = absurd h

  showing-keeps : (word : Word) (n : ℕ) (v : World) → HappensSettingHasWaiters w s word n v → Nobody v (record x { flagged = set_at x.flagged s true })
  showing-keeps (Partition p) n v h = to v _ (record x { flagged = set_at x.flagged s true }) (showed_waiters w x s (partition_lock p) (w.words.partition p) nobody (lock_word-partition w.words.partition w.words.fast p) _
      (lists-partition w p (has_waiters_word (w.words.partition p)) w.sessions.has_list) h.0.has.in_hand) h.1
  showing-keeps (Fast o) n v h = to v _ (record x { flagged = set_at x.flagged s true }) (showed_waiters w x s (fast_lock o) (w.words.fast o) nobody (lock_word-fast w.words.partition w.words.fast o) _
      (lists-fast w o (has_waiters_word (w.words.fast o)) w.sessions.has_list) h.0.has.in_hand) h.1
  showing-keeps word n v h = absurd h

  -- Release-ok, by what the session owes of it, where it stands, and whether it has the list in hand.
  is_lock-some : (its : Option ℕ) (lock : ℕ) → is_lock its lock ≡ true → its ≡ Some lock
  is_lock-some None lock it = absurd (false≢true it)
  is_lock-some (Some l) lock it = ap Some (eqb-true l lock it)

  not_some-none : (its : Option ℕ) → not (is_some its) ≡ true → its ≡ None
  not_some-none None it = refl
  not_some-none (Some l) it = absurd (false≢true it)

  not-false : (b : Bool) → not b ≡ true → b ≡ false
  not-false false it = refl
  not-false true it = absurd (false≢true it)

  set_ok :
      (lock n : ℕ) (v : World) → lock_word w.words.partition w.words.fast lock ≡ n → SafeWorld w
      → Shows v (set_at (lock_word w.words.partition w.words.fast) lock (release_ok_word n)) (held_in w) (shared_in w) (sleepers w) w.sessions.has_list
      → AsksSettingOk w x s lock → Nobody v (after_setting_ok w x s lock)
  set_ok lock n v is safe shows asks = elim (cases_Bool (is_lock (x.owes_release_ok s) lock)) [
    | inr free ↦ subst (Nobody v) (sym (cond-false (is_lock (x.owes_release_ok s) lock) (ok_set_as_owed w x s lock) x free)) anyway
    | inl its ↦
        let owes = is_lock-some (x.owes_release_ok s) lock its in
        subst (Nobody v) (sym (cond-true (is_lock (x.owes_release_ok s) lock) (ok_set_as_owed w x s lock) x its)) (elim (cases_Bool (not (is_some (w.sessions.stands s)))) [
          | inl told ↦
              let none = not_some-none (w.sessions.stands s) told in
              subst (Nobody v) (sym (cond-true (not (is_some (w.sessions.stands s))) (ok_set_by_told x s lock) (ok_set_before_told w x s lock) told))
              (set_ok_told w x s lock n nobody is v shows safe owes none (asks.no_other owes none))
          | inr stands ↦ subst (Nobody v) (sym (cond-false (not (is_some (w.sessions.stands s))) (ok_set_by_told x s lock) (ok_set_before_told w x s lock) stands))
              (elim (cases_Bool (is_lock (w.sessions.has_list s) lock && not (stands_in s (w.words.list lock)))) [
                | inl won ↦
                    let both = and_parts (is_lock (w.sessions.has_list s) lock) (not (stands_in s (w.words.list lock))) won in
                    let in_hand = is_lock-some (w.sessions.has_list s) lock both.0 in
                    subst (Nobody v) (sym (cond-true (is_lock (w.sessions.has_list s) lock && not (stands_in s (w.words.list lock))) (ok_set_by_winner x s) x won))
                    (set_ok_won w x s lock n nobody is v shows safe owes in_hand (asks.tells_nobody owes in_hand) (not-false (stands_in s (w.words.list lock)) both.1))
                | inr other ↦ subst (Nobody v) (sym (cond-false (is_lock (w.sessions.has_list s) lock && not (stands_in s (w.words.list lock))) (ok_set_by_winner x s) x other)) anyway
              ])
        ])
  ] where
    anyway : Nobody v x
    anyway = set_ok_anyway w x s lock n nobody is v shows

  setting_ok-keeps : (word : Word) (n : ℕ) (v : World) → SafeWorld w → HappensSettingReleaseOk w s word n v → AsksSettingOk w x s (lock_of word) → Nobody v (after_setting_ok w x s (lock_of word))
  setting_ok-keeps (Partition p) n v safe h k = to v _ (after_setting_ok w x s (partition_lock p)) (set_ok (partition_lock p) (w.words.partition p) _ (lock_word-partition w.words.partition w.words.fast p) safe
      (lists-partition w p (release_ok_word (w.words.partition p)) w.sessions.has_list) k) h.2
  setting_ok-keeps (Fast o) n v safe h k = to v _ (after_setting_ok w x s (fast_lock o)) (set_ok (fast_lock o) (w.words.fast o) _ (lock_word-fast w.words.partition w.words.fast o) safe
      (lists-fast w o (release_ok_word (w.words.fast o)) w.sessions.has_list) k) h.2
  setting_ok-keeps word n v safe h k = absurd h

  sleeping-keeps : (n : ℕ) (v : World) → HappensStep w s (LoadSleep n) v → Nobody v x
  sleeping-keeps n v h = elim (cases_eq n 0) [
    | inl none ↦ to v _ x (subst NobodyIsForgotten
        (λ i. record (waking w x) { sleepers = sym (cond-true (n == 0) (after_seeing_none (sleepers w) s) (sleepers w) (eq-eqb n 0 none)) i }) (seeing_told-nobody (waking w x) s nobody)) h.1
    | inr some ↦ to v _ x (subst NobodyIsForgotten
        (λ i. record (waking w x) { sleepers = sym (cond-false (n == 0) (after_seeing_none (sleepers w) s) (sleepers w) (ne_eqb n 0 some)) i }) nobody) h.1
  ]

  pub step-keeps :
      (v : World) (step : Step) (waits sleeps : Calls) → SafeWorld w → SafeWorld v → HappensStep w s step v → Asks w x waits sleeps s step → Nobody v (duties_after w x s step)
  step-keeps v (TakeExclusive word) waits sleeps safe after h k = taking-keeps word v h k
  step-keeps v (PutExclusive word done) waits sleeps safe after h k = putting-keeps word done v safe after h k
  step-keeps v (TakeShared word) waits sleeps safe after h k = sharing-keeps word v safe h k
  step-keeps v (PutShared word) waits sleeps safe after h k = unsharing-keeps word v safe after h k
  step-keeps v SplitSeat waits sleeps safe after (inl h) k = to v _ x nobody h.1
  step-keeps v SplitSeat waits sleeps safe after (inr h) k = to v _ x nobody h.1
  step-keeps v (JoinSeat joiner) waits sleeps safe after h k = joining_seat-keeps joiner v waits sleeps h k
  step-keeps v (AskCancel o) waits sleeps safe after h k = to v _ x nobody h.1
  step-keeps v (LoadWait n) waits sleeps safe after h k = to v _ x nobody h.1
  step-keeps v (SetWaiting t m) waits sleeps safe after h k = to v _ x nobody h.2
  step-keeps v (MarkGranted o done) waits sleeps safe after h k = marking-keeps o done v h
  step-keeps v (ClearWait leaving) waits sleeps safe after h k = clearing-keeps leaving v h
  step-keeps v (PutPassing o t m) waits sleeps safe after h k = passing-keeps o v t m safe after h k
  step-keeps v (LoadStrong i n) waits sleeps safe after h k = to v _ x nobody h.1
  step-keeps v (LoadWord word n) waits sleeps safe after h k = loading-keeps word n v h
  step-keeps v (SetSlot i t m) waits sleeps safe after h k = to v _ x nobody h.1
  step-keeps v (ClearSlot i t m) waits sleeps safe after h k = to v _ x nobody h.1
  step-keeps v (StoreDatabase d) waits sleeps safe after h k = to v _ x nobody h.1
  step-keeps v (Count t m) waits sleeps safe after h k = to v _ x nobody h.1
  step-keeps v (Uncount t m) waits sleeps safe after h k = to v _ x nobody h.1
  step-keeps v (TransferSlot q i t m z) waits sleeps safe after h k = to v _ x nobody h.1
  step-keeps v (LockList word) waits sleeps safe after h k = locking-keeps word v h k
  step-keeps v (UnlockList word waiters release) waits sleeps safe after h k = unlocking-keeps word waiters release v safe h k
  step-keeps v (JoinList mode) waits sleeps safe after h k =
      to v _ (after_queueing w x s) (subst (λ its. Nobody (after_joining_list w s h.0 mode) (record x { tries = set_at x.tries s its; owes_release_ok = set_at x.owes_release_ok s its })) (sym h.1.has.in_hand)
      (joining-nobody (waking w x) h.0 (record { session = s; mode = mode }) nobody h.1.has.in_hand k.owes_no_ok k.flagged h.1.idle (k.no_other h.0 h.1.has.in_hand))) h.2
  step-keeps v LeaveList waits sleeps safe after h k = to v _ (duties_after w x s LeaveList) (leaving-nobody (waking w x) h.0 s nobody h.1.stands h.1.has.in_hand) h.2
  step-keeps v (TakeOff o) waits sleeps safe after h k = to v _ x (taking_off-nobody (waking w x) h.0 o nobody h.1.stands s h.1.has.in_hand) h.2
  step-keeps v (Tell o) waits sleeps safe after h k = to v _ x (telling-nobody (waking w x) s o nobody) h.1
  step-keeps v (LoadSleep n) waits sleeps safe after h k = sleeping-keeps n v h
  step-keeps v (SetReleaseOk word n) waits sleeps safe after h k = setting_ok-keeps word n v safe h k
  step-keeps v (SetHasWaiters word n) waits sleeps safe after h k = showing-keeps word n v h
