use Rattle.std.proofs.Common.{◌≡◌, ◌≢◌, ℕ, Bool, true, false, List, [], ◌∷◌, ◌++◌, Option, Some, None, refl, ap, ◌∙◌}
use Rattle.std.specs.Prelude.{◌==◌, if◌then◌else◌}
use Rattle.lw_word.specs.declared.wait_lists.LwWaiter.{LwWaiter}
use Rattle.lw_word.specs.declared.words.LwMode.{LwMode}
use Rattle.lw_word.specs.WaitList.{without}
use Rattle.lock_table.specs.Put.{set_at}
use Rattle.lock_table.proofs.Lemmas.Put.{set_at-else}
use Rattle.lock_world.specs.World.{World}
use Rattle.lock_world.specs.WaitLists.{Sleepers, partition_lock, fast_lock, after_joining, after_leaving_list, after_taking_off, after_telling, after_seeing_none}
use Rattle.lock_world.specs.Account.{list_in_hand, IsLeftAlone}
use Rattle.lock_world.specs.Happens.Lists.{sleepers, with_lists, with_sleepers, after_locking_partition_list, after_locking_fast_list, HasList, after_unlocking_partition_list, after_unlocking_fast_list, MayJoinList, after_joining_list, MayLeaveList, after_leaving_the_list, MayTakeOff, after_taking_off_the_list, after_telling_one, after_loading_sleep, after_flagging_partition, after_flagging_fast}
use Rattle.lock_world.specs.SafeWorld.{SafeWorld}
use Rattle.lock_world.proofs.Lemmas.Others.Hands.{IsLeftAlone-by}

-- Steps on wait lists leave others alone: nobody but who has a list in hand knows who stands in it.
lists-others :
    (w : World) (partition fast : ℕ → ℕ) (after : Sleepers) (has : ℕ → Option ℕ) (k : ℕ) → list_in_hand (has k) after.list ≡ list_in_hand (w.sessions.has_list k) w.words.list
    → after.stands k ≡ w.sessions.stands k → after.off k ≡ w.sessions.off k → IsLeftAlone w (with_lists w partition fast after has) k
lists-others w partition fast after has k in_hand stands off =
    IsLeftAlone-by w (with_lists w partition fast after has) k (λ i. record { in_hand = in_hand i; stands = stands i; off = off i }) refl refl refl refl refl refl refl refl refl

-- The list that another has in hand is not the one that changed.
other_list :
    (w : World) (s k lock : ℕ) (waiters : List LwWaiter) → SafeWorld w → k ≢ s → HasList w s lock
    → list_in_hand (w.sessions.has_list k) (set_at w.words.list lock waiters) ≡ list_in_hand (w.sessions.has_list k) w.words.list
other_list w s k lock waiters safe other has = at (w.sessions.has_list k) refl where
  at : (its : Option ℕ) → w.sessions.has_list k ≡ its → list_in_hand its (set_at w.words.list lock waiters) ≡ list_in_hand its w.words.list
  at None is = refl
  at (Some l) is =
      ap (λ stand. Some (record { lock = l; waiters = stand }))
      (set_at-else w.words.list lock waiters l (λ same. other ((safe.lists.shown lock).by_one k s (is ∙ ap Some same) has.in_hand)))

module _ (w : World) (s k : ℕ) (safe : SafeWorld w) (other : k ≢ s) where
  -- Locking a list and unlocking it.
  handed : (partition fast : ℕ → ℕ) (its : Option ℕ) → IsLeftAlone w (with_lists w partition fast (sleepers w) (set_at w.sessions.has_list s its)) k
  handed partition fast its =
      lists-others w partition fast (sleepers w) (set_at w.sessions.has_list s its) k (ap (λ has. list_in_hand has w.words.list) (set_at-else w.sessions.has_list s its k other)) refl refl

  pub locking_partition_list-others : (p : ℕ) → IsLeftAlone w (after_locking_partition_list w s p) k
  locking_partition_list-others p = handed _ w.words.fast (Some (partition_lock p))

  pub locking_fast_list-others : (o : ℕ) → IsLeftAlone w (after_locking_fast_list w s o) k
  locking_fast_list-others o = handed w.words.partition _ (Some (fast_lock o))

  pub unlocking_partition_list-others : (p : ℕ) (waiters release : Bool) → IsLeftAlone w (after_unlocking_partition_list w s p waiters release) k
  unlocking_partition_list-others p waiters release = handed _ w.words.fast None

  pub unlocking_fast_list-others : (o : ℕ) (waiters release : Bool) → IsLeftAlone w (after_unlocking_fast_list w s o waiters release) k
  unlocking_fast_list-others o waiters release = handed w.words.partition _ None

  -- Changing the list in hand, and telling those taken off.
  changing : (after : Sleepers) → list_in_hand (w.sessions.has_list k) after.list ≡ list_in_hand (w.sessions.has_list k) w.words.list
      → after.stands k ≡ w.sessions.stands k → after.off k ≡ w.sessions.off k → IsLeftAlone w (with_sleepers w after) k
  changing after in_hand stands off = lists-others w w.words.partition w.words.fast after w.sessions.has_list k in_hand stands off

  pub joining_list-others : (mode : LwMode) (lock : ℕ) → MayJoinList w s lock → IsLeftAlone w (after_joining_list w s lock mode) k
  joining_list-others mode lock may =
      changing (after_joining (sleepers w) lock (record { session = s; mode = mode }))
      (other_list w s k lock (w.words.list lock ++ record { session = s; mode = mode } ∷ []) safe other may.has) (set_at-else w.sessions.stands s (Some lock) k other) refl

  pub leaving_list-others : (lock : ℕ) → MayLeaveList w s lock → IsLeftAlone w (after_leaving_the_list w s lock) k
  leaving_list-others lock may =
      changing (after_leaving_list (sleepers w) lock s) (other_list w s k lock (without s (w.words.list lock)) safe other may.has) (set_at-else w.sessions.stands s None k other) refl

  pub taking_off-others : (o lock : ℕ) → MayTakeOff w s o lock → IsLeftAlone w (after_taking_off_the_list w s o lock) k
  taking_off-others o lock may =
      changing (after_taking_off (sleepers w) lock s o) (other_list w s k lock (without o (w.words.list lock)) safe other may.has) refl
      (set_at-else w.sessions.off s (set_at (w.sessions.off s) o true) k other)

  pub telling-others : (o : ℕ) → IsLeftAlone w (after_telling_one w s o) k
  telling-others o = changing (after_telling (sleepers w) s o) refl refl (set_at-else w.sessions.off s (set_at (w.sessions.off s) o false) k other)

  pub loading_sleep-others : (n : ℕ) → IsLeftAlone w (after_loading_sleep w s n) k
  loading_sleep-others n = at (n == 0) where
    at : (none : Bool) → IsLeftAlone w (with_sleepers w (if none then after_seeing_none (sleepers w) s else sleepers w)) k
    at true = changing (after_seeing_none (sleepers w) s) refl (set_at-else w.sessions.stands s None k other) refl
    at false = changing (sleepers w) refl refl refl

module _ (w : World) (k : ℕ) where
  pub flagging_partition-others : (p n : ℕ) → IsLeftAlone w (after_flagging_partition w p n) k
  flagging_partition-others p n = lists-others w _ w.words.fast (sleepers w) w.sessions.has_list k refl refl refl

  pub flagging_fast-others : (o n : ℕ) → IsLeftAlone w (after_flagging_fast w o n) k
  flagging_fast-others o n = lists-others w w.words.partition _ (sleepers w) w.sessions.has_list k refl refl refl
