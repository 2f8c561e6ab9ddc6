use Rattle.std.proofs.Common.{◌≡◌, ℕ, ◌/◌, ◌%◌, ◌^◌, Bool, true, false, List, [], ◌∷◌, ◌++◌, Option, Some, None, refl, sym, ap, ◌∙◌}
use Rattle.std.specs.Prelude.{◌==◌, if◌then◌else◌}
use Rattle.lw_word.specs.declared.wait_lists.LwWaiter.{LwWaiter}
use Rattle.lw_word.specs.declared.words.LwMode.{LwMode}
use Rattle.lw_word.specs.LightweightWord.{list_locked_word, list_unlocked_word}
use Rattle.lw_word.specs.WaitList.{stands_in, without}
use Rattle.lock_table.specs.Put.{set_at}
use Rattle.lock_table.proofs.Lemmas.Put.{set_at-here}
use Rattle.lock_world.specs.World.{World, MakesSteps}
use Rattle.lock_world.specs.WaitLists.{Sleepers, partition_lock, fast_lock, after_joining, after_leaving_list, after_taking_off, after_telling, after_seeing_none}
use Rattle.lock_world.specs.Happens.Lists.{sleepers, with_lists, with_sleepers, MayLockList, after_locking_partition_list, after_locking_fast_list, HasList, after_unlocking_partition_list, after_unlocking_fast_list, MayJoinList, after_joining_list, MayLeaveList, after_leaving_the_list, MayTakeOff, after_taking_off_the_list, MayTell, after_telling_one, after_loading_sleep, after_flagging_partition, after_flagging_fast}
use Rattle.lock_world.specs.Account.{ListInHand, list_in_hand, ListAccount, list_account, account}
use Rattle.lock_world.specs.AccountSteps.{account_locking_list, account_unlocking_list, account_joining_list, account_leaving_list, account_taking_off, account_telling, account_loading_sleep}
use Rattle.lock_world.specs.AccountLaw.{MayLockListBy, MayJoinListBy, MayLeaveListBy, MayTakeOffBy, MayTellBy}
use Rattle.lock_world.specs.SafeWorld.{SafeWorld}
use Rattle.lock_world.proofs.Lemmas.Accounts.Parts.{account-by}

-- What a session knows of wait lists is this part by part; a step on them changes nothing else of its
-- account.
with_lists-account :
    (w : World) (partition fast : ℕ → ℕ) (after : Sleepers) (has : ℕ → Option ℕ) (s : ℕ) (lists : ListAccount) → list_in_hand (has s) after.list ≡ lists.in_hand
    → after.stands s ≡ lists.stands → after.off s ≡ lists.off → account (with_lists w partition fast after has) s ≡ record (account w s) { lists = lists }
with_lists-account w partition fast after has s lists in_hand stands off =
    account-by (with_lists w partition fast after has) s (record (account w s) { lists = lists })
    (λ i. record { in_hand = in_hand i; stands = stands i; off = off i }) refl refl refl refl refl refl refl

-- the list in hand of this lock
abbrev pub list_now : World → ℕ → ListInHand
list_now w lock = record { lock = lock; waiters = w.words.list lock }

had : (w : World) (s lock : ℕ) → w.sessions.has_list s ≡ Some lock → (list : ℕ → List LwWaiter) → list_in_hand (w.sessions.has_list s) list ≡ Some (record { lock = lock; waiters = list lock })
had w s lock in_hand list = ap (λ has. list_in_hand has list) in_hand

-- the list in hand, where it changed
had-set :
    (w : World) (s lock : ℕ) → w.sessions.has_list s ≡ Some lock → (waiters : List LwWaiter)
    → list_in_hand (w.sessions.has_list s) (set_at w.words.list lock waiters) ≡ Some (record { lock = lock; waiters = waiters })
had-set w s lock in_hand waiters =
    had w s lock in_hand (set_at w.words.list lock waiters) ∙ ap (λ l. Some (record { lock = lock; waiters = l })) (set_at-here w.words.list lock waiters lock refl)

module _ (w : World) (s : ℕ) where
  -- Locking a list and unlocking it.
  locked : (partition fast : ℕ → ℕ) (lock : ℕ)
      → account (with_lists w partition fast (sleepers w) (set_at w.sessions.has_list s (Some lock))) s ≡ account_locking_list (account w s) lock (w.words.list lock)
  locked partition fast lock =
      with_lists-account w partition fast (sleepers w) (set_at w.sessions.has_list s (Some lock)) s (account_locking_list (account w s) lock (w.words.list lock)).lists
      (ap (λ has. list_in_hand has w.words.list) (set_at-here w.sessions.has_list s (Some lock) s refl)) refl refl

  pub account-locking_partition_list : (p : ℕ) → account (after_locking_partition_list w s p) s ≡ account_locking_list (account w s) (partition_lock p) (w.words.list (partition_lock p))
  account-locking_partition_list p = locked (set_at w.words.partition p (list_locked_word (w.words.partition p))) w.words.fast (partition_lock p)

  pub account-locking_fast_list : (o : ℕ) → account (after_locking_fast_list w s o) s ≡ account_locking_list (account w s) (fast_lock o) (w.words.list (fast_lock o))
  account-locking_fast_list o = locked w.words.partition (set_at w.words.fast o (list_locked_word (w.words.fast o))) (fast_lock o)

  unlocked : (partition fast : ℕ → ℕ) → account (with_lists w partition fast (sleepers w) (set_at w.sessions.has_list s None)) s ≡ account_unlocking_list (account w s)
  unlocked partition fast =
      with_lists-account w partition fast (sleepers w) (set_at w.sessions.has_list s None) s (account_unlocking_list (account w s)).lists
      (ap (λ has. list_in_hand has w.words.list) (set_at-here w.sessions.has_list s None s refl)) refl refl

  pub account-unlocking_partition_list : (p : ℕ) (waiters release : Bool) → account (after_unlocking_partition_list w s p waiters release) s ≡ account_unlocking_list (account w s)
  account-unlocking_partition_list p waiters release = unlocked (set_at w.words.partition p (list_unlocked_word (w.words.partition p) waiters release)) w.words.fast

  pub account-unlocking_fast_list : (o : ℕ) (waiters release : Bool) → account (after_unlocking_fast_list w s o waiters release) s ≡ account_unlocking_list (account w s)
  account-unlocking_fast_list o waiters release = unlocked w.words.partition (set_at w.words.fast o (list_unlocked_word (w.words.fast o) waiters release))

  -- A flag changes no account.
  pub account-flagging_partition : (p n : ℕ) → account (after_flagging_partition w p n) s ≡ account w s
  account-flagging_partition p n = refl

  pub account-flagging_fast : (o n : ℕ) → account (after_flagging_fast w o n) s ≡ account w s
  account-flagging_fast o n = refl

  -- The list in hand, and those taken off it.
  changed : (after : Sleepers) (lists : ListAccount) → list_in_hand (w.sessions.has_list s) after.list ≡ lists.in_hand → after.stands s ≡ lists.stands → after.off s ≡ lists.off
      → account (with_sleepers w after) s ≡ record (account w s) { lists = lists }
  changed after lists in_hand stands off = with_lists-account w w.words.partition w.words.fast after w.sessions.has_list s lists in_hand stands off

  pub account-joining_list : (lock : ℕ) (mode : LwMode) → MayJoinList w s lock
      → account (after_joining_list w s lock mode) s ≡ account_joining_list (account w s) (list_now w lock) (record { session = s; mode = mode })
  account-joining_list lock mode may =
      changed (after_joining (sleepers w) lock (record { session = s; mode = mode })) (account_joining_list (account w s) (list_now w lock) (record { session = s; mode = mode })).lists
      (had-set w s lock may.has.in_hand (w.words.list lock ++ record { session = s; mode = mode } ∷ [])) (set_at-here w.sessions.stands s (Some lock) s refl) refl

  pub account-leaving_list : (lock : ℕ) → MayLeaveList w s lock → account (after_leaving_the_list w s lock) s ≡ account_leaving_list (account w s) (list_now w lock) s
  account-leaving_list lock may =
      changed (after_leaving_list (sleepers w) lock s) (account_leaving_list (account w s) (list_now w lock) s).lists
      (had-set w s lock may.has.in_hand (without s (w.words.list lock))) (set_at-here w.sessions.stands s None s refl) refl

  pub account-taking_off : (other lock : ℕ) → MayTakeOff w s other lock → account (after_taking_off_the_list w s other lock) s ≡ account_taking_off (account w s) (list_now w lock) other
  account-taking_off other lock may =
      changed (after_taking_off (sleepers w) lock s other) (account_taking_off (account w s) (list_now w lock) other).lists
      (had-set w s lock may.has.in_hand (without other (w.words.list lock))) refl (set_at-here w.sessions.off s (set_at (w.sessions.off s) other true) s refl)

  pub account-telling : (other : ℕ) → account (after_telling_one w s other) s ≡ account_telling (account w s) other
  account-telling other =
      changed (after_telling (sleepers w) s other) (account_telling (account w s) other).lists refl refl (set_at-here w.sessions.off s (set_at (w.sessions.off s) other false) s refl)

  pub account-loading_sleep : (n : ℕ) → account (after_loading_sleep w s n) s ≡ account_loading_sleep (account w s) n
  account-loading_sleep n = at (n == 0) where
    at : (none : Bool) → account (with_sleepers w (if none then after_seeing_none (sleepers w) s else sleepers w)) s
        ≡ record (account w s) { lists = record ((account w s).lists) { stands = if none then None else w.sessions.stands s } }
    at true = changed (after_seeing_none (sleepers w) s) (record (list_account w s) { stands = None }) refl (set_at-here w.sessions.stands s None s refl) refl
    at false = refl

-- What is lawful by a session's account is lawful.
known-list : (has : Option ℕ) (list : ℕ → List LwWaiter) (mine : ListInHand) → list_in_hand has list ≡ Some mine → (has ≡ Some mine.lock) × (list mine.lock ≡ mine.waiters)
known-list None list mine known = absurd (cc)
known-list (Some lock) list mine known =
    let same : record { lock = lock; waiters = list lock } ≡ mine = cc in
    (ap (λ (l : ListInHand). Some l.lock) same, ap (λ (l : ListInHand). list l.lock) (sym same) ∙ ap (λ (l : ListInHand). l.waiters) same)

no_list-known : (has : Option ℕ) (list : ℕ → List LwWaiter) → list_in_hand has list ≡ None → has ≡ None
no_list-known None list none = refl
no_list-known (Some lock) list none = absurd (cc)

module _ (w : World) (safe : SafeWorld w) (s : ℕ) (steps : MakesSteps w.numbers s) where
  pub lock_list-lawful : (word : ℕ) → MayLockListBy (account w s) → word / 2 ^ 28 % 2 ≡ 0 → MayLockList w.numbers word w.sessions.has_list s
  lock_list-lawful word may unlocked = record { steps = steps; unlocked = unlocked; no_list = no_list-known (w.sessions.has_list s) w.words.list may.no_list }

  -- Whoever knows the list in hand has that list.
  pub has_list-lawful : (mine : ListInHand) → (account w s).lists.in_hand ≡ Some mine → HasList w s mine.lock
  has_list-lawful mine known = record { steps = steps; in_hand = (known-list (w.sessions.has_list s) w.words.list mine known).0 }

  there : (k : ℕ) (mine : ListInHand) → (account w s).lists.in_hand ≡ Some mine → stands_in k mine.waiters ≡ true → stands_in k (w.words.list mine.lock) ≡ true
  there k mine known stands = ap (stands_in k) (known-list (w.sessions.has_list s) w.words.list mine known).1 ∙ stands

  pub join_list-lawful : (mine : ListInHand) → MayJoinListBy (account w s) mine → MayJoinList w s mine.lock
  join_list-lawful mine may = record { has = has_list-lawful mine may.in_hand; idle = safe.lists.sleepers.idle s may.in_none }

  pub leave_list-lawful : (mine : ListInHand) → MayLeaveListBy s (account w s) mine → MayLeaveList w s mine.lock
  leave_list-lawful mine may =
      let stood = there s mine may.in_hand may.stands in
      record { has = has_list-lawful mine may.in_hand; stands = stood; waits = safe.lists.sleepers.waiting mine.lock s stood }

  pub take_off-lawful : (mine : ListInHand) (k : ℕ) → MayTakeOffBy s (account w s) mine k → MayTakeOff w s k mine.lock
  take_off-lawful mine k may =
      let stood = there k mine may.in_hand may.stands in
      record { another = may.another; has = has_list-lawful mine may.in_hand; stands = stood; waits = safe.lists.sleepers.waiting mine.lock k stood }

  pub tell-lawful : (k : ℕ) → MayTellBy (account w s) k → MayTell w s k
  tell-lawful k may = record { steps = steps; taken_off = may.taken_off; untold = safe.lists.sleepers.taken_off s k may.taken_off }
