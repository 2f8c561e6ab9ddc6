use Rattle.std.proofs.Common.{zero, suc, ◌≡◌, ◌≢◌, ℕ, ◌+◌, ◌<◌, ◌≤◌, true, sym, ap, ◌∙◌, subst, inl, inr, arith}
use Rattle.std.proofs.lemmas.Bool.{cases_eq, both_ways}
use Rattle.lw_word.specs.WaitList.{stands_in}
use Rattle.lock_world.specs.WaitLists.{SleepersAreInOrder}
use Rattle.lock_world.specs.Wakes.Waking.{Waking, HasLock, Owes, has_it, must_look, has_its_list, must_try, must_set_ok, NobodyIsForgotten, IsAsleep, IsOwedOrTold, rank, OrderIsKept, IsInvolved, owes_one, tells_one}
use Rattle.lock_world.proofs.Lemmas.Wakes.Readings.{not-none, one-lock}
use Rattle.lock_world.proofs.Lemmas.Wakes.Standing.{no-list}

-- What follows for those who sleep.

-- A sleeper stands in its list, and that list is owed; or it was taken off, and somebody has it to tell.
pub sleeper-owed : (w : Waking) (s lock : ℕ) → NobodyIsForgotten w → SleepersAreInOrder w.sleepers → IsAsleep w s lock → IsOwedOrTold w s lock
sleeper-owed w s lock safe order asleep = elim (cases_eq (w.sleepers.sleep s) 1) [
  | inl one ↦
      let f = safe.waits s one in
      let its : f.0 ≡ lock = one-lock (w.sleepers.stands s) (f.0) lock (order.named (f.0) s (f.1)) asleep.stands in
      let there : stands_in s (w.sleepers.list lock) ≡ true = ap (λ j. stands_in s (w.sleepers.list j)) (sym its) ∙ f.1 in
      inl (there, safe.owed lock (no-list s (w.sleepers.list lock) there))
  | inr not_one ↦ inr (safe.told s (two (w.sleepers.sleep s) (safe.few s) asleep.not_told not_one))
] where
  two : (n : ℕ) → n < 3 → n ≢ 0 → n ≢ 1 → n ≡ 2
  two n few not_none not_one = omega (arith, few, not_none, not_one)

-- Where all who are involved sleep, each sleeper's lock is had by one that sleeps for a later lock, and 17
-- locks are the longest chain.
module _ (w : Waking) (safe : NobodyIsForgotten w) (order : SleepersAreInOrder w.sleepers) (kept : OrderIsKept w)
    (all : (j : ℕ) → IsInvolved w j → (l : ℕ) × IsAsleep w j l) where
  in_its_list : (j l : ℕ) → IsAsleep w j l → stands_in j (w.sleepers.list l) ≡ true
  in_its_list j l asleep = elim (sleeper-owed w j l safe order asleep) [
    | inl there ↦ there.0
    | inr off ↦ let teller = all (off.0) (tells_one j (off.1)) in absurd (both_ways (w.sleepers.off (off.0) j) ((teller.1).tells_nobody j) (off.1))
  ]

  climb : (fuel s lock : ℕ) → 17 ≤ rank lock + fuel → stands_in s (w.sleepers.list lock) ≡ true → ⊥
  climb zero s lock high there = too_high (rank lock) (kept.bound s lock (order.named lock s there)) high where
    too_high : (n : ℕ) → n < 17 → 17 ≤ n + 0 → ⊥
    too_high n low high = omega (arith, low, high)
  climb (suc fuel) s lock high there = let o = safe.owed lock (no-list s (w.sleepers.list lock) there) in by (λ j l high there. climb fuel j l high there) (o.0) (o.1) where
    has : ((j l : ℕ) → 17 ≤ rank l + fuel → stands_in j (w.sleepers.list l) ≡ true → ⊥) → (j : ℕ) → HasLock w j lock → ⊥
    has up j it =
        let a = all j (owes_one lock (has_it it)) in
        let mine = in_its_list j (a.0) (a.1) in
        elim (kept.rising j (a.0) lock ((a.1).stands) it) [
          | inl less ↦ up j (a.0) (higher (rank lock) (rank (a.0)) fuel less high) mine
          | inr same ↦ not-none (w.owes_release_ok j) (a.0) ((a.1).not_won (subst (HasLock w j) same it)) (safe.in_list (a.0) j mine)
        ] where
          higher : (m n f : ℕ) → m < n → 17 ≤ m + suc f → 17 ≤ n + f
          higher m n f less high = omega (arith, less, high)

    by : ((j l : ℕ) → 17 ≤ rank l + fuel → stands_in j (w.sleepers.list l) ≡ true → ⊥) → (j : ℕ) → Owes w lock j → ⊥
    by up j (has_it it) = has up j it
    by up j (must_look d) = let a = all j (owes_one lock (must_look d)) in not-none (w.due j) lock ((a.1).no_look) d
    by up j (has_its_list h) = let a = all j (owes_one lock (has_its_list h)) in not-none (w.has_list j) lock ((a.1).no_list) h
    by up j (must_try t) = let a = all j (owes_one lock (must_try t)) in not-none (w.tries j) lock ((a.1).no_try) t
    by up j (must_set_ok ok) =
        let a = all j (owes_one lock (must_set_ok ok)) in
        let mine = in_its_list j (a.0) (a.1) in
        let its : a.0 ≡ lock = one-lock (w.owes_release_ok j) (a.0) lock (safe.in_list (a.0) j mine) ok.owes in
        both_ways (stands_in j (w.sleepers.list lock)) ok.off_list (ap (λ x. stands_in j (w.sleepers.list x)) (sym its) ∙ mine)

  pub none-sleeps : (s lock : ℕ) → IsAsleep w s lock → ⊥
  none-sleeps s lock asleep = climb 17 s lock (enough (rank lock)) (in_its_list s lock asleep) where
    enough : (n : ℕ) → 17 ≤ n + 17
    enough n = omega arith
