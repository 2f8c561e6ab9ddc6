use Rattle.std.proofs.Common.{zero, suc, ◌≡◌, ◌≢◌, ◌⊎◌, ℕ, ◌/◌, ◌%◌, ◌^◌, Bool, true, false, not, cond, [], Option, Some, None, refl, sym, ap, ◌∙◌, subst, inl, inr, arith}
use Rattle.std.specs.Prelude.{◌==◌, ◌&&◌}
use Rattle.std.proofs.lemmas.Bool.{cases_eq, cases_Bool, and_from, eq-eqb, ne_eqb, cond-true, cond-false}
use Rattle.lw_word.specs.LightweightWord.{IsHeldByNobody, IsReleaseOk, HasWaiters, list_locked_word, list_unlocked_word, release_ok_word, has_waiters_word, FlagsStay}
use Rattle.lw_word.specs.LockState.{state_of, must_wake}
use Rattle.lw_word.specs.WaitList.{stands_in}
use Rattle.lw_word.proofs.Lemmas.Words.{flags-release_ok, flags-has_waiters}
use Rattle.lw_word.proofs.Lemmas.Flags.{release_ok_word-release_ok, release_ok_word-has_waiters, has_waiters_word-has_waiters, has_waiters_word-release_ok, list_locked_word-release_ok, list_locked_word-has_waiters, list_unlocked_word-release_ok, list_unlocked_word-has_waiters}
use Rattle.lock_table.specs.Put.{set_at}
use Rattle.lock_table.specs.Total.{total, how_many}
use Rattle.lock_table.proofs.Lemmas.Put.{set_at-here}
use Rattle.lock_world.specs.World.{World}
use Rattle.lock_world.specs.WaitLists.{Sleepers, lock_word}
use Rattle.lock_world.specs.Safe.{ShowsHolders}
use Rattle.lock_world.specs.SafeWorld.{SafeWorld}
use Rattle.lock_world.specs.Happens.Lists.{sleepers}
use Rattle.lock_world.proofs.Lemmas.ListWords.{even-word, odd-word}
use Rattle.lock_world.specs.Wakes.Waking.{Waking, HasLock, IsHeld, NobodyIsForgotten, TellsNobody, NoneOr}
use Rattle.lock_world.specs.Wakes.Events.{WakeFlagsStay, lock_put}
use Rattle.lock_world.specs.Wakes.Owing.{Duties, lock_row, waking, after_attempt, look_due, after_putting, after_locking, AsksLocking, AsksUnlocking}
use Rattle.lock_world.proofs.Lemmas.Wakes.Rows.{even-bit, odd-bit}
use Rattle.lock_world.proofs.Lemmas.Wakes.Taking.{taking-nobody, putting-nobody, locking-nobody, flagging-nobody, showing_waiters-nobody}
use Rattle.lock_world.proofs.Lemmas.Wakes.Hands.{unlocking-nobody, setting_ok-nobody, setting_ok_in_hand-nobody}

-- Each kind of step on one lightweight lock of a World forgets nobody, whatever the lock guards.

abbrev pub Nobody : World → Duties → Type 0
Nobody w x = NobodyIsForgotten (waking w x)

-- what sessions hold of lightweight locks, and what they share, by the locks' numbers
abbrev pub held_in : World → ℕ → ℕ → Bool
held_in w = lock_row w.sessions.holds_partition w.sessions.holds_fast

abbrev pub shared_in : World → ℕ → ℕ → Bool
shared_in w = lock_row w.sessions.shares_partition w.sessions.shares_fast

-- What a World shows of the waiting for lightweight locks, part by part.
pub record Shows (v : World) (word : ℕ → ℕ) (holds shares : ℕ → ℕ → Bool) (s : Sleepers) (has_list : ℕ → Option ℕ) : Type 0 where
  pub word_is : lock_word v.words.partition v.words.fast ≡ word
  pub holds_is : lock_row v.sessions.holds_partition v.sessions.holds_fast ≡ holds
  pub shares_is : lock_row v.sessions.shares_partition v.sessions.shares_fast ≡ shares
  pub sleepers_is : sleepers v ≡ s
  pub list_is : v.sessions.has_list ≡ has_list

abbrev with_duties : (ℕ → ℕ) → (ℕ → ℕ → Bool) → (ℕ → ℕ → Bool) → Sleepers → (ℕ → Option ℕ) → Duties → Waking
with_duties word holds shares s has_list y = record {
  word = word;
  holds = holds;
  shares = shares;
  sleepers = s;
  has_list = has_list;
  due = y.due;
  tries = y.tries;
  owes_release_ok = y.owes_release_ok;
  flagged = y.flagged;
}

nobody-shown :
    (v : World) (y : Duties) (word : ℕ → ℕ) (holds shares : ℕ → ℕ → Bool) (s : Sleepers) (has_list : ℕ → Option ℕ) → Shows v word holds shares s has_list
    → NobodyIsForgotten (with_duties word holds shares s has_list y) → Nobody v y
nobody-shown v y word holds shares s has_list is nobody =
    subst NobodyIsForgotten
    (λ i. with_duties (sym is.word_is i) (sym is.holds_is i) (sym is.shares_is i) (sym is.sleepers_is i) (sym is.list_is i) y) nobody

-- Somebody passes where some do.
who_passes : (limit : ℕ) (test : ℕ → Bool) → how_many limit test ≢ 0 → (k : ℕ) × (test k ≡ true)
unfolding total
who_passes zero test some = absurd (some refl)
who_passes (suc limit) test some = elim (cases_Bool (test limit)) [
  | inl passes ↦ (limit, passes)
  | inr fails ↦ who_passes limit test (λ none. some (
      let zero_one : ◌≡◌ {A = ℕ} (cond (test limit) 1 0) 0 = cond-false (test limit) 1 0 fails in
      let before : how_many limit test ≡ 0 = none in omega (arith, zero_one, before)))
]

-- A word that is not free has a holder.
held_by : (limit word : ℕ) (holds shares : ℕ → Bool) → ShowsHolders limit word holds shares → (IsHeldByNobody word → ⊥)
    → (k : ℕ) × ((holds k ≡ true) ⊎ (shares k ≡ true))
held_by limit word holds shares shows held = elim (cases_eq (word / 2 ^ 24 % 2) 1) [
  | inl exclusive ↦ let h = shows.shown_is_held exclusive in (h.0, inl (h.1))
  | inr not_exclusive ↦
      let f = who_passes limit shares (λ none. held (let counted : word % 2 ^ 24 ≡ 0 = shows.shared ∙ none in free word counted not_exclusive)) in
      (f.0, inr (f.1))
] where
  free : (n : ℕ) → n % 2 ^ 24 ≡ 0 → n / 2 ^ 24 % 2 ≢ 1 → n % 2 ^ 25 ≡ 0
  free n counted not_exclusive = omega (arith, counted, not_exclusive)

-- So has a lock, by its number.
pub held_of : (w : World) (x : Duties) (lock : ℕ) → SafeWorld w → (IsHeldByNobody (lock_word w.words.partition w.words.fast lock) → ⊥) → IsHeld (waking w x) lock
held_of w x lock safe held = elim (cases_eq (lock % 2) 0) [
  | inl even ↦
      let f = held_by w.numbers.limit (w.words.partition (lock / 2)) (λ k. w.sessions.holds_partition k (lock / 2)) (λ k. w.sessions.shares_partition k (lock / 2))
      (safe.but_slots.table.promise.words (lock / 2)) (λ free. held (ap (λ n. n % 2 ^ 25) (even-word w.words.partition w.words.fast lock even) ∙ free)) in (
        f.0,
        elim (f.1) [
          | inl holds ↦ inl (even-bit (w.sessions.holds_partition (f.0)) (w.sessions.holds_fast (f.0)) lock even ∙ holds)
          | inr shares ↦ inr (even-bit (w.sessions.shares_partition (f.0)) (w.sessions.shares_fast (f.0)) lock even ∙ shares)
        ],
      )
  | inr odd ↦
      let f = held_by w.numbers.limit (w.words.fast (lock / 2)) (λ k. w.sessions.holds_fast k (lock / 2)) (λ k. w.sessions.shares_fast k (lock / 2))
      (safe.but_slots.locks.fast_words (lock / 2)) (λ free. held (ap (λ n. n % 2 ^ 25) (odd-word w.words.partition w.words.fast lock odd) ∙ free)) in (
        f.0,
        elim (f.1) [
          | inl holds ↦ inl (odd-bit (w.sessions.holds_partition (f.0)) (w.sessions.holds_fast (f.0)) lock odd ∙ holds)
          | inr shares ↦ inr (odd-bit (w.sessions.shares_partition (f.0)) (w.sessions.shares_fast (f.0)) lock odd ∙ shares)
        ],
      )
]

-- A look is due where it must be.
looks : (lock n : ℕ) → IsHeldByNobody n → HasWaiters n → IsReleaseOk n → look_due lock n ≡ Some lock
looks lock n free waiters ok = cond-true (must_wake (state_of n)) (Some lock) None
    (and_from ((not (n / 2 ^ 24 % 2 == 1) && (n % 2 ^ 24 == 0)) && (n / 2 ^ 30 % 2 == 1)) (n / 2 ^ 29 % 2 == 1)
    (and_from (not (n / 2 ^ 24 % 2 == 1) && (n % 2 ^ 24 == 0)) (n / 2 ^ 30 % 2 == 1)
    (and_from (not (n / 2 ^ 24 % 2 == 1)) (n % 2 ^ 24 == 0) (ap not (ne_eqb (n / 2 ^ 24 % 2) 1 (λ one. exclusive n free one))) (eq-eqb (n % 2 ^ 24) 0 (shared n free)))
    (eq-eqb (n / 2 ^ 30 % 2) 1 waiters))
    (eq-eqb (n / 2 ^ 29 % 2) 1 ok)) where
      exclusive : (n : ℕ) → n % 2 ^ 25 ≡ 0 → n / 2 ^ 24 % 2 ≡ 1 → ⊥
      exclusive n free one = omega (arith, free, one)

      shared : (n : ℕ) → n % 2 ^ 25 ≡ 0 → n % 2 ^ 24 ≡ 0
      shared n free = omega (arith, free)

-- A lock of the World, whose word is this, and the World after a step on it.
module _ (w : World) (x : Duties) (s lock n : ℕ) (nobody : Nobody w x) (is : lock_word w.words.partition w.words.fast lock ≡ n) (v : World) where
  abbrev word_set : ℕ → ℕ → ℕ
  word_set m = set_at (lock_word w.words.partition w.words.fast) lock m

  flags : (m : ℕ) → FlagsStay n m → WakeFlagsStay (lock_word w.words.partition w.words.fast lock) m
  flags m stay = subst (λ old. WakeFlagsStay old m) (sym is) (record {
    release_ok = ap (λ b. b % 2) (flags-release_ok n m stay);
    has_waiters = ap (λ b. b % 2) (flags-has_waiters n m stay);
  })

  -- Taking or sharing it.
  pub took :
      (m : ℕ) (holds shares : ℕ → ℕ → Bool) → Shows v (word_set m) holds shares (sleepers w) w.sessions.has_list → FlagsStay n m → NoneOr (x.tries s) lock
      → ((k l : ℕ) → HasLock (waking w x) k l → (holds k l ≡ true) ⊎ (shares k l ≡ true)) → (holds s lock ≡ true) ⊎ (shares s lock ≡ true)
      → Nobody v (after_attempt x s)
  took m holds shares shows stay tried more has =
      nobody-shown v (after_attempt x s) (word_set m) holds shares (sleepers w) w.sessions.has_list shows
      (taking-nobody (waking w x) s lock m holds shares nobody (flags m stay) tried more has)

  -- Putting it, or giving it back: in the World after it, its word shows who has it.
  pub gave :
      (m : ℕ) (holds shares : ℕ → ℕ → Bool) → Shows v (word_set m) holds shares (sleepers w) w.sessions.has_list → FlagsStay n m → x.due s ≡ None → SafeWorld v
      → ((k l : ℕ) → l ≢ lock → HasLock (waking w x) k l → (holds k l ≡ true) ⊎ (shares k l ≡ true))
      → Nobody v (after_putting x s lock m)
  gave m holds shares shows stay none after others =
      nobody-shown v (after_putting x s lock m) (word_set m) holds shares (sleepers w) w.sessions.has_list shows
      (putting-nobody (waking w x) s lock m (look_due lock m) holds shares nobody (flags m stay) none (looks lock m) others has) where
        has : (IsHeldByNobody m → ⊥) → IsHeld (lock_put (waking w x) s lock m (look_due lock m) holds shares) lock
        has not_free =
            let word_is : lock_word v.words.partition v.words.fast lock ≡ m = ap (λ f. f lock) shows.word_is ∙ set_at-here (lock_word w.words.partition w.words.fast) lock m lock refl in
            let f = held_of v x lock after (λ free. not_free (ap (λ b. b % 2 ^ 25) (sym word_is) ∙ free)) in (
              f.0,
              elim (f.1) [
                | inl h ↦ inl (ap (λ row. row (f.0) lock) (sym shows.holds_is) ∙ h)
                | inr h ↦ inr (ap (λ row. row (f.0) lock) (sym shows.shares_is) ∙ h)
              ],
            )

  -- Locking its list.
  pub locked :
      Shows v (word_set (list_locked_word n)) (held_in w) (shared_in w) (sleepers w) (set_at w.sessions.has_list s (Some lock)) → AsksLocking w x s lock → w.sessions.has_list s ≡ None
      → Nobody v (after_locking x s)
  locked shows asks no_list =
      nobody-shown v (after_locking x s) (word_set (list_locked_word n)) (held_in w) (shared_in w) (sleepers w) (set_at w.sessions.has_list s (Some lock)) shows
      (locking-nobody (waking w x) s lock (list_locked_word n) nobody
      (subst (λ old. WakeFlagsStay old (list_locked_word n)) (sym is) (record { release_ok = list_locked_word-release_ok n; has_waiters = list_locked_word-has_waiters n }))
      asks.no_other no_list asks.tells_nobody)

  -- Unlocking it.
  pub unlocked :
      (waiters release : Bool) → SafeWorld w → Shows v (word_set (list_unlocked_word n waiters release)) (held_in w) (shared_in w) (sleepers w) (set_at w.sessions.has_list s None)
      → w.sessions.has_list s ≡ Some lock → AsksUnlocking w x s lock waiters release → Nobody v x
  unlocked waiters release safe shows in_hand asks =
      nobody-shown v x (word_set m) (held_in w) (shared_in w) (sleepers w) (set_at w.sessions.has_list s None) shows
      (unlocking-nobody (waking w x) s lock m nobody in_hand (λ k its. (safe.lists.shown lock).by_one k s its in_hand)
      (flag waiters asks.waiters_stay) (ok release asks.release_stays) asks.left_well) where
        m : ℕ
        m = list_unlocked_word n waiters release

        flag : (b : Bool) → (b ≡ true) ⊎ (w.words.list lock ≡ []) → w.words.list lock ≢ [] → HasWaiters (lock_word w.words.partition w.words.fast lock)
            → HasWaiters (list_unlocked_word n b release)
        flag b (inl set) some was = subst (λ c. HasWaiters (list_unlocked_word n c release)) (sym set) (list_unlocked_word-has_waiters n release ∙ ap (λ f. f / 2 ^ 30 % 2) (sym is) ∙ was)
        flag b (inr none) some was = absurd (some none)

        ok : (b : Bool) → (b ≡ true) ⊎ ((other : ℕ) × (w.sessions.off s other ≡ true))
            → (IsReleaseOk (lock_word w.words.partition w.words.fast lock) → IsReleaseOk (list_unlocked_word n waiters b)) ⊎ ((other : ℕ) × (w.sessions.off s other ≡ true))
        ok b (inl set) = inl (λ was. subst (λ c. IsReleaseOk (list_unlocked_word n waiters c)) (sym set) (list_unlocked_word-release_ok n waiters ∙ ap (λ f. f / 2 ^ 29 % 2) (sym is) ∙ was))
        ok b (inr off) = inr off

  -- Setting has-waiters, and release-ok: by a session that was told, by one that has won and has the list in
  -- hand, and by any other.
  pub showed_waiters :
      Shows v (word_set (has_waiters_word n)) (held_in w) (shared_in w) (sleepers w) w.sessions.has_list → w.sessions.has_list s ≡ Some lock
      → Nobody v (record x { flagged = set_at x.flagged s true })
  showed_waiters shows in_hand =
      nobody-shown v (record x { flagged = set_at x.flagged s true }) (word_set (has_waiters_word n)) (held_in w) (shared_in w) (sleepers w) w.sessions.has_list shows
      (showing_waiters-nobody (waking w x) s lock (has_waiters_word n) nobody in_hand (has_waiters_word-has_waiters n)
      (λ was. has_waiters_word-release_ok n ∙ ap (λ m. m / 2 ^ 29 % 2) (sym is) ∙ was))

  module _ (shows : Shows v (word_set (release_ok_word n)) (held_in w) (shared_in w) (sleepers w) w.sessions.has_list) where
    waiters : HasWaiters (lock_word w.words.partition w.words.fast lock) → HasWaiters (release_ok_word n)
    waiters was = release_ok_word-has_waiters n ∙ ap (λ m. m / 2 ^ 30 % 2) (sym is) ∙ was

    pub set_ok_told :
        SafeWorld w → x.owes_release_ok s ≡ Some lock → w.sessions.stands s ≡ None → NoneOr (x.tries s) lock
        → Nobody v (record x { owes_release_ok = set_at x.owes_release_ok s None; tries = set_at x.tries s (Some lock) })
    set_ok_told safe owes no_stand tried =
        nobody-shown v (record x { owes_release_ok = set_at x.owes_release_ok s None; tries = set_at x.tries s (Some lock) })
        (word_set (release_ok_word n)) (held_in w) (shared_in w) (sleepers w) w.sessions.has_list shows
        (setting_ok-nobody (waking w x) s lock (release_ok_word n) nobody owes (release_ok_word-release_ok n) waiters safe.lists.sleepers no_stand tried)

    pub set_ok_won :
        SafeWorld w → x.owes_release_ok s ≡ Some lock → w.sessions.has_list s ≡ Some lock → TellsNobody w.sessions.off s → stands_in s (w.words.list lock) ≡ false
        → Nobody v (record x { owes_release_ok = set_at x.owes_release_ok s None })
    set_ok_won safe owes in_hand none gone =
        nobody-shown v (record x { owes_release_ok = set_at x.owes_release_ok s None }) (word_set (release_ok_word n)) (held_in w) (shared_in w) (sleepers w) w.sessions.has_list shows
        (setting_ok_in_hand-nobody (waking w x) s lock (release_ok_word n) nobody owes (release_ok_word-release_ok n) waiters
        in_hand (λ k its. (safe.lists.shown lock).by_one k s its in_hand) none gone)

    pub set_ok_anyway : Nobody v x
    set_ok_anyway =
        nobody-shown v x (word_set (release_ok_word n)) (held_in w) (shared_in w) (sleepers w) w.sessions.has_list shows
        (flagging-nobody (waking w x) lock (release_ok_word n) nobody waiters (λ was. release_ok_word-release_ok n))
