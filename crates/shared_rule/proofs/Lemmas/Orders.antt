use Rattle.std.proofs.Common.{◌≡◌, ◌⊎◌, ℕ, ◌+◌, ◌*◌, ◌/◌, ◌%◌, ◌<◌, arith, Bool, true, false, List, [], ◌∷◌, Option, Some, None, refl, sym, ap, ◌∙◌, inl, inr}
use Rattle.std.specs.Prelude.{◌==◌, is_some}
use Rattle.std.proofs.lemmas.Bool.{cases_Bool, cases_lt, both_ways, cond-true, cond-false, eq-eqb, ne_eqb}
use Rattle.lock_table.specs.declared.moves.Move.{Move}
use Rattle.lock_table.specs.Content.{Content}
use Rattle.lock_table.specs.OwnWait.{OwnWait}
use Rattle.lock_world.specs.World.{World}
use Rattle.lock_world.specs.SafeWorld.{SafeWorld}
use Rattle.lock_world.specs.Account.{Account, InHand, SlotsInHand, ListAccount, account}
use Rattle.lock_world.specs.Wakes.Waking.{NoneOr, OrderIsKept, rank}
use Rattle.lock_world.specs.Wakes.Owing.{Duties, waking, HasIn, IsEarlier, IsLatest}
use Rattle.lock_world.proofs.Lemmas.Wakes.Readings.{none-some, some-same}
use Rattle.lock_world.proofs.Lemmas.Wakes.Order.{Kept}
use Rattle.shared_rule.specs.declared.history.Mark.{Mark}
use Rattle.shared_rule.specs.declared.history.Mark.TheVariants as mark
use Rattle.shared_rule.specs.declared.history.WordMark.{WordMark}
use Rattle.shared_rule.specs.declared.history.WordMark.TheVariants as word
use Rattle.shared_rule.specs.declared.lw_locks.LwLock.{LwLock}
use Rattle.shared_rule.specs.declared.lw_locks.LwLock.TheVariants.{OfPart, OfSlots}
use Rattle.shared_rule.specs.LwLocks.{lock_number, LockExists}
use Rattle.shared_rule.specs.History.{noted, noted_words, told, account_granting_by, account_cleared, account_left, in_hand}
use Rattle.shared_rule.specs.Todos.{Todo, HasNoLock, IsLatestBy}
use Rattle.shared_rule.proofs.Lemmas.Owings.{own-hand, known}

-- The order of lightweight locks, from what a session's account has.

-- The session may attempt this lock: it is to attempt no other, and stands in no other's list.
abbrev pub MayAttempt : Account → Todo → ℕ → Type 0
MayAttempt a todo lock = NoneOr todo.tries lock × NoneOr a.lists.stands lock

pub order-of : (w : World) (x : Duties) → OrderIsKept (waking w x) → Kept w
order-of w x order = record { rising = order.rising; bound = order.bound }

-- Who stands in no other list takes an earlier lock, or the one that it stands for.
pub earlier-by : (w : World) (number : ℕ) (a : Account) → a ≡ account w number → (lock : ℕ) → NoneOr a.lists.stands lock → IsEarlier w number lock
earlier-by w number a shows lock none awaited stands = elim none [
  | inl nowhere ↦ absurd (none-some awaited (sym nowhere ∙ there))
  | inr its ↦ inr (some-same lock awaited (sym its ∙ there))
] where
  there : a.lists.stands ≡ Some awaited
  there = ap (λ (b : Account). b.lists.stands) shows ∙ stands

-- No partition is ever shared.
granting-shares : (made : Option Move) (a : Account) (part : ℕ) (mine : InHand) (other : ℕ) (done : Move) (woken : List ℕ) (now : Content)
    → (account_granting_by made a part mine other done woken now).shares ≡ a.shares
granting-shares None a part mine other done woken now = refl
granting-shares (Some made) a part mine other done woken now = refl

cleared-shares : (number : ℕ) (a : Account) (wait : Option OwnWait) → (account_cleared number a wait).shares ≡ a.shares
cleared-shares number a None = refl
cleared-shares number a (Some wait) = refl

left-shares : (a : Account) (wait : Option OwnWait) (now : Content) (woken : List ℕ) → (account_left a wait now woken).shares ≡ a.shares
left-shares a None now woken = refl
left-shares a (Some wait) now woken = refl

words-shares : (number : ℕ) (a : Account) (step : WordMark) → (noted_words number a step).shares ≡ a.shares
words-shares number a (word.TookFast owner database words) = refl
words-shares number a (word.PutFast owner found) = refl
words-shares number a (word.SharedFast owner database words) = refl
words-shares number a (word.UnsharedFast owner found) = refl
words-shares number a (word.Passed owner tag mode found) = refl
words-shares number a (word.Counted tag mode) = refl
words-shares number a (word.Uncounted tag mode) = refl
words-shares number a (word.LoadedWait shown) = refl
words-shares number a (word.Asked other before) = refl
words-shares number a word.ClearedWait = cleared-shares number a a.awaited
words-shares number a (word.LoadedDatabase owner shown) = refl
words-shares number a (word.LoadedSlot owner slot shown) = refl
words-shares number a (word.LoadedFast shown) = refl
words-shares number a (word.LoadedStrong index shown) = refl
words-shares number a (word.SetSlot slot tag mode) = refl
words-shares number a (word.ClearedSlot slot tag mode) = refl
words-shares number a (word.TransferredSlot owner slot tag mode) = refl
words-shares number a (word.StoredDatabase database) = refl
words-shares number a (word.LockedList lock waiters) = refl
words-shares number a word.UnlockedList = refl
words-shares number a (word.JoinedList mode) = refl
words-shares number a word.LeftList = refl
words-shares number a (word.TookOff other) = refl
words-shares number a (word.Told other) = refl
words-shares number a (word.LoadedSleep shown) = refl
words-shares number a (word.SetReleaseOk lock) = refl
words-shares number a (word.SetHasWaiters lock) = refl
words-shares number a (word.SawListLocked lock) = refl
words-shares number a (word.SawHeld lock shown) = refl
words-shares number a (word.CalledWaiter other) = refl
words-shares number a (word.CalledSleeper other) = refl
words-shares number a (word.ParksWaiting shown) = refl
words-shares number a (word.ParksAsleep shown) = refl

module _ {T : Type 0} (content : T → Content) where
  step-shares : (number : ℕ) (a : Account) (m : Mark T) → (noted content number a m).shares ≡ a.shares
  step-shares number a (mark.TookPart part taken) = refl
  step-shares number a (mark.PutPart part done put found) = refl
  step-shares number a (mark.SetWaiting tag mode now) = refl
  step-shares number a (mark.MarkedGranted part other done woken now) = granting-shares (in_hand (a.hand part)).recorded a part (in_hand (a.hand part)) other done woken (content now)
  step-shares number a (mark.LeftQueue woken now) = left-shares a a.awaited (content now) woken
  step-shares number a (mark.OfWords step) = words-shares number a step

  pub none-shared : (number : ℕ) (marks : List (Mark T)) (part : ℕ) → (told content number marks).shares part ≡ false
  none-shared number [] part = refl
  none-shared number (m ∷ marks) part = ap (λ (f : ℕ → Bool). f part) (step-shares number (told content number marks) m) ∙ none-shared number marks part

-- The place of a lock in the order.
pub rank-partition : (lock : ℕ) → (lock % 2 == 0) ≡ true → rank lock ≡ 1 + lock / 2
rank-partition lock even = cond-true (lock % 2 == 0) (1 + lock / 2) 0 even

pub rank-fast : (lock : ℕ) → (lock % 2 == 0) ≡ false → rank lock ≡ 0
rank-fast lock odd = cond-false (lock % 2 == 0) (1 + lock / 2) 0 odd

rank-of_part : (p : ℕ) → rank (lock_number (OfPart p)) ≡ 1 + p
rank-of_part p = rank-partition (2 * p) (eq-eqb (2 * p % 2) 0 (omega arith)) ∙ (let half : 2 * p / 2 ≡ p = omega arith in ap (λ q. 1 + q) half)

rank-of_slots : (o : ℕ) → rank (lock_number (OfSlots o)) ≡ 0
rank-of_slots o = rank-fast (2 * o + 1) (ne_eqb ((2 * o + 1) % 2) 0 (λ same. omega (arith, same)))

-- By what its account has, a session has earlier locks alone.
module _ (w : World) (number : ℕ) (a : Account) (shows : a ≡ account w number) (safe : SafeWorld w) (unshared : (q : ℕ) → a.shares q ≡ false) where
  no-one : {A : Type 0} (its : Option A) → its ≡ None → is_some its ≡ true → ⊥
  no-one its none some = both_ways (is_some its) (ap is_some none) some

  held-hand : (q : ℕ) → w.sessions.holds_partition number q ≡ true → is_some (a.hand q) ≡ true
  held-hand q has =
      ap (λ (b : Account). is_some (b.hand q)) shows ∙ own-hand (w.contents.hand q) (w.contents.now q) number
      ∙ sym (safe.but_slots.table.carriers.hands q number) ∙ has

  not-shared : (q : ℕ) → w.sessions.shares_partition number q ≡ true → ⊥
  not-shared q has = both_ways (a.shares q) (unshared q) (ap (λ (b : Account). b.shares q) shows ∙ has)

  held-slots : (o : ℕ) → w.sessions.holds_fast number o ≡ true → is_some (a.fast.slots o) ≡ true
  held-slots o has =
      ap (λ (b : Account). is_some (b.fast.slots o)) shows ∙ known (w.sessions.holds_fast number o) (w.words.database o) (w.words.slot o) ∙ has

  held-shared : (o : ℕ) → w.sessions.shares_fast number o ≡ true → is_some (a.fast.shared_slots o) ≡ true
  held-shared o has =
      ap (λ (b : Account). is_some (b.fast.shared_slots o)) shows ∙ known (w.sessions.shares_fast number o) (w.words.database o) (w.words.slot o) ∙ has

  -- The lock is a partition's that the session holds, or of slots that it has.
  abbrev HasPart : ℕ → Type 0
  HasPart q = is_some (a.hand q) ≡ true

  abbrev HasSlots : ℕ → Type 0
  HasSlots o = (is_some (a.fast.slots o) ≡ true) ⊎ (is_some (a.fast.shared_slots o) ≡ true)

  even-has : (held : ℕ) → (held % 2 == 0) ≡ true → HasIn w number held → HasPart (held / 2)
  even-has held even (inl has) =
      held-hand (held / 2) (sym (cond-true (held % 2 == 0) (w.sessions.holds_partition number (held / 2)) (w.sessions.holds_fast number (held / 2)) even) ∙ has)
  even-has held even (inr has) =
      absurd (not-shared (held / 2) (sym (cond-true (held % 2 == 0) (w.sessions.shares_partition number (held / 2)) (w.sessions.shares_fast number (held / 2)) even) ∙ has))

  odd-has : (held : ℕ) → (held % 2 == 0) ≡ false → HasIn w number held → HasSlots (held / 2)
  odd-has held odd (inl has) =
      inl (held-slots (held / 2) (sym (cond-false (held % 2 == 0) (w.sessions.holds_partition number (held / 2)) (w.sessions.holds_fast number (held / 2)) odd) ∙ has))
  odd-has held odd (inr has) =
      inr (held-shared (held / 2) (sym (cond-false (held % 2 == 0) (w.sessions.shares_partition number (held / 2)) (w.sessions.shares_fast number (held / 2)) odd) ∙ has))

  below-hand : (p q : ℕ) → IsLatestBy a (OfPart p) → HasPart q → q < p
  below-hand p q above has = elim (cases_lt q p) [
    | inl low ↦ low
    | inr high ↦ absurd (no-one (a.hand q) (above q high) has)
  ]

  no-slots : (o : ℕ) → HasNoLock a → HasSlots o → ⊥
  no-slots o none (inl has) = no-one (a.fast.slots o) (none.no_slots o) has
  no-slots o none (inr has) = no-one (a.fast.shared_slots o) (none.no_shared_slots o) has

  -- By its account the session has no lightweight lock at all.
  pub no-lock-by : HasNoLock a → (held : ℕ) → HasIn w number held → ⊥
  no-lock-by none held has = elim (cases_Bool (held % 2 == 0)) [
    | inl even ↦ no-one (a.hand (held / 2)) (none.no_partition (held / 2)) (even-has held even has)
    | inr odd ↦ no-slots (held / 2) none (odd-has held odd has)
  ]

  pub earlier-than : (l : LwLock) → IsLatestBy a l → (held : ℕ) → HasIn w number held → rank held < rank (lock_number l)
  earlier-than (OfPart p) latest held has = elim (cases_Bool (held % 2 == 0)) [
    | inl even ↦
        let low : held / 2 < p = below-hand p (held / 2) latest (even-has held even has) in
        let its = rank-partition held even in
        let own = rank-of_part p in
        omega (arith, low, its, own)
    | inr odd ↦
        let its = rank-fast held odd in
        let own = rank-of_part p in
        omega (arith, its, own)
  ]
  earlier-than (OfSlots o) latest held has = absurd (no-lock-by latest held has)

  bound-of : (sessions : ℕ) (l : LwLock) → LockExists sessions l → rank (lock_number l) < 17
  bound-of sessions (OfPart p) there = let own = rank-of_part p in omega (arith, own, there)
  bound-of sessions (OfSlots o) there = let own = rank-of_slots o in omega (arith, own)

  pub latest-by : (sessions : ℕ) (l : LwLock) → LockExists sessions l → IsLatestBy a l → IsLatest w number (lock_number l)
  latest-by sessions l there latest = record { bound = bound-of sessions l there; earlier = earlier-than l latest }

-- Lists make no difference.
pub latest-with : (a : Account) (lists : ListAccount) (l : LwLock) → IsLatestBy a l → IsLatestBy (record a { lists = lists }) l
latest-with a lists (OfPart p) above = above
latest-with a lists (OfSlots o) none = record { no_partition = none.no_partition; no_slots = none.no_slots; no_shared_slots = none.no_shared_slots }

-- A session that has no lightweight lock may wait for that of slots.
pub latest-slots : (a : Account) (owner : ℕ) → ((part : ℕ) → a.hand part ≡ None) → a.fast.slots ≡ (λ _. None) → a.fast.shared_slots ≡ (λ _. None) → IsLatestBy a (OfSlots owner)
latest-slots a owner no_content no_slots no_shared = record {
  no_partition = no_content;
  no_slots = λ o. ap (λ (f : ℕ → Option SlotsInHand). f o) no_slots;
  no_shared_slots = λ o. ap (λ (f : ℕ → Option SlotsInHand). f o) no_shared;
}
