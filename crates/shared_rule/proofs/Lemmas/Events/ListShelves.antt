use Rattle.std.proofs.Common.{◌≡◌, ◌≢◌, ℕ, ◌/◌, ◌%◌, ◌^◌, ◌<◌, List, length}
use Rattle.std.proofs.Common.{Option, Some, None, refl, sym, ap, ◌∙◌, subst, inl, inr, arith, bit_or}
use Rattle.std.specs.Prelude.{slice_set}
use Rattle.std.specs.Global.{Box}
use Rattle.std.specs.Int.Bits.{or_zero_r}
use Rattle.std.proofs.lemmas.Bool.{cases_eq}
use Rattle.std.proofs.lemmas.Nat.{or_mod, or_shr}
use mathlib.Core.Option.{some, none}
use mathlib.Core.Option as maybe
use lib.ListN.{get_elem?}
use Rattle.atomic_table.proofs.Lists.{set_here, set_else}
use Rattle.lw_word.specs.declared.wait_lists.LwWaiter.{LwWaiter}
use Rattle.lw_word.specs.WaitList.{Waiting}
use Rattle.lw_word.proofs.Lemmas.Flags.{list_locked_word-locked}
use Rattle.lock_table.specs.declared.request.Request.{Request}
use Rattle.lock_table.specs.Content.{Content}
use Rattle.lock_table.specs.Put.{set_at}
use Rattle.lock_table.proofs.Lemmas.Put.{set_at-here, set_at-else}
use Rattle.lock_world.specs.World.{World, Words, Contents, word_in}
use Rattle.lock_world.specs.WaitLists.{lock_word}
use Rattle.lock_world.specs.SafeWorld.{SafeWorld}
use Rattle.lock_world.specs.Account.{ListInHand, list_in_hand}
use Rattle.lock_world.proofs.Lemmas.ListWords.{lock_word-partition, lock_word-fast}
use Rattle.lw_word.specs.LightweightWord.{IsHeldByNobody, IsListLocked}
use Rattle.shared_rule.specs.declared.rule.TableSizes.{TableSizes}
use Rattle.shared_rule.specs.declared.kept.Kept.{Kept}
use Rattle.shared_rule.specs.declared.kept.Kept.TheVariants as kept
use Rattle.shared_rule.specs.declared.lw_locks.LwLock.{LwLock}
use Rattle.shared_rule.specs.declared.lw_locks.LwLock.TheVariants.{OfPart, OfSlots}
use Rattle.shared_rule.specs.Layout.{index_of_word, content_shelf_of, list_shelf_of, lock_count, shelves_of, IsInTable}
use Rattle.shared_rule.specs.LwLocks.{word_of_lock, lock_number, LockExists}
use Rattle.shared_rule.specs.Ruled.{IsHomeUnlessInHand, ContentsAreHome, IsInNoHand, ListIsAtHome, ListsAreHome}

-- Steps on wait lists: locking one and unlocking it, joining and leaving, taking off and telling, and the
-- flags.

-- Where the list is locked already, setting its bit changes nothing.
pub or-locked : (n : ℕ) → n / 2 ^ 28 % 2 ≢ 0 → bit_or n (2 ^ 28) ≡ n
or-locked n set =
    let high : bit_or n (2 ^ 28) / 2 ^ 29 ≡ n / 2 ^ 29 = or_shr n (2 ^ 28) 29 ∙ or_zero_r (n / 2 ^ 29) in
    let low : bit_or n (2 ^ 28) % 2 ^ 28 ≡ n % 2 ^ 28 = or_mod n (2 ^ 28) 28 ∙ or_zero_r (n % 2 ^ 28) in
    let bit : bit_or n (2 ^ 28) / 2 ^ 28 % 2 ≡ 1 = list_locked_word-locked n in
    omega (arith, high, low, bit, set)

-- The shelves of lists: one each, and apart from contents.
pub lock-below : (sessions : ℕ) (lock : LwLock) → LockExists sessions lock → lock_number lock < lock_count sessions
lock-below sessions (OfPart p) there = omega (arith, there)
lock-below sessions (OfSlots o) there = omega (arith, there)

pub lock-word_there : (sizes : TableSizes) (lock : LwLock) → LockExists sizes.sessions lock → IsInTable sizes (word_of_lock lock)
lock-word_there sizes (OfPart p) there = (there, tt)
lock-word_there sizes (OfSlots o) there = (tt, there)

lists-apart : (l m : ℕ) → l ≢ m → list_shelf_of l ≢ list_shelf_of m
lists-apart l m other same = other (omega (arith, same))

content-apart : (p lock : ℕ) → p < 16 → content_shelf_of p ≢ list_shelf_of lock
content-apart p lock exists same = omega (arith, same, exists)

-- Two locks with one word are one.
pub same-lock : (sessions its : ℕ) (l m : LwLock) → LockExists sessions l → LockExists its m → index_of_word sessions (word_of_lock l) ≡ index_of_word its (word_of_lock m) → l ≡ m
same-lock sessions its (OfPart p) (OfPart q) there also same = let one : p ≡ q = omega (arith, same) in ap OfPart one
same-lock sessions its (OfPart p) (OfSlots o) there also same = absurd (omega (arith, same, there))
same-lock sessions its (OfSlots o) (OfPart p) there also same = absurd (omega (arith, same, also))
same-lock sessions its (OfSlots o) (OfSlots k) there also same = let one : o ≡ k = omega (arith, same) in ap OfSlots one

-- What the word of a lock shows is what its list's word is.
word-by_number : (words : Words) (lock : LwLock) → lock_word words.partition words.fast (lock_number lock) ≡ word_in words (word_of_lock lock)
word-by_number words (OfPart p) = lock_word-partition words.partition words.fast p
word-by_number words (OfSlots o) = lock_word-fast words.partition words.fast o

-- A word that shows its list locked, or its lock held, shows so by the lock's number.
pub shown-locked : (w : World) (lock : LwLock) (n : ℕ) → word_in w.words (word_of_lock lock) ≡ n → n / 2 ^ 28 % 2 ≢ 0 → IsListLocked (lock_word w.words.partition w.words.fast (lock_number lock))
shown-locked w lock n shown locked =
    subst IsListLocked (sym (word-by_number w.words lock ∙ shown)) (let one : n / 2 ^ 28 % 2 ≡ 1 = omega (arith, locked) in one)

pub shown-held : (w : World) (lock : LwLock) (n : ℕ) → word_in w.words (word_of_lock lock) ≡ n → (IsHeldByNobody n → ⊥) → IsHeldByNobody (lock_word w.words.partition w.words.fast (lock_number lock)) → ⊥
shown-held w lock n shown held free = held (subst IsHeldByNobody (word-by_number w.words lock ∙ shown) free)

-- A list whose bit is not set is in no hand.
pub unlocked-in_no_hand : (w : World) → SafeWorld w → (lock : LwLock) → word_in w.words (word_of_lock lock) / 2 ^ 28 % 2 ≡ 0 → IsInNoHand (lock_number lock) w.sessions.has_list
unlocked-in_no_hand w safe lock unlocked session had =
    let shown = (safe.lists.shown (lock_number lock)).had_is_shown session had in
    let is = word-by_number w.words lock in
    let one : word_in w.words (word_of_lock lock) / 2 ^ 28 % 2 ≡ 1 = ap (λ n. n / 2 ^ 28 % 2) (sym is) ∙ shown in
    omega (arith, one, unlocked)

-- The list in hand by the account is the one in hand.
pub known-list : (has : Option ℕ) (list : ℕ → List LwWaiter) (mine : ListInHand) → list_in_hand has list ≡ Some mine → (has ≡ Some mine.lock) × (list mine.lock ≡ mine.waiters)
known-list None list mine known = absurd (cc (known))
known-list (Some lock) list mine known =
    let same : record { lock = lock; waiters = list lock } ≡ mine = cc (known) in
    (ap (λ (l : ListInHand). Some l.lock) same, ap (λ (l : ListInHand). list l.lock) (sym same) ∙ ap (λ (l : ListInHand). l.waiters) same)

pub no_list-known : (has : Option ℕ) (list : ℕ → List LwWaiter) → list_in_hand has list ≡ None → has ≡ None
no_list-known None list nothing = refl
no_list-known (Some lock) list nothing = absurd (cc (nothing))

-- A shelf keeps one list.
pub list-same : {T : Type 0} (one other : Box Waiting) → ◌≡◌ {A = Kept T} (kept.List one) (kept.List other) → one ≡ other
list-same one other same = cc (same)

module _ {T : Type 0} where
  -- Contents stay at home where a list comes or goes.
  pub contents-beside :
      (content : T → Content) (begun : T → Option Request) (homes : List (maybe.Option (Kept T))) (lock : ℕ) (there : maybe.Option (Kept T)) (contents : Contents)
      → ContentsAreHome content begun homes contents → ContentsAreHome content begun (slice_set homes (list_shelf_of lock) there) contents
  contents-beside content begun homes lock there contents home p exists =
      subst (IsHomeUnlessInHand content begun (contents.hand p) (contents.now p)) (sym (set_else homes (list_shelf_of lock) (content_shelf_of p) there (content-apart p lock exists))) (home p exists)

  -- Lists stay at home where one is taken in hand,
  pub list-taken :
      (sessions : ℕ) (homes : List (maybe.Option (Kept T))) (has_list : ℕ → Option ℕ) (list : ℕ → List LwWaiter) (lock s : ℕ) → has_list s ≡ None → ListsAreHome sessions homes has_list list
      → ListsAreHome sessions (slice_set homes (list_shelf_of lock) none) (set_at has_list s (Some lock)) list
  list-taken sessions homes has_list list lock s free home l within nobody = elim (cases_eq l lock) [
    | inl same ↦ absurd (nobody s (set_at-here has_list s (Some lock) s refl ∙ ap Some (sym same)))
    | inr other ↦ subst (ListIsAtHome sessions (list l)) (sym (set_else homes (list_shelf_of lock) (list_shelf_of l) none (lists-apart l lock other)))
        (home l within (λ k had. elim (cases_eq k s) [
          | inl its ↦ let never : ◌≡◌ {A = Option ℕ} None (Some l) = sym free ∙ ap has_list (sym its) ∙ had in cc (never)
          | inr away ↦ nobody k (set_at-else has_list s (Some lock) k away ∙ had)
        ]))
  ]

  -- and where it is put home.
  pub list-put :
      (sessions : ℕ) (homes : List (maybe.Option (Kept T))) (has_list : ℕ → Option ℕ) (list : ℕ → List LwWaiter) (lock s : ℕ) (put : Box Waiting) → length homes ≡ shelves_of sessions → lock < lock_count sessions
      → has_list s ≡ Some lock → put.value.waiters ≡ list lock → put.value.room ≡ sessions → ListsAreHome sessions homes has_list list
      → ListsAreHome sessions (slice_set homes (list_shelf_of lock) (some (kept.List put))) (set_at has_list s None) list
  list-put sessions homes has_list list lock s put many below had is room home l within nobody = elim (cases_eq l lock) [
    | inl same ↦ record {
      list = put;
      at_home = ap (λ j. get_elem? (slice_set homes (list_shelf_of lock) (some (kept.List put))) (list_shelf_of j)) same
          ∙ set_here homes (list_shelf_of lock) (some (kept.List put)) (omega (arith, many, below));
      is_list = is ∙ ap list (sym same);
      has_room = room;
    }
    | inr other ↦ subst (ListIsAtHome sessions (list l)) (sym (set_else homes (list_shelf_of lock) (list_shelf_of l) (some (kept.List put)) (lists-apart l lock other)))
        (home l within (λ k has. elim (cases_eq k s) [
          | inl its ↦ let both : Some lock ≡ Some l = sym had ∙ ap has_list (sym its) ∙ has in let same : lock ≡ l = cc (both) in other (sym same)
          | inr away ↦ nobody k (set_at-else has_list s None k away ∙ has)
        ]))
  ]
