use Rattle.std.proofs.Common.{◌≡◌, ◌≢◌, ℕ, ◌/◌, ◌%◌, ◌^◌, Bool, true, false, Option, Some, None, refl, sym, ap, ◌∙◌, inl, inr}
use Rattle.std.proofs.lemmas.Bool.{cases_eq}
use Rattle.lw_word.specs.WaitList.{stands_in}
use Rattle.lock_table.specs.Put.{set_at}
use Rattle.lock_table.proofs.Lemmas.Put.{set_at-here, set_at-else, row-else, column-here, column-else}
use Rattle.lock_world.specs.Wakes.Waking.{Waking, HasLock, HasOkToSet, Owes, has_it, must_look, has_its_list, must_try, must_set_ok, IsOwed, NoneOr}

-- What is read of options, of rows, of a bit of words, and of who owes.

pub none-some : (l : ℕ) → ◌≡◌ {A = Option ℕ} None (Some l) → ⊥
none-some l e = cc

pub some-same : (a b : ℕ) → ◌≡◌ {A = Option ℕ} (Some a) (Some b) → a ≡ b
some-same a b e = cc

-- Two readings of one value.
pub one-lock : (its : Option ℕ) (a b : ℕ) → its ≡ Some a → its ≡ Some b → a ≡ b
one-lock its a b is was = some-same a b (sym is ∙ was)

pub not-none : (its : Option ℕ) (a : ℕ) → its ≡ None → its ≡ Some a → ⊥
not-none its a none is = none-some a (sym none ∙ is)

pub none_or-same : (its : Option ℕ) (lock l : ℕ) → NoneOr its lock → its ≡ Some l → l ≡ lock
none_or-same its lock l either is = elim either [
  | inl none ↦ absurd (not-none its l none is)
  | inr this ↦ one-lock its l lock is this
]

-- A bit of a word stays where one word changes and not that bit.
pub bit-kept :
    (b : ℕ) (word : ℕ → ℕ) (lock n : ℕ) → (word lock / 2 ^ b % 2 ≡ 1 → n / 2 ^ b % 2 ≡ 1)
    → (l : ℕ) → word l / 2 ^ b % 2 ≡ 1 → set_at word lock n l / 2 ^ b % 2 ≡ 1
bit-kept b word lock n stays l was = elim (cases_eq l lock) [
  | inl same ↦ ap (λ x. x / 2 ^ b % 2) (set_at-here word lock n l same) ∙ stays (ap (λ j. word j / 2 ^ b % 2) (sym same) ∙ was)
  | inr away ↦ ap (λ x. x / 2 ^ b % 2) (set_at-else word lock n l away) ∙ was
]

-- One place of a row is set: there, at other places, and where it was true before.
pub row-here : (f : ℕ → ℕ → Bool) (s lock : ℕ) (b : Bool) → set_at f s (set_at (f s) lock b) s lock ≡ b
row-here f s lock b = column-here f s lock b lock refl s ∙ set_at-here (λ k. f k lock) s b s refl

pub row-away : (f : ℕ → ℕ → Bool) (s lock : ℕ) (b : Bool) (k l : ℕ) → l ≢ lock → set_at f s (set_at (f s) lock b) k l ≡ f k l
row-away f s lock b k l away = column-else f s lock b l away k

pub row-more : (f : ℕ → ℕ → Bool) (s lock k l : ℕ) → f k l ≡ true → set_at f s (set_at (f s) lock true) k l ≡ true
row-more f s lock k l had = elim (cases_eq l lock) [
  | inr away ↦ row-away f s lock true k l away ∙ had
  | inl it ↦ elim (cases_eq k s) [
    | inl same ↦ column-here f s lock true l it k ∙ set_at-here (λ j. f j l) s true k same
    | inr other ↦ row-else f s lock true k l other ∙ had
  ]
]

pub row-less : (f : ℕ → ℕ → Bool) (s lock k l : ℕ) → set_at f s (set_at (f s) lock false) k l ≡ true → f k l ≡ true
row-less f s lock k l has = elim (cases_eq k s) [
  | inr other ↦ sym (row-else f s lock false k l other) ∙ has
  | inl same ↦ elim (cases_eq l lock) [
    | inl it ↦ let none : set_at f s (set_at (f s) lock false) k l ≡ false = column-here f s lock false l it k ∙ set_at-here (λ j. f j l) s false k same in absurd (cc (none, has))
    | inr away ↦ sym (row-away f s lock false k l away) ∙ has
  ]
]

-- A value of a function stays where it is set for another, or was none.
pub some-kept : (f : ℕ → Option ℕ) (s : ℕ) (its : Option ℕ) (k l : ℕ) → f s ≡ None → f k ≡ Some l → set_at f s its k ≡ Some l
some-kept f s its k l none is = elim (cases_eq k s) [
  | inl same ↦ absurd (not-none (f s) l none (ap f (sym same) ∙ is))
  | inr other ↦ set_at-else f s its k other ∙ is
]

pub none-kept : (f : ℕ → Option ℕ) (s k : ℕ) → f k ≡ None → set_at f s None k ≡ None
none-kept f s k none = elim (cases_eq k s) [
  | inl same ↦ set_at-here f s None k same
  | inr other ↦ set_at-else f s None k other ∙ none
]

pub not-set : (f : ℕ → Option ℕ) (s k l : ℕ) → set_at f s None k ≡ Some l → f k ≡ Some l
not-set f s k l is = elim (cases_eq k s) [
  | inl same ↦ absurd (none-some l (sym (set_at-here f s None k same) ∙ is))
  | inr other ↦ sym (set_at-else f s None k other) ∙ is
]

-- Who owes, taken apart.
pub owes-by :
    (w v : Waking) (lock k : ℕ) → (HasLock w k lock → IsOwed v lock) → (w.due k ≡ Some lock → IsOwed v lock)
    → (w.has_list k ≡ Some lock → IsOwed v lock) → (w.tries k ≡ Some lock → IsOwed v lock) → (HasOkToSet w lock k → IsOwed v lock)
    → Owes w lock k → IsOwed v lock
owes-by w v lock k has due list tries ok (has_it is) = has is
owes-by w v lock k has due list tries ok (must_look is) = due is
owes-by w v lock k has due list tries ok (has_its_list is) = list is
owes-by w v lock k has due list tries ok (must_try is) = tries is
owes-by w v lock k has due list tries ok (must_set_ok is) = ok is

-- Release-ok to be set stays so where lists and what is owed of it stay.
pub ok-same :
    (w v : Waking) (l k : ℕ) → v.owes_release_ok k ≡ w.owes_release_ok k → v.sleepers.list l ≡ w.sleepers.list l
    → HasOkToSet w l k → HasOkToSet v l k
ok-same w v l k owes list ok = record { owes = owes ∙ ok.owes; off_list = ap (stands_in k) list ∙ ok.off_list }
