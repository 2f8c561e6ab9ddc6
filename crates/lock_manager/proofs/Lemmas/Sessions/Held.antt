-- The set of modes that a session has an object in, gathered mode by mode.
use Rattle.std.proofs.Common.{◌≡◌, ◌≢◌, ℕ, ◌+◌, ◌<◌, ◌≤◌, Bool, true, false, ◌&&◌, ◌||◌, not, nat_lt, List, arith, refl, sym, ap, ◌∙◌, inl, inr}
use Rattle.std.proofs.lemmas.Bool.{cases_Bool, cases_lt, false≢true, lt-ltb, le-ltb, ltb-true}
use Rattle.modes_core.specs.declared.modes.Mode.{Mode}
use Rattle.modes_core.specs.declared.tags.Tag.{Tag}
use Rattle.modes_core.specs.Mode.{mode_eq, number_of}
use Rattle.modes_core.specs.ModeSet.{set_has}
use Rattle.modes_core.proofs.Lemmas.Conflicts.{each_mode, mode_eq-refl, mode_eq-same, number_of-same}
use Rattle.local_locks.specs.declared.records.Entry.{Entry}
use Rattle.local_locks.specs.Owned.{has_entry}

-- the set has the modes below this number that the session has the object in
abbrev pub IsHeldBelow : List Entry → Tag → ℕ → ℕ → Type 0
IsHeldBelow entries tag number set = (mode : Mode) → set_has set mode ≡ (nat_lt (number_of mode) number && has_entry entries tag mode)

lt-other : (k n : ℕ) → k ≢ n → nat_lt k (n + 1) ≡ nat_lt k n
lt-other k n other =
    elim (cases_lt k n) [
      | inl below ↦ lt-ltb k (n + 1) (omega (arith, below)) ∙ sym (lt-ltb k n below)
      | inr above ↦ le-ltb k (n + 1) (omega (arith, above, other)) ∙ sym (le-ltb k n above)
    ]

-- One more mode,
skipped :
    (entries : List Entry) (tag : Tag) (number set : ℕ) (m : Mode) → number_of m ≢ number → set_has set m ≡ (nat_lt (number_of m) number && has_entry entries tag m) →
    set_has set m ≡ (nat_lt (number_of m) (number + 1) && has_entry entries tag m)
skipped entries tag number set m other below = below ∙ ap (λ (b : Bool). b && has_entry entries tag m) (sym (lt-other (number_of m) number other))

number_apart : (m mode : Mode) (number : ℕ) → number_of mode ≡ number → mode_eq m mode ≡ false → number_of m ≢ number
number_apart m mode number its apart same =
    absurd (false≢true (sym apart ∙ ap (λ (it : Mode). mode_eq it mode) (number_of-same m mode (same ∙ sym its)) ∙ mode_eq-refl mode))

-- with an entry,
pub IsHeldBelow-with :
    (entries : List Entry) (tag : Tag) (number set more : ℕ) (mode : Mode) → number_of mode ≡ number → has_entry entries tag mode ≡ true →
    set_has more ≡ (λ other. mode_eq other mode || set_has set other) → IsHeldBelow entries tag number set → IsHeldBelow entries tag (number + 1) more
IsHeldBelow-with entries tag number set more mode its has with below m =
    elim (cases_Bool (mode_eq m mode)) [
      | inl alike ↦
          let same = mode_eq-same m mode alike in
          let within : nat_lt (number_of m) (number + 1) ≡ true = lt-ltb (number_of m) (number + 1) (let e : number_of m ≡ number = ap number_of same ∙ its in omega (arith, e)) in
          ap (λ (f : Mode → Bool). f m) with ∙ rw alike (sym (rw within (ap (has_entry entries tag) same ∙ has)))
      | inr apart ↦
          ap (λ (f : Mode → Bool). f m) with ∙
          rw apart (skipped entries tag number set m (number_apart m mode number its apart) (below m))
    ]

-- without one,
pub IsHeldBelow-without :
    (entries : List Entry) (tag : Tag) (number set : ℕ) (mode : Mode) → number_of mode ≡ number → has_entry entries tag mode ≡ false →
    IsHeldBelow entries tag number set → IsHeldBelow entries tag (number + 1) set
IsHeldBelow-without entries tag number set mode its has below m =
    elim (cases_Bool (mode_eq m mode)) [
      | inl alike ↦
          let same = mode_eq-same m mode alike in
          let none : has_entry entries tag m ≡ false = ap (has_entry entries tag) same ∙ has in
          below m ∙ ap (λ (b : Bool). nat_lt (number_of m) number && b) none ∙ and_false (nat_lt (number_of m) number) ∙
          sym (ap (λ (b : Bool). nat_lt (number_of m) (number + 1) && b) none ∙ and_false (nat_lt (number_of m) (number + 1)))
      | inr apart ↦ skipped entries tag number set m (number_apart m mode number its apart) (below m)
    ] where
      and_false : (b : Bool) → (b && false) ≡ false
      and_false true = refl
      and_false false = refl

-- and where the number is no mode's.
pub IsHeldBelow-none :
    (entries : List Entry) (tag : Tag) (number set : ℕ) → ((mode : Mode) → number_of mode ≢ number) → IsHeldBelow entries tag number set →
    IsHeldBelow entries tag (number + 1) set
IsHeldBelow-none entries tag number set none below m = skipped entries tag number set m (none m) (below m)

-- Below 1 there is none, and past 8 the set has them all.
pub none-held : (entries : List Entry) (tag : Tag) (set : ℕ) → set_has set ≡ (λ _. false) → IsHeldBelow entries tag 1 set
none-held entries tag set empty mode =
    ap (λ (f : Mode → Bool). f mode) empty ∙
    sym (ap (λ (b : Bool). b && has_entry entries tag mode) (not_true (nat_lt (number_of mode) 1) (each_mode (λ m. not (nat_lt (number_of m) 1)) refl mode))) where
      not_true : (b : Bool) → not b ≡ true → b ≡ false
      not_true true e = absurd (false≢true e)
      not_true false e = refl

pub all-held : (entries : List Entry) (tag : Tag) (number set : ℕ) → 9 ≤ number → IsHeldBelow entries tag number set → set_has set ≡ has_entry entries tag
all-held entries tag number set past below = λ i mode. at mode i where
  at : (mode : Mode) → set_has set mode ≡ has_entry entries tag mode
  at mode =
      let last : number_of mode < 9 = ltb-true (number_of mode) 9 (each_mode (λ m. nat_lt (number_of m) 9) refl mode) in
      below mode ∙ ap (λ (b : Bool). b && has_entry entries tag mode) (lt-ltb (number_of mode) number (omega (arith, last, past)))
