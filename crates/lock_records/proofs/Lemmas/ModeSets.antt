use Rattle.std.proofs.Common.{◌≡◌, ◌≢◌, ℕ, Bool, true, false, not, ◌||◌, ◌&&◌, refl, sym, ap, ◌∙◌, inl, inr}
use Rattle.std.specs.List.{list_any}
use Rattle.std.proofs.lemmas.Bool.{cases_Bool, false≢true, false_from_ne_true, and_parts, or_left}
use Rattle.modes_core.specs.declared.modes.Mode.{Mode}
use Rattle.modes_core.specs.Mode.{mode_eq}
use Rattle.modes_core.specs.ModeSet.{set_has, all_modes}
use Rattle.modes_core.specs.Conflict.{conflict}
use Rattle.modes_core.proofs.Lemmas.Conflicts.{mode_eq-same, mode_eq-refl, each_mode}
use Rattle.lock_table.proofs.Lemmas.Lists.{any_found}
use Rattle.modes_core.specs.declared.modes.Mode.TheVariants.{AccessExclusive}

-- Two modes that are not the same fail the test.
pub mode_ne : (n m : Mode) → n ≢ m → mode_eq n m ≡ false
mode_ne n m other = false_from_ne_true (mode_eq n m) (λ e. other (mode_eq-same n m e))

-- A set with one more mode, and with one less.
pub with-own : (old new : ℕ) (m : Mode) → set_has new ≡ (λ other. mode_eq other m || set_has old other) → set_has new m ≡ true
with-own old new m is = ap (λ f. f m) is ∙ or_left (mode_eq m m) (set_has old m) (mode_eq-refl m)

pub with-else : (old new : ℕ) (m : Mode) → set_has new ≡ (λ other. mode_eq other m || set_has old other) → (n : Mode) → n ≢ m → set_has new n ≡ set_has old n
with-else old new m is n other = ap (λ f. f n) is ∙ ap (λ b. b || set_has old n) (mode_ne n m other)

pub without-own : (old new : ℕ) (m : Mode) → set_has new ≡ (λ other. not (mode_eq other m) && set_has old other) → set_has new m ≡ false
without-own old new m is = ap (λ f. f m) is ∙ ap (λ b. not b && set_has old m) (mode_eq-refl m)

pub without-else : (old new : ℕ) (m : Mode) → set_has new ≡ (λ other. not (mode_eq other m) && set_has old other) → (n : Mode) → n ≢ m → set_has new n ≡ set_has old n
without-else old new m is n other = ap (λ f. f n) is ∙ ap (λ b. not b && set_has old n) (mode_ne n m other)

-- The set of all modes is that which AccessExclusive conflicts with.
all-conflict : (m : Mode) → conflict AccessExclusive m ≡ true
all-conflict m = each_mode (λ n. conflict AccessExclusive n) refl m

-- A test that a mode passes is passed by one of all modes.
pub any-mode : (p : Mode → Bool) (m : Mode) → p m ≡ true → list_any p all_modes ≡ true
any-mode p m pass =
    elim (cases_Bool (list_any p all_modes)) [
      | inl some ↦ some
      | inr none ↦ absurd (false≢true (sym (none-pass m none) ∙ pass))
    ] where
      none-pass : (n : Mode) → list_any p all_modes ≡ false → p n ≡ false
      none-pass n none = not_not (p n) (each_mode (λ k. not (p k)) (twice none) n) where
        not_not : (b : Bool) → not b ≡ true → b ≡ false
        not_not true e = absurd (false≢true e)
        not_not false e = refl

        twice : list_any p all_modes ≡ false → list_any (λ k. not (not (p k))) all_modes ≡ false
        twice e = ap (λ f. list_any f all_modes) (λ i k. same (p k) i) ∙ e where
          same : (b : Bool) → not (not b) ≡ b
          same true = refl
          same false = refl

pub some-met : (set all : ℕ) → set_has all ≡ conflict AccessExclusive → list_any (λ m. set_has set m && set_has all m) all_modes ≡ true → (m : Mode) × (set_has set m ≡ true)
some-met set all is any =
    let found = any_found (λ m. set_has set m && set_has all m) all_modes any in
    (found.1, (and_parts _ _ found.4).0)

pub none-met : (set all : ℕ) → set_has all ≡ conflict AccessExclusive → list_any (λ m. set_has set m && set_has all m) all_modes ≡ false → (m : Mode) → set_has set m ≡ false
none-met set all is none m =
    false_from_ne_true (set_has set m) (λ has.
    false≢true (sym none ∙ any-mode (λ n. set_has set n && set_has all n) m (rw (has, ap (λ f. f m) is ∙ all-conflict m) refl)))

-- A mode that is in both sets, where they meet.
pub meet-some : (a b : ℕ) → list_any (λ m. set_has a m && set_has b m) all_modes ≡ true → (m : Mode) × (set_has a m ≡ true) × (set_has b m ≡ true)
meet-some a b met =
    let found = any_found (λ m. set_has a m && set_has b m) all_modes met in
    let both = and_parts _ _ found.4 in
    (found.1, both.0, both.1)
