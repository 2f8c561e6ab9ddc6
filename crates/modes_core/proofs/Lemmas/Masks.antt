use Rattle.std.proofs.Common.{◌≡◌, ◌≢◌, ℕ, ◌-◌, ◌*◌, ◌%◌, ◌^◌, ◌<◌, ◌≤◌, Bool, true, false, not, ◌&&◌, ◌||◌, nat_eq, bit_and, bit_or, w16, arith, zero, suc, get_or, refl, sym, ap, ◌∙◌, inl, inr, rules, min}
use Rattle.std.specs.Int.{bit_at, trailing_zeros}
use Rattle.std.specs.Int.Count.{trailing_of_zero}
use Rattle.std.proofs.lemmas.Nat.{one_shl, or_lt, and_le_l}
use Rattle.std.proofs.lemmas.Nat.Bits.{and_pow, bit_at-lt, bit_at_set_same, bit_at_set_other, bit_at_clear_same, bit_at_clear_other, bit_at_and, bit_at-zero, bit_at_above, bit_at-trailing_zeros, same_from_bits_below}
use Rattle.std.proofs.Math.Pow.{pow-lt}
use Rattle.std.proofs.lemmas.Bool.{cases_eq, cases_lt, cases_Bool, false≢true}
use Rattle.std.specs.List.{list_any}
use Rattle.std.proofs.lemmas.List.Folds.{list_any_none, list_any_at}
use Rattle.std.proofs.lemmas.Bool.Decides.{nat_tests}
use Rattle.modes_core.specs.declared.modes.Mode.{Mode}
use Rattle.modes_core.specs.declared.modes.Mode.TheVariants.{AccessShare, RowShare, RowExclusive, ShareUpdateExclusive, Share, ShareRowExclusive, Exclusive, AccessExclusive}
use Rattle.modes_core.specs.Mode.{number_of}
use Rattle.modes_core.specs.ModeSet.{set_has, all_modes, IsModeMask}

-- a mode's number is 1 to 8
pub number_of-within : (mode : Mode) → (0 < number_of mode) × (number_of mode < 9)
number_of-within AccessShare = (omega arith, omega arith)
number_of-within RowShare = (omega arith, omega arith)
number_of-within RowExclusive = (omega arith, omega arith)
number_of-within ShareUpdateExclusive = (omega arith, omega arith)
number_of-within Share = (omega arith, omega arith)
number_of-within ShareRowExclusive = (omega arith, omega arith)
number_of-within Exclusive = (omega arith, omega arith)
number_of-within AccessExclusive = (omega arith, omega arith)

-- a bit times a power is 0 exactly where the bit is not set
scaled_bit : (b p : ℕ) → b < 2 → 0 < p → not (nat_eq (b * p) 0) ≡ nat_eq b 1
scaled_bit zero p below positive = grind (arith, nat_tests)
scaled_bit (suc zero) p below positive = grind (arith, nat_tests)
scaled_bit (suc (suc b)) p below positive = absurd (omega arith)

-- the test `mask & (1 << k) != 0`
pub bit_test : (mask k : ℕ) → k < 16 → not (nat_eq (bit_and mask (1 * 2 ^ k % 65536)) 0) ≡ nat_eq (bit_at mask k) 1
bit_test mask k within =
    let shifted : 1 * 2 ^ k % 65536 ≡ 2 ^ k = one_shl k 16 within in
    rw (shifted, and_pow mask k) (scaled_bit (bit_at mask k) (2 ^ k) (bit_at-lt mask k) (search rules))

-- the bits of `mask | 1 << k`
pub bit_set : (mask k j : ℕ) → k < 16 → nat_eq (bit_at (bit_or mask (1 * 2 ^ k % 65536)) j) 1 ≡ (nat_eq j k || nat_eq (bit_at mask j) 1)
bit_set mask k j within =
    elim (cases_eq j k) [
      | inl same ↦ let set : bit_at (bit_or mask (1 * 2 ^ k % 65536)) k ≡ 1 = bit_at_set_same w16 mask k within in rw (same, set) (grind (arith, nat_tests))
      | inr other ↦ let kept : bit_at (bit_or mask (1 * 2 ^ k % 65536)) j ≡ bit_at mask j = bit_at_set_other w16 mask k within j other in rw kept (grind (arith, nat_tests))
    ]

-- the bits of `mask & !(1 << k)`
pub bit_cleared : (mask k j : ℕ) → k < 16 → j < 16 → nat_eq (bit_at (bit_and mask (65535 - 1 * 2 ^ k % 65536)) j) 1 ≡ (not (nat_eq j k) && nat_eq (bit_at mask j) 1)
bit_cleared mask k j within j_within =
    elim (cases_eq j k) [
      | inl same ↦ let cleared : bit_at (bit_and mask (65535 - 1 * 2 ^ k % 65536)) k ≡ 0 = bit_at_clear_same w16 mask k within in rw (same, cleared) (grind (arith, nat_tests))
      | inr other ↦ let kept : bit_at (bit_and mask (65535 - 1 * 2 ^ k % 65536)) j ≡ bit_at mask j = bit_at_clear_other w16 mask k within j j_within other in rw kept (grind (arith, nat_tests))
    ]

-- a mask with one mode more
pub IsModeMask-with : (mask k : ℕ) → 0 < k → k < 9 → IsModeMask mask → IsModeMask (bit_or mask (1 * 2 ^ k % 65536))
IsModeMask-with mask k positive within is =
    let shifted : 1 * 2 ^ k % 65536 ≡ 2 ^ k = one_shl k 16 (omega arith) in
    let not_zero : 0 ≢ k = λ e. omega arith in
    record {
      below = rw shifted (or_lt 9 mask (2 ^ k) is.below (pow-lt within));
      no_mode_zero = let kept : bit_at (bit_or mask (1 * 2 ^ k % 65536)) 0 ≡ bit_at mask 0 = bit_at_set_other w16 mask k (omega arith) 0 not_zero in kept ∙ is.no_mode_zero;
    }

-- a mask with one mode less
pub IsModeMask-without : (mask k : ℕ) → 0 < k → k < 9 → IsModeMask mask → IsModeMask (bit_and mask (65535 - 1 * 2 ^ k % 65536))
IsModeMask-without mask k positive within is =
    let not_zero : 0 ≢ k = λ e. omega arith in
    record {
      below = omega (arith, and_le_l mask (65535 - 1 * 2 ^ k % 65536), is.below);
      no_mode_zero = let kept : bit_at (bit_and mask (65535 - 1 * 2 ^ k % 65536)) 0 ≡ bit_at mask 0 = bit_at_clear_other w16 mask k (omega arith) 0 (omega arith) not_zero in kept ∙ is.no_mode_zero;
    }

-- Two numbers of nine bits with no bit in common.
shares_none : (a b : ℕ) → a < 2 ^ 9 → ((i : ℕ) → i < 9 → min (bit_at a i) (bit_at b i) ≡ 0) → bit_and a b ≡ 0
shares_none a b below none =
    same_from_bits_below 9 (bit_and a b) 0 (omega (arith, and_le_l a b)) (omega arith)
    (λ i h. bit_at_and a b i ∙ none i h ∙ sym (bit_at-zero i))

-- A test that no mode passes fails at each one.
pub none_passes : (p : Mode → Bool) → list_any p all_modes ≡ false → (mode : Mode) → p mode ≡ false
none_passes p none = at_each where
  at_place : (k : ℕ) (mode : Mode) → k < 8 → p (get_or all_modes k mode) ≡ false
  at_place k mode within =
      elim (cases_Bool (p (get_or all_modes k mode))) [
        | inl pass ↦ absurd (false≢true (sym none ∙ list_any_at p all_modes k mode within pass))
        | inr fail ↦ fail
      ]

  at_each : (mode : Mode) → p mode ≡ false
  at_each AccessShare = at_place 0 AccessShare (omega arith)
  at_each RowShare = at_place 1 RowShare (omega arith)
  at_each RowExclusive = at_place 2 RowExclusive (omega arith)
  at_each ShareUpdateExclusive = at_place 3 ShareUpdateExclusive (omega arith)
  at_each Share = at_place 4 Share (omega arith)
  at_each ShareRowExclusive = at_place 5 ShareRowExclusive (omega arith)
  at_each Exclusive = at_place 6 Exclusive (omega arith)
  at_each AccessExclusive = at_place 7 AccessExclusive (omega arith)

-- each number from 1 to 8 is a mode's
mode_numbered : (k : ℕ) → 0 < k → k < 9 → (mode : Mode) × (number_of mode ≡ k)
mode_numbered zero positive within = absurd (omega arith)
mode_numbered (suc zero) positive within = (AccessShare, refl)
mode_numbered (suc (suc zero)) positive within = (RowShare, refl)
mode_numbered (suc (suc (suc zero))) positive within = (RowExclusive, refl)
mode_numbered (suc (suc (suc (suc zero)))) positive within = (ShareUpdateExclusive, refl)
mode_numbered (suc (suc (suc (suc (suc zero))))) positive within = (Share, refl)
mode_numbered (suc (suc (suc (suc (suc (suc zero)))))) positive within = (ShareRowExclusive, refl)
mode_numbered (suc (suc (suc (suc (suc (suc (suc zero))))))) positive within = (Exclusive, refl)
mode_numbered (suc (suc (suc (suc (suc (suc (suc (suc zero)))))))) positive within = (AccessExclusive, refl)
mode_numbered (suc (suc (suc (suc (suc (suc (suc (suc (suc k))))))))) positive within = absurd (omega arith)

-- two bits that are not both 1
min_of_bits : (x y : ℕ) → x < 2 → y < 2 → (nat_eq x 1 && nat_eq y 1) ≡ false → min x y ≡ 0
min_of_bits x y x_bit y_bit not_both = grind (arith, nat_tests)

not_both_bits : (x y : ℕ) → min x y ≡ 0 → (nat_eq x 1 && nat_eq y 1) ≡ false
not_both_bits x y apart = grind (arith, nat_tests)

common_none : (a b : ℕ) → IsModeMask a → list_any (λ mode. set_has a mode && set_has b mode) all_modes ≡ false → bit_and a b ≡ 0
common_none a b is none = shares_none a b is.below at_place where
  at_mode : (mode : Mode) (i : ℕ) → number_of mode ≡ i → min (bit_at a i) (bit_at b i) ≡ 0
  at_mode mode i e =
      rw (← e) (min_of_bits _ _ (bit_at-lt a (number_of mode)) (bit_at-lt b (number_of mode)) (none_passes (λ m. set_has a m && set_has b m) none mode))

  at_place : (i : ℕ) → i < 9 → min (bit_at a i) (bit_at b i) ≡ 0
  at_place zero h = rw is.no_mode_zero (omega arith)
  at_place (suc i) h = let found = mode_numbered (suc i) (omega arith) h in at_mode found.0 (suc i) found.1

-- `a & b != 0` tests whether some mode is in both masks
pub masks_meet : (a b : ℕ) → IsModeMask a → not (nat_eq (bit_and a b) 0) ≡ list_any (λ mode. set_has a mode && set_has b mode) all_modes
masks_meet a b is =
    elim (cases_eq (bit_and a b) 0) [
      | inl apart ↦
          rw apart (sym (list_any_none (λ mode. set_has a mode && set_has b mode) all_modes (λ k d within. at_mode apart (get_or all_modes k d))))
      | inr some ↦
          elim (cases_Bool (list_any (λ mode. set_has a mode && set_has b mode) all_modes)) [
            | inl found ↦ rw found (grind (arith, nat_tests))
            | inr none ↦ absurd (some (common_none a b is none))
          ]
    ] where
      at_mode : bit_and a b ≡ 0 → (mode : Mode) → (set_has a mode && set_has b mode) ≡ false
      at_mode apart mode =
          not_both_bits _ _ (sym (bit_at_and a b (number_of mode)) ∙ ap (λ n. bit_at n (number_of mode)) apart ∙ bit_at-zero (number_of mode))

-- two bits of which the lower one is 1
both_bits : (x y : ℕ) → x < 2 → y < 2 → min x y ≡ 1 → (nat_eq x 1 ≡ true) × (nat_eq y 1 ≡ true)
both_bits x y x_bit y_bit low = (grind (arith, nat_tests), grind (arith, nat_tests))

-- what is so of the lowest bit of `a & b`: it is a bit of both, and no bit below it is; where there is none
-- it is past all modes
record IsLowest (a b place : ℕ) : Type 0 where
  within : place < 9 → (nat_eq (bit_at a place) 1 ≡ true) × (nat_eq (bit_at b place) 1 ≡ true)
  none_below : (i : ℕ) → i < place → (nat_eq (bit_at a i) 1 && nat_eq (bit_at b i) 1) ≡ false
  no_other : 9 ≤ place → (i : ℕ) → (nat_eq (bit_at a i) 1 && nat_eq (bit_at b i) 1) ≡ false

lowest_bit : (a b : ℕ) → a < 2 ^ 9 → IsLowest a b (trailing_zeros w16 (bit_and a b))
lowest_bit a b below =
    elim (cases_eq (bit_and a b) 0) [
      | inl apart ↦
          let none : (i : ℕ) → (nat_eq (bit_at a i) 1 && nat_eq (bit_at b i) 1) ≡ false = λ i. not_both_bits _ _ (sym (bit_at_and a b i) ∙ ap (λ n. bit_at n i) apart ∙ bit_at-zero i) in
          let past : trailing_zeros w16 (bit_and a b) ≡ 16 = ap (trailing_zeros w16) apart ∙ trailing_of_zero 16 in
          record {
            within = λ low. absurd (omega (arith, past, low));
            none_below = λ i _. none i;
            no_other = λ _ i. none i;
          }
      | inr some ↦
          let small : bit_and a b < 2 ^ 9 = omega (arith, and_le_l a b, below) in
          let found = bit_at-trailing_zeros w16 (bit_and a b) (omega (arith, some)) (omega (arith, small)) in
          let place = trailing_zeros w16 (bit_and a b) in
          record {
            within = λ _. both_bits _ _ (bit_at-lt a place) (bit_at-lt b place) (sym (bit_at_and a b place) ∙ found.1);
            none_below = λ i low. not_both_bits _ _ (sym (bit_at_and a b i) ∙ found.2 i low);
            no_other = λ past. absurd (omega (arith, bit_at_above (bit_and a b) 9 place small past, found.1));
          }
    ]

-- `(a & b).trailing_zeros()` is the number of the lowest mode that is in both masks, and no mode's where
-- there is none
pub lowest_in : (a b : ℕ) → IsModeMask a → (mode : Mode) → number_of mode ≡ trailing_zeros w16 (bit_and a b) → (set_has a mode ≡ true) × (set_has b mode ≡ true)
lowest_in a b is mode e =
    let low : number_of mode < 9 = (number_of-within mode).1 in
    rw e ((lowest_bit a b is.below).within (omega (arith, low, e)))

pub lowest_below : (a b : ℕ) → IsModeMask a → (mode lower : Mode) → number_of mode ≡ trailing_zeros w16 (bit_and a b) → number_of lower < number_of mode → (set_has a lower && set_has b lower) ≡ false
lowest_below a b is mode lower e under = (lowest_bit a b is.below).none_below (number_of lower) (omega (arith, under, e))

pub lowest_none : (a b : ℕ) → IsModeMask a → ((mode : Mode) → number_of mode ≢ trailing_zeros w16 (bit_and a b)) → (mode : Mode) → (set_has a mode && set_has b mode) ≡ false
lowest_none a b is unknown mode = at_place (trailing_zeros w16 (bit_and a b)) (lowest_bit a b is.below) unknown where
  at_place : (place : ℕ) → IsLowest a b place → ((mode : Mode) → number_of mode ≢ place) → (set_has a mode && set_has b mode) ≡ false
  at_place place low unknown =
      elim (cases_lt place 9) [
        | inl below ↦
            elim (cases_eq place 0) [
              | inl none ↦ absurd (false≢true (sym (rw (none, is.no_mode_zero) refl) ∙ (low.within below).0))
              | inr some ↦ let found = mode_numbered place (omega (arith, some)) below in absurd (unknown found.0 found.1)
            ]
        | inr past ↦ low.no_other past (number_of mode)
      ]
