use Rattle.std.proofs.Common.{◌≡◌, ◌≢◌, ℕ, ◌*◌, ◌%◌, ◌^◌, ◌<◌, Bool, true, false, not, nat_eq, bit_and, bit_or, arith, zero, suc, refl, ap, ◌∙◌, rules, max}
use Rattle.std.specs.Prelude.{◌==◌}
use Rattle.std.specs.Int.{bit_at}
use Rattle.std.proofs.lemmas.Nat.{or_mod}
use Rattle.std.specs.Int.Bits.{or_zero_r}
use Rattle.std.proofs.lemmas.Nat.Bits.{and_pow, bit_at-lt, bit_at_or, bit_at-pow_same, bit_at-pow_other}
use Rattle.std.proofs.lemmas.Bool.Decides.{nat_tests}
use Rattle.lw_word.specs.LightweightWord.{bit}

-- Single bits of a number, and truth values as bits.

pub bit-lt : (b : Bool) → bit b < 2
bit-lt true = omega arith
bit-lt false = omega arith

-- a truth value is told from its bit
pub test-bit : (b : Bool) → (bit b == 1) ≡ b
test-bit true = refl
test-bit false = refl

-- a bit times a power is 0 exactly where the bit is not set
scaled_bit : (b p : ℕ) → b < 2 → 0 < p → not (nat_eq (b * p) 0) ≡ nat_eq b 1
scaled_bit zero p below positive = grind (arith, nat_tests)
scaled_bit (suc zero) p below positive = grind (arith, nat_tests)
scaled_bit (suc (suc b)) p below positive = absurd (omega arith)

-- the test `n & 1 << k != 0`
pub bit_test : (n k : ℕ) → not (nat_eq (bit_and n (2 ^ k)) 0) ≡ nat_eq (bit_at n k) 1
bit_test n k = rw (and_pow n k) (scaled_bit (bit_at n k) (2 ^ k) (bit_at-lt n k) (search rules))

-- A bit that is set in either is set in both together.
pub or-set : (n m k : ℕ) → bit_at m k ≡ 1 → bit_at (bit_or n m) k ≡ 1
or-set n m k set =
    let both : bit_at (bit_or n m) k ≡ max (bit_at n k) (bit_at m k) = bit_at_or n m k in
    let below : bit_at n k < 2 = bit_at-lt n k in
    omega (arith, both, below, set)

-- Setting a bit sets it, and no other.
pub or_bit-same : (n k : ℕ) → bit_at (bit_or n (2 ^ k)) k ≡ 1
or_bit-same n k = or-set n (2 ^ k) k (bit_at-pow_same k)

pub or_bit-other : (n k i : ℕ) → i ≢ k → bit_at (bit_or n (2 ^ k)) i ≡ bit_at n i
or_bit-other n k i other =
    let both : bit_at (bit_or n (2 ^ k)) i ≡ max (bit_at n i) (bit_at (2 ^ k) i) = bit_at_or n (2 ^ k) i in
    let none : bit_at (2 ^ k) i ≡ 0 = bit_at-pow_other k i other in
    omega arith

-- The bits below one that other numbers have none of stay.
pub or-below : (n m j : ℕ) → m % 2 ^ j ≡ 0 → bit_or n m % 2 ^ j ≡ n % 2 ^ j
or-below n m j none = or_mod n m j ∙ ap (bit_or (n % 2 ^ j)) none ∙ or_zero_r (n % 2 ^ j)
