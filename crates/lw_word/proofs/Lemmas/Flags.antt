use Rattle.std.proofs.Common.{◌≡◌, ℕ, ◌-◌, ◌/◌, ◌%◌, ◌^◌, ◌<◌, ◌≤◌, Bool, true, false, bit_and, bit_or, arith, refl, ap, ◌∙◌, min}
use Rattle.std.specs.Int.{bit_at}
use Rattle.std.proofs.lemmas.Nat.{and_mask, and_mod, and_shr, or_shr, or_lt, and_le_l}
use Rattle.std.proofs.lemmas.Nat.Bits.{bit_at_and, bit_at-lt}
use Rattle.lw_word.specs.LightweightWord.{IsLightweightWord, IsListLocked, IsReleaseOk, HasWaiters, list_locked_word, release_ok_word, has_waiters_word, list_unlocked_word, kept_bits, flag_bits, HoldersStay}
use Rattle.lw_word.proofs.Lemmas.Bits.{or_bit-same, or_bit-other, or-below}

-- What setting and clearing a flag does to that flag, and that it touches nothing else.

-- Locking the wait list.

pub list_locked_word-locked : (word : ℕ) → IsListLocked (list_locked_word word)
list_locked_word-locked word = or_bit-same word 28

pub list_locked_word-holders : (word : ℕ) → HoldersStay word (list_locked_word word)
list_locked_word-holders word = or-below word (2 ^ 28) 25 refl

pub list_locked_word-release_ok : (word : ℕ) → list_locked_word word / 2 ^ 29 % 2 ≡ word / 2 ^ 29 % 2
list_locked_word-release_ok word = or_bit-other word 28 29 (λ same. omega arith)

pub list_locked_word-has_waiters : (word : ℕ) → list_locked_word word / 2 ^ 30 % 2 ≡ word / 2 ^ 30 % 2
list_locked_word-has_waiters word = or_bit-other word 28 30 (λ same. omega arith)

-- Setting release-ok.

pub release_ok_word-release_ok : (word : ℕ) → IsReleaseOk (release_ok_word word)
release_ok_word-release_ok word = or_bit-same word 29

pub release_ok_word-holders : (word : ℕ) → HoldersStay word (release_ok_word word)
release_ok_word-holders word = or-below word (2 ^ 29) 25 refl

pub release_ok_word-list_locked : (word : ℕ) → release_ok_word word / 2 ^ 28 % 2 ≡ word / 2 ^ 28 % 2
release_ok_word-list_locked word = or_bit-other word 29 28 (λ same. omega arith)

pub release_ok_word-has_waiters : (word : ℕ) → release_ok_word word / 2 ^ 30 % 2 ≡ word / 2 ^ 30 % 2
release_ok_word-has_waiters word = or_bit-other word 29 30 (λ same. omega arith)

-- Setting has-waiters.

pub has_waiters_word-has_waiters : (word : ℕ) → HasWaiters (has_waiters_word word)
has_waiters_word-has_waiters word = or_bit-same word 30

pub has_waiters_word-holders : (word : ℕ) → HoldersStay word (has_waiters_word word)
has_waiters_word-holders word = or-below word (2 ^ 30) 25 refl

pub has_waiters_word-list_locked : (word : ℕ) → has_waiters_word word / 2 ^ 28 % 2 ≡ word / 2 ^ 28 % 2
has_waiters_word-list_locked word = or_bit-other word 30 28 (λ same. omega arith)

pub has_waiters_word-release_ok : (word : ℕ) → has_waiters_word word / 2 ^ 29 % 2 ≡ word / 2 ^ 29 % 2
has_waiters_word-release_ok word = or_bit-other word 30 29 (λ same. omega arith)

-- Unlocking the wait list.

-- the bits of a number and a mask
masked : (word mask k b : ℕ) → bit_at mask k ≡ b → bit_at (bit_and word mask) k ≡ min (bit_at word k) b
masked word mask k b is = bit_at_and word mask k ∙ ap (min (bit_at word k)) is

masked_one : (word mask k : ℕ) → bit_at mask k ≡ 1 → bit_at (bit_and word mask) k ≡ bit_at word k
masked_one word mask k is =
    let both : bit_at (bit_and word mask) k ≡ min (bit_at word k) 1 = masked word mask k 1 is in
    let below : bit_at word k < 2 = bit_at-lt word k in
    omega arith

masked_zero : (word mask k : ℕ) → bit_at mask k ≡ 0 → bit_at (bit_and word mask) k ≡ 0
masked_zero word mask k is =
    let both : bit_at (bit_and word mask) k ≡ min (bit_at word k) 0 = masked word mask k 0 is in
    omega arith

masked_holders : (word mask : ℕ) → mask % 2 ^ 25 ≡ 2 ^ 25 - 1 → HoldersStay word (bit_and word mask)
masked_holders word mask is =
    let low : bit_and word mask % 2 ^ 25 ≡ bit_and (word % 2 ^ 25) (2 ^ 25 - 1) = and_mod word mask 25 ∙ ap (bit_and (word % 2 ^ 25)) is in
    let same : bit_and (word % 2 ^ 25) (2 ^ 25 - 1) ≡ word % 2 ^ 25 % 2 ^ 25 = and_mask (word % 2 ^ 25) 25 in
    omega (arith, low, same)

pub list_unlocked_word-list_locked : (word : ℕ) (waiters release : Bool) → list_unlocked_word word waiters release / 2 ^ 28 % 2 ≡ 0
list_unlocked_word-list_locked word true true = masked_zero word (kept_bits true true) 28 refl
list_unlocked_word-list_locked word true false = masked_zero word (kept_bits true false) 28 refl
list_unlocked_word-list_locked word false true = masked_zero word (kept_bits false true) 28 refl
list_unlocked_word-list_locked word false false = masked_zero word (kept_bits false false) 28 refl

pub list_unlocked_word-holders : (word : ℕ) (waiters release : Bool) → HoldersStay word (list_unlocked_word word waiters release)
list_unlocked_word-holders word true true = masked_holders word (kept_bits true true) refl
list_unlocked_word-holders word true false = masked_holders word (kept_bits true false) refl
list_unlocked_word-holders word false true = masked_holders word (kept_bits false true) refl
list_unlocked_word-holders word false false = masked_holders word (kept_bits false false) refl

-- a flag that is to stay does, and another is cleared
pub list_unlocked_word-release_ok : (word : ℕ) (waiters : Bool) → list_unlocked_word word waiters true / 2 ^ 29 % 2 ≡ word / 2 ^ 29 % 2
list_unlocked_word-release_ok word true = masked_one word (kept_bits true true) 29 refl
list_unlocked_word-release_ok word false = masked_one word (kept_bits false true) 29 refl

pub list_unlocked_word-not_release_ok : (word : ℕ) (waiters : Bool) → list_unlocked_word word waiters false / 2 ^ 29 % 2 ≡ 0
list_unlocked_word-not_release_ok word true = masked_zero word (kept_bits true false) 29 refl
list_unlocked_word-not_release_ok word false = masked_zero word (kept_bits false false) 29 refl

pub list_unlocked_word-has_waiters : (word : ℕ) (release : Bool) → list_unlocked_word word true release / 2 ^ 30 % 2 ≡ word / 2 ^ 30 % 2
list_unlocked_word-has_waiters word true = masked_one word (kept_bits true true) 30 refl
list_unlocked_word-has_waiters word false = masked_one word (kept_bits true false) 30 refl

pub list_unlocked_word-no_waiters : (word : ℕ) (release : Bool) → list_unlocked_word word false release / 2 ^ 30 % 2 ≡ 0
list_unlocked_word-no_waiters word true = masked_zero word (kept_bits false true) 30 refl
list_unlocked_word-no_waiters word false = masked_zero word (kept_bits false false) 30 refl

-- A lightweight word stays one where any flags are set,
pub IsLightweightWord-or : (word flags : ℕ) → flags < 2 ^ 31 → flags / 2 ^ 25 % 2 ^ 3 ≡ 0 → IsLightweightWord word → IsLightweightWord (bit_or word flags)
IsLightweightWord-or word flags fits apart is = record {
  below = or_lt 31 word flags is.below fits;
  none_between = ap (λ high. high % 2 ^ 3) (or_shr word flags 25) ∙ or-below (word / 2 ^ 25) (flags / 2 ^ 25) 3 apart ∙ is.none_between;
}

pub IsLightweightWord-list_locked : (word : ℕ) → IsLightweightWord word → IsLightweightWord (list_locked_word word)
IsLightweightWord-list_locked word is = IsLightweightWord-or word (2 ^ 28) (omega arith) refl is

pub IsLightweightWord-release_ok : (word : ℕ) → IsLightweightWord word → IsLightweightWord (release_ok_word word)
IsLightweightWord-release_ok word is = IsLightweightWord-or word (2 ^ 29) (omega arith) refl is

pub IsLightweightWord-has_waiters : (word : ℕ) → IsLightweightWord word → IsLightweightWord (has_waiters_word word)
IsLightweightWord-has_waiters word is = IsLightweightWord-or word (2 ^ 30) (omega arith) refl is

-- and where any bits are cleared
pub IsLightweightWord-and : (word mask : ℕ) → IsLightweightWord word → IsLightweightWord (bit_and word mask)
IsLightweightWord-and word mask is = record {
  below = omega (arith, and_le_l word mask, is.below);
  none_between =
      let high : bit_and word mask / 2 ^ 25 ≡ bit_and (word / 2 ^ 25) (mask / 2 ^ 25) = and_shr word mask 25 in
      let low : bit_and (word / 2 ^ 25) (mask / 2 ^ 25) % 2 ^ 3 ≡ bit_and (word / 2 ^ 25 % 2 ^ 3) (mask / 2 ^ 25 % 2 ^ 3) = and_mod (word / 2 ^ 25) (mask / 2 ^ 25) 3 in
      let none : bit_and (word / 2 ^ 25 % 2 ^ 3) (mask / 2 ^ 25 % 2 ^ 3) ≤ word / 2 ^ 25 % 2 ^ 3 = and_le_l (word / 2 ^ 25 % 2 ^ 3) (mask / 2 ^ 25 % 2 ^ 3) in
      ap (λ n. n % 2 ^ 3) high ∙ (omega (arith, low, none, is.none_between));
}

-- the flags to be set were set before
pub IsLightweightWord-unlocked : (word : ℕ) (waiters release : Bool) → IsLightweightWord word → IsLightweightWord (list_unlocked_word (bit_or word (flag_bits waiters release)) waiters release)
IsLightweightWord-unlocked word waiters release is = IsLightweightWord-and (bit_or word (flag_bits waiters release)) (kept_bits waiters release) (flagged waiters release) where
  flagged : (w r : Bool) → IsLightweightWord (bit_or word (flag_bits w r))
  flagged true true = IsLightweightWord-or word (flag_bits true true) (omega arith) refl is
  flagged true false = IsLightweightWord-or word (flag_bits true false) (omega arith) refl is
  flagged false true = IsLightweightWord-or word (flag_bits false true) (omega arith) refl is
  flagged false false = IsLightweightWord-or word (flag_bits false false) (omega arith) refl is
