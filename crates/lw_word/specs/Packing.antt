use Rattle.std.specs.Prelude.{◌≡◌, ℕ, ◌/◌, ◌%◌, ◌^◌, ◌<◌, ◌==◌}
use Rattle.std.proofs.Common.{arith, refl, zero, suc}
use Rattle.lw_word.specs.LightweightWord.{IsLightweightWord, bit}
use Rattle.lw_word.specs.LockState.{word_of, state_of}

-- A number below 2 is the bit of the test whether it is 1.
pub bit-test : (n : ℕ) → n < 2 → bit (n == 1) ≡ n
bit-test zero below = refl
bit-test (suc zero) below = refl
bit-test (suc (suc n)) below = absurd (omega arith)

-- What a lightweight word says, written as a number, is that word.
pub word_of-state_of : (word : ℕ) → IsLightweightWord word → word_of (state_of word) ≡ word
word_of-state_of word is =
    let e : bit (state_of word).exclusive ≡ word / 2 ^ 24 % 2 = bit-test (word / 2 ^ 24 % 2) (omega arith) in
    let l : bit (state_of word).list_locked ≡ word / 2 ^ 28 % 2 = bit-test (word / 2 ^ 28 % 2) (omega arith) in
    let r : bit (state_of word).release_ok ≡ word / 2 ^ 29 % 2 = bit-test (word / 2 ^ 29 % 2) (omega arith) in
    let w : bit (state_of word).has_waiters ≡ word / 2 ^ 30 % 2 = bit-test (word / 2 ^ 30 % 2) (omega arith) in
    omega (arith, e, l, r, w, is.below, is.none_between)
