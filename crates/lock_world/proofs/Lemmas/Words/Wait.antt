use Rattle.std.proofs.Common.{◌≡◌, ℕ, ◌+◌, ◌*◌, ◌/◌, ◌%◌, true, false, cond, max, sym, ap, ◌∙◌, inl, inr, arith}
use Rattle.std.specs.Prelude.{bit_and, bit_or}
use Rattle.std.specs.Int.{bit_at}
use Rattle.std.specs.Int.Bits.{and_zero_r}
use Rattle.std.proofs.lemmas.Bool.{cases_Bool, cases_eq, eqb-true, eqb-false, eq-eqb, cond-true, cond-false}
use Rattle.std.proofs.lemmas.Nat.{or_mod, or_disjoint}
use Rattle.std.proofs.lemmas.Nat.Bits.{and_pow, bit_at_or, bit_at-pow_other, same_from_bits}
use Rattle.lock_world.specs.WaitWord.{wait_state, is_asked, asked_word}

-- Asking leaves whether the session waits.
pub asked_word-state : (word : ℕ) → wait_state (asked_word word) ≡ wait_state word
asked_word-state word =
    let parts : bit_or word 4 % 4 ≡ bit_or (word % 4) 0 = or_mod word 4 2 in
    let same : bit_or (word % 4) 0 ≡ word % 4 + 0 = or_disjoint (word % 4) 0 (and_zero_r (word % 4)) in
    omega (arith, parts, same)

-- Whoever was asked is asked.
pub asked_word-asked : (word : ℕ) → is_asked (asked_word word) ≡ true
asked_word-asked word =
    let bit : bit_or word 4 / 4 % 2 ≡ max (word / 4 % 2) 1 = bit_at_or word 4 2 in
    eq-eqb (bit_or word 4 / 4 % 2) 1 (omega (arith, bit))

-- Asking again changes nothing.
pub asked_word-again : (word : ℕ) → is_asked word ≡ true → asked_word word ≡ word
asked_word-again word asked = same_from_bits (bit_or word 4) word same where
  same : (i : ℕ) → bit_at (bit_or word 4) i ≡ bit_at word i
  same i =
      elim (cases_eq i 2) [
        | inl two ↦
            let is : word / 4 % 2 ≡ 1 = eqb-true (word / 4 % 2) 1 asked in
            let bit : bit_or word 4 / 4 % 2 ≡ max (word / 4 % 2) 1 = bit_at_or word 4 2 in
            let same_at_2 : bit_at (bit_or word 4) 2 ≡ bit_at word 2 = omega (arith, is, bit) in
            ap (bit_at (bit_or word 4)) two ∙ same_at_2 ∙ ap (bit_at word) (sym two)
        | inr other ↦
            let bit : bit_at (bit_or word 4) i ≡ max (bit_at word i) (bit_at 4 i) = bit_at_or word 4 i in
            let none : bit_at 4 i ≡ 0 = bit_at-pow_other 2 i other in
            omega (arith, bit, none)
      ]

-- Asking for the first time adds 4.
pub asked_word-first : (word : ℕ) → is_asked word ≡ false → asked_word word ≡ word + 4
asked_word-first word not_asked =
    let bit : bit_and word 4 ≡ word / 4 % 2 * 4 = and_pow word 2 in
    let not_one = eqb-false (word / 4 % 2) 1 not_asked in
    let none : word / 4 % 2 ≡ 0 = omega (arith, not_one) in
    or_disjoint word 4 (omega (arith, bit, none))

pub asked_word-sum : (word : ℕ) → asked_word word ≡ cond (is_asked word) word (word + 4)
asked_word-sum word =
    elim (cases_Bool (is_asked word)) [
      | inl asked ↦ asked_word-again word asked ∙ sym (cond-true (is_asked word) word (word + 4) asked)
      | inr not_asked ↦ asked_word-first word not_asked ∙ sym (cond-false (is_asked word) word (word + 4) not_asked)
    ]
