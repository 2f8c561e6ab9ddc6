use Rattle.std.proofs.Common.{◌≡◌, ◌≢◌, ℕ, ◌-◌, ◌^◌, ◌<◌, ◌≤◌, Bool, true, false, not, ◌&&◌, ◌||◌, nat_eq, bit_and, bit_or, arith, zero, suc, refl, sym, ap, ◌∙◌, inl, inr, min}
use Rattle.std.specs.Int.{bit_at}
use Rattle.std.proofs.lemmas.Nat.{or_lt, and_le_l}
use Rattle.std.proofs.lemmas.Nat.Bits.{bit_at_and, bit_at-lt, bit_at-zero, bit_at_above}
use Rattle.std.proofs.lemmas.Bool.{cases_Bool, cases_eq, cases_lt, false≢true, false_from_ne_true, eqb-true, eq-eqb, cond-true, cond-false}
use Rattle.std.proofs.Math.Pow.{pow-lt}
use Rattle.modes_core.specs.declared.modes.Mode.{Mode}
use Rattle.modes_core.specs.declared.modes.Mode.TheVariants.{AccessShare, RowShare, RowExclusive, ShareUpdateExclusive, Share, ShareRowExclusive, Exclusive, AccessExclusive}
use Rattle.modes_core.specs.Mode.{number_of, mode_eq}
use Rattle.lw_word.specs.SlotWord.{relation_in, mode_bits, in_use, has_mode, shows, slot_word, mode_bit, word_with, bits_without, word_without}
use Rattle.lw_word.proofs.Lemmas.Bits.{or_bit-same, or_bit-other}

-- What slot words show.

-- modes are numbered from 1
number_of-positive : (mode : Mode) → 0 < number_of mode
number_of-positive AccessShare = omega arith
number_of-positive RowShare = omega arith
number_of-positive RowExclusive = omega arith
number_of-positive ShareUpdateExclusive = omega arith
number_of-positive Share = omega arith
number_of-positive ShareRowExclusive = omega arith
number_of-positive Exclusive = omega arith
number_of-positive AccessExclusive = omega arith

-- the parts of a packed word
pub mode_bits-slot_word : (relation bits : ℕ) → relation < 2 ^ 32 → bits < 2 ^ 3 → mode_bits (slot_word relation bits) ≡ bits
mode_bits-slot_word relation bits fits within = omega arith

pub relation_in-slot_word : (relation bits : ℕ) → relation < 2 ^ 32 → bits < 2 ^ 3 → relation_in (slot_word relation bits) ≡ relation
relation_in-slot_word relation bits fits within = omega arith

pub shows-slot_word :
    (relation bits other : ℕ) (mode : Mode) → relation < 2 ^ 32 → bits < 2 ^ 3 →
    shows (slot_word relation bits) other mode ≡ (nat_eq (bit_at bits (number_of mode - 1)) 1 && nat_eq relation other)
shows-slot_word relation bits other mode fits within =
    λ i. nat_eq (bit_at (mode_bits-slot_word relation bits fits within i) (number_of mode - 1)) 1 && nat_eq (relation_in-slot_word relation bits fits within i) other

-- a word that is not in use shows nothing
pub shows-empty : (word other : ℕ) (mode : Mode) → mode_bits word ≡ 0 → shows word other mode ≡ false
shows-empty word other mode none =
    ap (λ bits. nat_eq (bit_at bits (number_of mode - 1)) 1 && nat_eq (relation_in word) other) none
    ∙ ap (λ b. nat_eq b 1 && nat_eq (relation_in word) other) (bit_at-zero (number_of mode - 1))

-- modes are the same where their bits are at the same place
same_place : (mode its : Mode) → nat_eq (number_of its - 1) (number_of mode - 1) ≡ mode_eq its mode
same_place mode its =
    let positive = number_of-positive mode in
    let its_positive = number_of-positive its in
    elim (cases_eq (number_of its) (number_of mode)) [
      | inl same ↦ let at_place : number_of its - 1 ≡ number_of mode - 1 = omega arith in eq-eqb (number_of its - 1) (number_of mode - 1) at_place ∙ sym (eq-eqb (number_of its) (number_of mode) same)
      | inr other ↦
          false_from_ne_true (nat_eq (number_of its - 1) (number_of mode - 1)) (λ at_place. other (let same = eqb-true (number_of its - 1) (number_of mode - 1) at_place in omega (arith, same)))
          ∙ sym (false_from_ne_true (mode_eq its mode) (λ same. other (eqb-true (number_of its) (number_of mode) same)))
    ]

-- Setting a mode.

with_bit : (bits : ℕ) (mode its : Mode) → nat_eq (bit_at (bit_or bits (mode_bit mode)) (number_of its - 1)) 1 ≡ (mode_eq its mode || nat_eq (bit_at bits (number_of its - 1)) 1)
with_bit bits mode its = at (number_of its - 1) (same_place mode its) where
  at : (j : ℕ) → nat_eq j (number_of mode - 1) ≡ mode_eq its mode → nat_eq (bit_at (bit_or bits (mode_bit mode)) j) 1 ≡ (mode_eq its mode || nat_eq (bit_at bits j) 1)
  at j place = elim (cases_eq j (number_of mode - 1)) [
    | inl same ↦
        let is : mode_eq its mode ≡ true = sym place ∙ eq-eqb j (number_of mode - 1) same in
        let one : bit_at (bit_or bits (mode_bit mode)) j ≡ 1 = ap (bit_at (bit_or bits (mode_bit mode))) same ∙ or_bit-same bits (number_of mode - 1) in
        ap (λ b. nat_eq b 1) one ∙ sym (ap (λ b. b || nat_eq (bit_at bits j) 1) is)
    | inr other ↦
        let is : mode_eq its mode ≡ false = sym place ∙ false_from_ne_true (nat_eq j (number_of mode - 1)) (λ same. other (eqb-true j (number_of mode - 1) same)) in
        ap (λ b. nat_eq b 1) (or_bit-other bits (number_of mode - 1) j other) ∙ sym (ap (λ b. b || nat_eq (bit_at bits j) 1) is)
  ]

-- (a or b) and c, where b goes with the same c
apart : (a b c d : Bool) → (b ≡ true → d ≡ c) → ((a || b) && c) ≡ (a && c || b && d)
apart true true c d same = sym (or_same c) ∙ ap (λ x. c || x) (sym (same refl)) where
  or_same : (x : Bool) → (x || x) ≡ x
  or_same true = refl
  or_same false = refl
apart true false c d same = or_none c where
  or_none : (x : Bool) → x ≡ (x || false)
  or_none true = refl
  or_none false = refl
apart false true c d same = sym (same refl)
apart false false c d same = refl

mode_bit-lt : (mode : Mode) → number_of mode ≤ 3 → mode_bit mode < 2 ^ 3
mode_bit-lt mode weak = let positive = number_of-positive mode in let low : number_of mode - 1 < 3 = omega arith in pow-lt low

with-fits : (word : ℕ) (mode : Mode) → number_of mode ≤ 3 → bit_or (mode_bits word) (mode_bit mode) < 2 ^ 3
with-fits word mode weak = or_lt 3 (mode_bits word) (mode_bit mode) (omega arith) (mode_bit-lt mode weak)

-- where a mode is shown the slot is in use, and of that relation
has_mode-in_use : (word : ℕ) (mode : Mode) → has_mode word mode ≡ true → in_use word ≡ true
has_mode-in_use word mode set = elim (cases_Bool (nat_eq (mode_bits word) 0)) [
  | inl none ↦
      let bit : bit_at (mode_bits word) (number_of mode - 1) ≡ 0 = ap (λ bits. bit_at bits (number_of mode - 1)) (eqb-true (mode_bits word) 0 none) ∙ bit_at-zero (number_of mode - 1) in
      absurd (false≢true (sym (ap (λ b. nat_eq b 1) bit) ∙ set))
  | inr some ↦ ap not some
]

both_true : (a b : Bool) → (a && b) ≡ true → (a ≡ true) × (b ≡ true)
both_true true true is = (refl, refl)
both_true true false is = absurd (false≢true is)
both_true false b is = absurd (false≢true is)

pub shows-of : (word relation : ℕ) (mode : Mode) → shows word relation mode ≡ true → (in_use word ≡ true) × (relation_in word ≡ relation)
shows-of word relation mode shown =
    let parts = both_true (has_mode word mode) (nat_eq (relation_in word) relation) shown in
    (has_mode-in_use word mode parts.0, eqb-true (relation_in word) relation parts.1)

pub shows-word_with :
    (word relation : ℕ) (mode : Mode) → relation < 2 ^ 32 → number_of mode ≤ 3 → (in_use word ≡ true → relation_in word ≡ relation) →
    (other : ℕ) (its : Mode) → shows (word_with word relation mode) other its ≡ (mode_eq its mode && nat_eq relation other || shows word other its)
shows-word_with word relation mode fits weak its_slot other its =
    shows-slot_word relation (bit_or (mode_bits word) (mode_bit mode)) other its fits (with-fits word mode weak)
    ∙ ap (λ b. b && nat_eq relation other) (with_bit (mode_bits word) mode its)
    ∙ apart (mode_eq its mode) (has_mode word its) (nat_eq relation other) (nat_eq (relation_in word) other) (λ set. ap (λ r. nat_eq r other) (its_slot (has_mode-in_use word its set)))

pub relation_in-word_with : (word relation : ℕ) (mode : Mode) → relation < 2 ^ 32 → number_of mode ≤ 3 → relation_in (word_with word relation mode) ≡ relation
relation_in-word_with word relation mode fits weak = relation_in-slot_word relation (bit_or (mode_bits word) (mode_bit mode)) fits (with-fits word mode weak)

-- Clearing a mode.

-- the bits of 7 less one of its bits
mask_same : (k : ℕ) → k < 3 → bit_at (2 ^ 3 - 1 - 2 ^ k) k ≡ 0
mask_same zero within = refl
mask_same (suc zero) within = refl
mask_same (suc (suc zero)) within = refl
mask_same (suc (suc (suc k))) within = absurd (omega arith)

mask_other : (k j : ℕ) → k < 3 → j < 3 → j ≢ k → bit_at (2 ^ 3 - 1 - 2 ^ k) j ≡ 1
mask_other zero zero k_within j_within other = absurd (other refl)
mask_other zero (suc zero) k_within j_within other = refl
mask_other zero (suc (suc zero)) k_within j_within other = refl
mask_other (suc zero) zero k_within j_within other = refl
mask_other (suc zero) (suc zero) k_within j_within other = absurd (other refl)
mask_other (suc zero) (suc (suc zero)) k_within j_within other = refl
mask_other (suc (suc zero)) zero k_within j_within other = refl
mask_other (suc (suc zero)) (suc zero) k_within j_within other = refl
mask_other (suc (suc zero)) (suc (suc zero)) k_within j_within other = absurd (other refl)
mask_other (suc (suc (suc k))) j k_within j_within other = absurd (omega arith)
mask_other zero (suc (suc (suc j))) k_within j_within other = absurd (omega arith)
mask_other (suc zero) (suc (suc (suc j))) k_within j_within other = absurd (omega arith)
mask_other (suc (suc zero)) (suc (suc (suc j))) k_within j_within other = absurd (omega arith)

cleared : (bits k : ℕ) → k < 3 → bit_at (bit_and bits (2 ^ 3 - 1 - 2 ^ k)) k ≡ 0
cleared bits k within =
    let both : bit_at (bit_and bits (2 ^ 3 - 1 - 2 ^ k)) k ≡ min (bit_at bits k) (bit_at (2 ^ 3 - 1 - 2 ^ k) k) = bit_at_and bits (2 ^ 3 - 1 - 2 ^ k) k in
    let none : bit_at (2 ^ 3 - 1 - 2 ^ k) k ≡ 0 = mask_same k within in
    omega (arith, both, none)

kept : (bits k j : ℕ) → bits < 2 ^ 3 → k < 3 → j ≢ k → bit_at (bit_and bits (2 ^ 3 - 1 - 2 ^ k)) j ≡ bit_at bits j
kept bits k j fits within other =
    let both : bit_at (bit_and bits (2 ^ 3 - 1 - 2 ^ k)) j ≡ min (bit_at bits j) (bit_at (2 ^ 3 - 1 - 2 ^ k) j) = bit_at_and bits (2 ^ 3 - 1 - 2 ^ k) j in
    let below : bit_at bits j < 2 = bit_at-lt bits j in
    elim (cases_lt j 3) [
      | inl low ↦ let one : bit_at (2 ^ 3 - 1 - 2 ^ k) j ≡ 1 = mask_other k j within low other in omega (arith, both, one, below)
      | inr high ↦ let none : bit_at bits j ≡ 0 = bit_at_above bits 3 j fits high in omega (arith, both, none)
    ]

without_bit :
    (bits : ℕ) (mode its : Mode) → bits < 2 ^ 3 → number_of mode ≤ 3 →
    nat_eq (bit_at (bit_and bits (2 ^ 3 - 1 - mode_bit mode)) (number_of its - 1)) 1 ≡ (not (mode_eq its mode) && nat_eq (bit_at bits (number_of its - 1)) 1)
without_bit bits mode its fits weak = at (number_of its - 1) (same_place mode its) where
  within : number_of mode - 1 < 3
  within = let positive = number_of-positive mode in omega arith

  at : (j : ℕ) → nat_eq j (number_of mode - 1) ≡ mode_eq its mode → nat_eq (bit_at (bit_and bits (2 ^ 3 - 1 - mode_bit mode)) j) 1 ≡ (not (mode_eq its mode) && nat_eq (bit_at bits j) 1)
  at j place = elim (cases_eq j (number_of mode - 1)) [
    | inl same ↦
        let is : mode_eq its mode ≡ true = sym place ∙ eq-eqb j (number_of mode - 1) same in
        let none : bit_at (bit_and bits (2 ^ 3 - 1 - mode_bit mode)) j ≡ 0 = ap (bit_at (bit_and bits (2 ^ 3 - 1 - mode_bit mode))) same ∙ cleared bits (number_of mode - 1) within in
        ap (λ b. nat_eq b 1) none ∙ sym (ap (λ b. not b && nat_eq (bit_at bits j) 1) is)
    | inr other ↦
        let is : mode_eq its mode ≡ false = sym place ∙ false_from_ne_true (nat_eq j (number_of mode - 1)) (λ same. other (eqb-true j (number_of mode - 1) same)) in
        ap (λ b. nat_eq b 1) (kept bits (number_of mode - 1) j fits within other) ∙ sym (ap (λ b. not b && nat_eq (bit_at bits j) 1) is)
  ]

and_regrouped : (a b c : Bool) → ((a && b) && c) ≡ (a && (b && c))
and_regrouped true b c = refl
and_regrouped false b c = refl

pub bits_without-lt : (word : ℕ) (mode : Mode) → bits_without word mode < 2 ^ 3
bits_without-lt word mode = let less = and_le_l (mode_bits word) (2 ^ 3 - 1 - mode_bit mode) in omega arith

pub word_without-last : (word : ℕ) (mode : Mode) → bits_without word mode ≡ 0 → word_without word mode ≡ 0
word_without-last word mode none =
    cond-true (nat_eq (bits_without word mode) 0) 0 (slot_word (relation_in word) (bits_without word mode)) (eq-eqb (bits_without word mode) 0 none)

pub word_without-more : (word : ℕ) (mode : Mode) → bits_without word mode ≢ 0 → word_without word mode ≡ slot_word (relation_in word) (bits_without word mode)
word_without-more word mode some =
    cond-false (nat_eq (bits_without word mode) 0) 0 (slot_word (relation_in word) (bits_without word mode))
    (false_from_ne_true (nat_eq (bits_without word mode) 0) (λ none. some (eqb-true (bits_without word mode) 0 none)))

pub shows-word_without :
    (word : ℕ) (mode : Mode) → number_of mode ≤ 3 → (other : ℕ) (its : Mode) →
    shows (word_without word mode) other its ≡ (not (mode_eq its mode) && shows word other its)
shows-word_without word mode weak other its = elim (cases_eq (bits_without word mode) 0) [
  | inl none ↦
      let gone : nat_eq (bit_at (bits_without word mode) (number_of its - 1)) 1 ≡ false =
      ap (λ bits. nat_eq (bit_at bits (number_of its - 1)) 1) none ∙ ap (λ b. nat_eq b 1) (bit_at-zero (number_of its - 1)) in
      ap (λ w. shows w other its) (word_without-last word mode none)
      ∙ shows-empty 0 other its refl
      ∙ sym (ap (λ b. b && nat_eq (relation_in word) other) gone)
      ∙ rest
  | inr some ↦
      ap (λ w. shows w other its) (word_without-more word mode some)
      ∙ shows-slot_word (relation_in word) (bits_without word mode) other its (omega arith) (bits_without-lt word mode)
      ∙ rest
] where
  rest : (nat_eq (bit_at (bits_without word mode) (number_of its - 1)) 1 && nat_eq (relation_in word) other) ≡ (not (mode_eq its mode) && shows word other its)
  rest = ap (λ b. b && nat_eq (relation_in word) other) (without_bit (mode_bits word) mode its (omega arith) weak) ∙ and_regrouped (not (mode_eq its mode)) (has_mode word its) (nat_eq (relation_in word) other)

not-false : (b : Bool) → not b ≡ false → b ≡ true
not-false true is = refl
not-false false is = absurd (false≢true (sym is))

-- A slot in use shows some mode.

pub in_use-shows : (word : ℕ) → in_use word ≡ true → (mode : Mode) × (number_of mode ≤ 3) × (shows word (relation_in word) mode ≡ true)
in_use-shows word used = by_bits (mode_bits word) (omega arith) refl where
  found : (mode : Mode) → number_of mode ≤ 3 → nat_eq (bit_at (mode_bits word) (number_of mode - 1)) 1 ≡ true → (mode : Mode) × (number_of mode ≤ 3) × (shows word (relation_in word) mode ≡ true)
  found mode weak set = (mode, weak, ap (λ b. b && nat_eq (relation_in word) (relation_in word)) set ∙ eq-eqb (relation_in word) (relation_in word) refl)

  by_bits : (bits : ℕ) → bits < 2 ^ 3 → mode_bits word ≡ bits → (mode : Mode) × (number_of mode ≤ 3) × (shows word (relation_in word) mode ≡ true)
  by_bits zero within is = absurd (false≢true (sym (ap (λ b. not (nat_eq b 0)) is) ∙ used))
  by_bits (suc zero) within is = found AccessShare (omega arith) (ap (λ b. nat_eq (bit_at b 0) 1) is)
  by_bits (suc (suc zero)) within is = found RowShare (omega arith) (ap (λ b. nat_eq (bit_at b 1) 1) is)
  by_bits (suc (suc (suc zero))) within is = found AccessShare (omega arith) (ap (λ b. nat_eq (bit_at b 0) 1) is)
  by_bits (suc (suc (suc (suc zero)))) within is = found RowExclusive (omega arith) (ap (λ b. nat_eq (bit_at b 2) 1) is)
  by_bits (suc (suc (suc (suc (suc zero))))) within is = found AccessShare (omega arith) (ap (λ b. nat_eq (bit_at b 0) 1) is)
  by_bits (suc (suc (suc (suc (suc (suc zero)))))) within is = found RowShare (omega arith) (ap (λ b. nat_eq (bit_at b 1) 1) is)
  by_bits (suc (suc (suc (suc (suc (suc (suc zero))))))) within is = found AccessShare (omega arith) (ap (λ b. nat_eq (bit_at b 0) 1) is)
  by_bits (suc (suc (suc (suc (suc (suc (suc (suc bits)))))))) within is = absurd (omega arith)

pub not_in_use-shows : (word relation : ℕ) (mode : Mode) → in_use word ≡ false → shows word relation mode ≡ false
not_in_use-shows word relation mode empty = shows-empty word relation mode (eqb-true (mode_bits word) 0 (not-false (nat_eq (mode_bits word) 0) empty))
