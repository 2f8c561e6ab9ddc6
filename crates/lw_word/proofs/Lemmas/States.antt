use Rattle.std.proofs.Common.{◌≡◌, ℕ, ◌+◌, ◌-◌, ◌/◌, ◌%◌, ◌^◌, ◌<◌, ◌≤◌, Bool, true, false, nat_eq, bit_or, arith, refl, sym, ap, ◌∙◌}
use Rattle.std.proofs.lemmas.Bool.{eqb-true, eqb-false, eq-eqb, false_from_ne_true}
use Rattle.std.specs.Prelude.{◌↔◌}
use Rattle.lw_word.specs.declared.words.LwMode.{LwMode}
use Rattle.lw_word.specs.declared.words.LwMode.TheVariants.{Exclusive, Shared}
use Rattle.lw_word.specs.LightweightWord.{IsLightweightWord, IsHeldByNobody, IsHeldExclusively, IsFreeToShare, shared_count, taken_word, put_word, shared_word, unshared_word, list_locked_word, release_ok_word, has_waiters_word, list_unlocked_word, flag_bits, FlagsStay, HoldersStay, bit}
use Rattle.lw_word.specs.LockState.{LockState, word_of, state_of, amount_of, IsFreeFor, HasRoomFor, IsHeldIn, taken_in, put_in}
use Rattle.lw_word.specs.Packing.{word_of-state_of}
use Rattle.lw_word.proofs.Lemmas.Bits.{test-bit, or-below, or-set}
use Rattle.lw_word.proofs.Lemmas.Words.{nobody-from, nobody-not_exclusive, nobody-shared, free_to_share-not_exclusive, IsLightweightWord-flags, taken_word-exclusive, taken_word-shared, taken_word-flags, put_word-free_to_share, put_word-shared, put_word-flags, shared_word-shared, shared_word-exclusive, shared_word-flags, unshared_word-shared, unshared_word-exclusive, unshared_word-flags, flags-list_locked, flags-release_ok, flags-has_waiters, holders-shared, holders-exclusive}
use Rattle.lw_word.proofs.Lemmas.Flags.{list_locked_word-locked, list_locked_word-holders, list_locked_word-release_ok, list_locked_word-has_waiters, release_ok_word-release_ok, release_ok_word-holders, release_ok_word-list_locked, release_ok_word-has_waiters, has_waiters_word-has_waiters, has_waiters_word-holders, has_waiters_word-list_locked, has_waiters_word-release_ok, list_unlocked_word-list_locked, list_unlocked_word-holders, list_unlocked_word-release_ok, list_unlocked_word-not_release_ok, list_unlocked_word-has_waiters, list_unlocked_word-no_waiters}

-- What each change of a lightweight word does to what the word says.

-- What a word says, where its flags stay, and where its holders stay.

with_holders : (old new shared : ℕ) (exclusive : Bool) → FlagsStay old new → shared_count new ≡ shared → new / 2 ^ 24 % 2 ≡ bit exclusive → state_of new ≡ record (state_of old) { shared = shared; exclusive = exclusive }
with_holders old new shared exclusive stay count one = λ i. record {
  shared = count i;
  exclusive = (ap (λ b. nat_eq b 1) one ∙ test-bit exclusive) i;
  list_locked = nat_eq (flags-list_locked old new stay i % 2) 1;
  release_ok = nat_eq (flags-release_ok old new stay i % 2) 1;
  has_waiters = nat_eq (flags-has_waiters old new stay i % 2) 1;
}

with_flags : (old new : ℕ) (locked release waiters : Bool) → HoldersStay old new → new / 2 ^ 28 % 2 ≡ bit locked → new / 2 ^ 29 % 2 ≡ bit release → new / 2 ^ 30 % 2 ≡ bit waiters → state_of new ≡ record (state_of old) { list_locked = locked; release_ok = release; has_waiters = waiters }
with_flags old new locked release waiters stay l r w = λ i. record {
  shared = holders-shared old new stay i;
  exclusive = nat_eq (holders-exclusive old new stay i) 1;
  list_locked = (ap (λ b. nat_eq b 1) l ∙ test-bit locked) i;
  release_ok = (ap (λ b. nat_eq b 1) r ∙ test-bit release) i;
  has_waiters = (ap (λ b. nat_eq b 1) w ∙ test-bit waiters) i;
}

-- What the record says and what the bits say are the same.

not_exclusive : (word : ℕ) → (state_of word).exclusive ≡ false → IsFreeToShare word
not_exclusive word free = let one = eqb-false (word / 2 ^ 24 % 2) 1 free in omega (arith, one)

exclusive : (word : ℕ) → (state_of word).exclusive ≡ true → IsHeldExclusively word
exclusive word held = eqb-true (word / 2 ^ 24 % 2) 1 held

pub IsFreeFor-exclusive : (word : ℕ) → IsFreeFor Exclusive (state_of word) ↔ IsHeldByNobody word
IsFreeFor-exclusive word = (
  λ free. nobody-from word (not_exclusive word free.0) free.1,
  λ nobody. (
    false_from_ne_true (nat_eq (word / 2 ^ 24 % 2) 1) (λ one. nobody-not_exclusive word nobody (eqb-true (word / 2 ^ 24 % 2) 1 one)),
    nobody-shared word nobody,
  ),
)

pub IsFreeFor-shared : (word : ℕ) → IsFreeFor Shared (state_of word) ↔ IsFreeToShare word
IsFreeFor-shared word = (
  not_exclusive word,
  λ free. false_from_ne_true (nat_eq (word / 2 ^ 24 % 2) 1) (λ one. free_to_share-not_exclusive word free (eqb-true (word / 2 ^ 24 % 2) 1 one)),
)

-- a part of the record is true where its bit is 1
pub bit_is_set : (bit_value : ℕ) → (nat_eq bit_value 1 ≡ true) ↔ (bit_value ≡ 1)
bit_is_set bit_value = (eqb-true bit_value 1, eq-eqb bit_value 1)

-- Nobody has the list locked where its bit is not set.
pub list_free : (word : ℕ) → (word / 2 ^ 28 % 2 ≡ 0) ↔ ((state_of word).list_locked ≡ false)
list_free word = (
  λ free. false_from_ne_true (nat_eq (word / 2 ^ 28 % 2) 1) (λ one. let is = eqb-true (word / 2 ^ 28 % 2) 1 one in omega (arith, is, free)),
  λ free. let none = eqb-false (word / 2 ^ 28 % 2) 1 free in omega (arith, none),
)

-- Taking it, and giving it up.

pub state_of-taken : (mode : LwMode) (word : ℕ) → HasRoomFor mode (state_of word) → IsFreeFor mode (state_of word) → state_of (word + amount_of mode) ≡ taken_in mode (state_of word)
state_of-taken Exclusive word room free =
    let nobody : IsHeldByNobody word = nobody-from word (not_exclusive word free.0) free.1 in
    with_holders word (taken_word word) (shared_count word) true (taken_word-flags word nobody) (taken_word-shared word nobody ∙ sym free.1) (taken_word-exclusive word nobody)
state_of-taken Shared word room free =
    let fits : shared_count word + 1 < 2 ^ 24 = omega (arith, room) in
    let kept : shared_word word / 2 ^ 24 % 2 ≡ 0 = ap (λ n. n % 2) (shared_word-exclusive word fits) ∙ not_exclusive word free in
    with_holders word (shared_word word) (shared_count word + 1) false (shared_word-flags word fits) (shared_word-shared word fits) kept
    ∙ (λ i. record (state_of word) { shared = shared_count word + 1; exclusive = sym free i })

pub state_of-put : (mode : LwMode) (word : ℕ) → IsHeldIn mode (state_of word) → state_of (word - amount_of mode) ≡ put_in mode (state_of word)
state_of-put Exclusive word held =
    let is = exclusive word held in
    with_holders word (put_word word) (shared_count word) false (put_word-flags word is) (put_word-shared word is) (put_word-free_to_share word is)
state_of-put Shared word held =
    let less : shared_count (unshared_word word) ≡ shared_count word - 1 = omega (arith, unshared_word-shared word held) in
    λ i. record {
      shared = less i;
      exclusive = nat_eq (unshared_word-exclusive word held i % 2) 1;
      list_locked = nat_eq (flags-list_locked word (unshared_word word) (unshared_word-flags word held) i % 2) 1;
      release_ok = nat_eq (flags-release_ok word (unshared_word word) (unshared_word-flags word held) i % 2) 1;
      has_waiters = nat_eq (flags-has_waiters word (unshared_word word) (unshared_word-flags word held) i % 2) 1;
    }

-- a lightweight word stays one
pub IsLightweightWord-taken : (mode : LwMode) (word : ℕ) → HasRoomFor mode (state_of word) → IsFreeFor mode (state_of word) → IsLightweightWord word → IsLightweightWord (word + amount_of mode)
IsLightweightWord-taken Exclusive word room free is =
    IsLightweightWord-flags word (taken_word word) (taken_word-flags word (nobody-from word (not_exclusive word free.0) free.1)) is
IsLightweightWord-taken Shared word room free is = IsLightweightWord-flags word (shared_word word) (shared_word-flags word (omega (arith, room))) is

pub IsLightweightWord-put : (mode : LwMode) (word : ℕ) → IsHeldIn mode (state_of word) → IsLightweightWord word → IsLightweightWord (word - amount_of mode)
IsLightweightWord-put Exclusive word held is = IsLightweightWord-flags word (put_word word) (put_word-flags word (exclusive word held)) is
IsLightweightWord-put Shared word held is = IsLightweightWord-flags word (unshared_word word) (unshared_word-flags word held) is

-- whoever holds it stands in the number
pub held-amount : (mode : LwMode) (word : ℕ) → IsHeldIn mode (state_of word) → amount_of mode ≤ word
held-amount Exclusive word held = let is = exclusive word held in omega (arith, is)
held-amount Shared word held = omega (arith, held)

-- The flags.

pub state_of-list_locked : (word : ℕ) → state_of (list_locked_word word) ≡ record (state_of word) { list_locked = true }
state_of-list_locked word = λ i. record {
  shared = holders-shared word (list_locked_word word) (list_locked_word-holders word) i;
  exclusive = nat_eq (holders-exclusive word (list_locked_word word) (list_locked_word-holders word) i) 1;
  list_locked = nat_eq (list_locked_word-locked word i) 1;
  release_ok = nat_eq (list_locked_word-release_ok word i) 1;
  has_waiters = nat_eq (list_locked_word-has_waiters word i) 1;
}

pub state_of-release_ok : (word : ℕ) → state_of (release_ok_word word) ≡ record (state_of word) { release_ok = true }
state_of-release_ok word = λ i. record {
  shared = holders-shared word (release_ok_word word) (release_ok_word-holders word) i;
  exclusive = nat_eq (holders-exclusive word (release_ok_word word) (release_ok_word-holders word) i) 1;
  list_locked = nat_eq (release_ok_word-list_locked word i) 1;
  release_ok = nat_eq (release_ok_word-release_ok word i) 1;
  has_waiters = nat_eq (release_ok_word-has_waiters word i) 1;
}

pub state_of-has_waiters : (word : ℕ) → state_of (has_waiters_word word) ≡ record (state_of word) { has_waiters = true }
state_of-has_waiters word = λ i. record {
  shared = holders-shared word (has_waiters_word word) (has_waiters_word-holders word) i;
  exclusive = nat_eq (holders-exclusive word (has_waiters_word word) (has_waiters_word-holders word) i) 1;
  list_locked = nat_eq (has_waiters_word-list_locked word i) 1;
  release_ok = nat_eq (has_waiters_word-release_ok word i) 1;
  has_waiters = nat_eq (has_waiters_word-has_waiters word i) 1;
}

-- unlocking, after the flags to be set were set
pub state_of-unlocked : (word : ℕ) (waiters release : Bool) → state_of (list_unlocked_word (bit_or word (flag_bits waiters release)) waiters release) ≡ record (state_of word) { list_locked = false; release_ok = release; has_waiters = waiters }
state_of-unlocked word waiters release = at waiters release where
  flagged : Bool → Bool → ℕ
  flagged w r = bit_or word (flag_bits w r)

  holders : (w r : Bool) → HoldersStay word (flagged w r)
  holders true true = or-below word (flag_bits true true) 25 refl
  holders true false = or-below word (flag_bits true false) 25 refl
  holders false true = or-below word (flag_bits false true) 25 refl
  holders false false = or-below word (flag_bits false false) 25 refl

  both : (w r : Bool) → HoldersStay word (list_unlocked_word (flagged w r) w r)
  both w r = list_unlocked_word-holders (flagged w r) w r ∙ holders w r

  release_set : (w r : Bool) → list_unlocked_word (flagged w r) w r / 2 ^ 29 % 2 ≡ bit r
  release_set true true = list_unlocked_word-release_ok (flagged true true) true ∙ or-set word (flag_bits true true) 29 refl
  release_set false true = list_unlocked_word-release_ok (flagged false true) false ∙ or-set word (flag_bits false true) 29 refl
  release_set w false = list_unlocked_word-not_release_ok (flagged w false) w

  waiters_set : (w r : Bool) → list_unlocked_word (flagged w r) w r / 2 ^ 30 % 2 ≡ bit w
  waiters_set true true = list_unlocked_word-has_waiters (flagged true true) true ∙ or-set word (flag_bits true true) 30 refl
  waiters_set true false = list_unlocked_word-has_waiters (flagged true false) false ∙ or-set word (flag_bits true false) 30 refl
  waiters_set false r = list_unlocked_word-no_waiters (flagged false r) r

  at : (w r : Bool) → state_of (list_unlocked_word (flagged w r) w r) ≡ record (state_of word) { list_locked = false; release_ok = r; has_waiters = w }
  at w r = with_flags word (list_unlocked_word (flagged w r) w r) false r w (both w r) (list_unlocked_word-list_locked (flagged w r) w r) (release_set w r) (waiters_set w r)

-- the number of what a word says
pub number_is : (word : ℕ) (state : LockState) → IsLightweightWord word → state_of word ≡ state → word_of state ≡ word
number_is word state is says = ap word_of (sym says) ∙ word_of-state_of word is
