use Rattle.std.proofs.Common.{◌≡◌, ℕ, ◌+◌, ◌*◌, ◌/◌, ◌%◌, ◌^◌, ◌<◌, arith, nat_eq, ap, ◌∙◌}
use Rattle.lw_word.specs.LightweightWord.{IsLightweightWord, IsHeldByNobody, IsHeldExclusively, IsFreeToShare, shared_count, taken_word, put_word, shared_word, unshared_word, FlagsStay, HoldersStay, bit}
use Rattle.lw_word.specs.LockState.{LockState, word_of, state_of}
use Rattle.lw_word.proofs.Lemmas.Bits.{bit-lt, test-bit}

-- What each change of a lightweight word does to who holds it, and that it touches nothing else.

-- A word that nobody holds doesn't show an exclusive holder, and no sharer.
pub nobody-not_exclusive : (word : ℕ) → IsHeldByNobody word → IsHeldExclusively word → ⊥
nobody-not_exclusive word free held = omega arith

pub nobody-shared : (word : ℕ) → IsHeldByNobody word → shared_count word ≡ 0
nobody-shared word free = omega arith

pub nobody-from : (word : ℕ) → IsFreeToShare word → shared_count word ≡ 0 → IsHeldByNobody word
nobody-from word free none = omega arith

-- Either somebody holds it exclusively or nobody does.
pub free_to_share-not_exclusive : (word : ℕ) → IsFreeToShare word → IsHeldExclusively word → ⊥
free_to_share-not_exclusive word free held = omega arith

-- Taking it exclusively.

pub taken_word-exclusive : (word : ℕ) → IsHeldByNobody word → IsHeldExclusively (taken_word word)
taken_word-exclusive word free = omega arith

pub taken_word-shared : (word : ℕ) → IsHeldByNobody word → shared_count (taken_word word) ≡ 0
taken_word-shared word free = omega arith

pub taken_word-flags : (word : ℕ) → IsHeldByNobody word → FlagsStay word (taken_word word)
taken_word-flags word free = omega arith

-- Putting it.

pub put_word-not_exclusive : (word : ℕ) → IsHeldExclusively word → IsHeldExclusively (put_word word) → ⊥
put_word-not_exclusive word held after = omega arith

pub put_word-free_to_share : (word : ℕ) → IsHeldExclusively word → IsFreeToShare (put_word word)
put_word-free_to_share word held = omega arith

pub put_word-shared : (word : ℕ) → IsHeldExclusively word → shared_count (put_word word) ≡ shared_count word
put_word-shared word held = omega arith

pub put_word-flags : (word : ℕ) → IsHeldExclusively word → FlagsStay word (put_word word)
put_word-flags word held = omega arith

-- Sharing it.

pub shared_word-shared : (word : ℕ) → shared_count word + 1 < 2 ^ 24 → shared_count (shared_word word) ≡ shared_count word + 1
shared_word-shared word room = omega arith

pub shared_word-exclusive : (word : ℕ) → shared_count word + 1 < 2 ^ 24 → shared_word word / 2 ^ 24 ≡ word / 2 ^ 24
shared_word-exclusive word room = omega arith

pub shared_word-flags : (word : ℕ) → shared_count word + 1 < 2 ^ 24 → FlagsStay word (shared_word word)
shared_word-flags word room = omega arith

-- Sharing it no more.

pub unshared_word-shared : (word : ℕ) → 0 < shared_count word → shared_count (unshared_word word) + 1 ≡ shared_count word
unshared_word-shared word held = omega arith

pub unshared_word-exclusive : (word : ℕ) → 0 < shared_count word → unshared_word word / 2 ^ 24 ≡ word / 2 ^ 24
unshared_word-exclusive word held = omega arith

pub unshared_word-flags : (word : ℕ) → 0 < shared_count word → FlagsStay word (unshared_word word)
unshared_word-flags word held = omega arith

-- What says that the flags stay says that each one does.

pub flags-list_locked : (old new : ℕ) → FlagsStay old new → new / 2 ^ 28 ≡ old / 2 ^ 28
flags-list_locked old new stay = omega arith

pub flags-release_ok : (old new : ℕ) → FlagsStay old new → new / 2 ^ 29 ≡ old / 2 ^ 29
flags-release_ok old new stay = omega arith

pub flags-has_waiters : (old new : ℕ) → FlagsStay old new → new / 2 ^ 30 ≡ old / 2 ^ 30
flags-has_waiters old new stay = omega arith

-- What says that the holders stay says it of the sharers and of the exclusive one.

pub holders-shared : (old new : ℕ) → HoldersStay old new → shared_count new ≡ shared_count old
holders-shared old new stay = omega arith

pub holders-exclusive : (old new : ℕ) → HoldersStay old new → new / 2 ^ 24 % 2 ≡ old / 2 ^ 24 % 2
holders-exclusive old new stay = omega arith

-- A word stays a lightweight word as long as its flags stay.
pub IsLightweightWord-flags : (old new : ℕ) → FlagsStay old new → IsLightweightWord old → IsLightweightWord new
IsLightweightWord-flags old new stay is = record { below = omega (arith, is.below); none_between = ap (λ high. high % 2 ^ 3) stay ∙ is.none_between }

-- the parts of a packed word
low_part : (s e l r w : ℕ) → s < 2 ^ 24 → e < 2 → l < 2 → r < 2 → w < 2 → (s + e * 2 ^ 24 + l * 2 ^ 28 + r * 2 ^ 29 + w * 2 ^ 30) % 2 ^ 24 ≡ s
low_part s e l r w s_fits e_fits l_fits r_fits w_fits = omega arith

exclusive_part : (s e l r w : ℕ) → s < 2 ^ 24 → e < 2 → l < 2 → r < 2 → w < 2 → (s + e * 2 ^ 24 + l * 2 ^ 28 + r * 2 ^ 29 + w * 2 ^ 30) / 2 ^ 24 % 2 ≡ e
exclusive_part s e l r w s_fits e_fits l_fits r_fits w_fits = omega arith

list_part : (s e l r w : ℕ) → s < 2 ^ 24 → e < 2 → l < 2 → r < 2 → w < 2 → (s + e * 2 ^ 24 + l * 2 ^ 28 + r * 2 ^ 29 + w * 2 ^ 30) / 2 ^ 28 % 2 ≡ l
list_part s e l r w s_fits e_fits l_fits r_fits w_fits = omega arith

release_part : (s e l r w : ℕ) → s < 2 ^ 24 → e < 2 → l < 2 → r < 2 → w < 2 → (s + e * 2 ^ 24 + l * 2 ^ 28 + r * 2 ^ 29 + w * 2 ^ 30) / 2 ^ 29 % 2 ≡ r
release_part s e l r w s_fits e_fits l_fits r_fits w_fits = omega arith

waiters_part : (s e l r w : ℕ) → s < 2 ^ 24 → e < 2 → l < 2 → r < 2 → w < 2 → (s + e * 2 ^ 24 + l * 2 ^ 28 + r * 2 ^ 29 + w * 2 ^ 30) / 2 ^ 30 % 2 ≡ w
waiters_part s e l r w s_fits e_fits l_fits r_fits w_fits = omega arith

pub state_of-word_of : (state : LockState) → state.shared < 2 ^ 24 → state_of (word_of state) ≡ state
state_of-word_of state fits = λ i. record {
  shared = low_part s e l r w fits (bit-lt state.exclusive) (bit-lt state.list_locked) (bit-lt state.release_ok) (bit-lt state.has_waiters) i;
  exclusive = (ap (λ n. nat_eq n 1) (exclusive_part s e l r w fits (bit-lt state.exclusive) (bit-lt state.list_locked) (bit-lt state.release_ok) (bit-lt state.has_waiters)) ∙ test-bit state.exclusive) i;
  list_locked = (ap (λ n. nat_eq n 1) (list_part s e l r w fits (bit-lt state.exclusive) (bit-lt state.list_locked) (bit-lt state.release_ok) (bit-lt state.has_waiters)) ∙ test-bit state.list_locked) i;
  release_ok = (ap (λ n. nat_eq n 1) (release_part s e l r w fits (bit-lt state.exclusive) (bit-lt state.list_locked) (bit-lt state.release_ok) (bit-lt state.has_waiters)) ∙ test-bit state.release_ok) i;
  has_waiters = (ap (λ n. nat_eq n 1) (waiters_part s e l r w fits (bit-lt state.exclusive) (bit-lt state.list_locked) (bit-lt state.release_ok) (bit-lt state.has_waiters)) ∙ test-bit state.has_waiters) i;
} where
  s : ℕ
  s = state.shared

  e : ℕ
  e = bit state.exclusive

  l : ℕ
  l = bit state.list_locked

  r : ℕ
  r = bit state.release_ok

  w : ℕ
  w = bit state.has_waiters

pub IsLightweightWord-word_of : (state : LockState) → state.shared < 2 ^ 24 → IsLightweightWord (word_of state)
IsLightweightWord-word_of state fits =
    let e = bit-lt state.exclusive in
    let l = bit-lt state.list_locked in
    let r = bit-lt state.release_ok in
    let w = bit-lt state.has_waiters in
    record { below = omega (arith, fits, e, l, r, w); none_between = omega (arith, fits, e, l, r, w) }
