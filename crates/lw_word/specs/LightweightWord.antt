use Rattle.std.specs.Prelude.{◌≡◌, ℕ, ◌+◌, ◌-◌, ◌*◌, ◌/◌, ◌%◌, ◌^◌, ◌<◌, Bool, true, false, not, bit_and, bit_or}

-- A lightweight lock's word as a number: bits 0 to 23 count the sessions that hold it shared, bit 24 is set
-- where one holds it exclusively, bit 28 where its wait list is locked, bit 29 is release-ok, and bit 30 is
-- has-waiters (LW_VAL_EXCLUSIVE and the flags in lwlock.c).

-- the number has these bits and no others
pub record IsLightweightWord (word : ℕ) : Type 0 where
  pub below : word < 2 ^ 31
  pub none_between : word / 2 ^ 25 % 2 ^ 3 ≡ 0

-- the word as it opens: held by nobody, with release-ok
abbrev pub free_word : ℕ
free_word = 2 ^ 29

-- Who holds the lock.

-- held by nobody, neither exclusively nor shared
abbrev pub IsHeldByNobody : ℕ → Type 0
IsHeldByNobody word = word % 2 ^ 25 ≡ 0

-- held by one session exclusively
abbrev pub IsHeldExclusively : ℕ → Type 0
IsHeldExclusively word = word / 2 ^ 24 % 2 ≡ 1

-- held exclusively by nobody, so that it may be taken shared
abbrev pub IsFreeToShare : ℕ → Type 0
IsFreeToShare word = word / 2 ^ 24 % 2 ≡ 0

-- how many hold it shared
abbrev pub shared_count : ℕ → ℕ
shared_count word = word % 2 ^ 24

-- the word with the exclusive bit set where it was not, and without it where it was
abbrev pub taken_word : ℕ → ℕ
taken_word word = word + 2 ^ 24

-- the word once its one exclusive holder has put it
abbrev pub put_word : ℕ → ℕ
put_word word = word - 2 ^ 24

-- the word with one sharer more
abbrev pub shared_word : ℕ → ℕ
shared_word word = word + 1

-- the word with one sharer less
abbrev pub unshared_word : ℕ → ℕ
unshared_word word = word - 1

-- The flags.

-- some session has the wait list in hand
abbrev pub IsListLocked : ℕ → Type 0
IsListLocked word = word / 2 ^ 28 % 2 ≡ 1

-- a release may wake waiters
abbrev pub IsReleaseOk : ℕ → Type 0
IsReleaseOk word = word / 2 ^ 29 % 2 ≡ 1

-- somebody may be in the wait list
abbrev pub HasWaiters : ℕ → Type 0
HasWaiters word = word / 2 ^ 30 % 2 ≡ 1

-- the word with a flag set, whether it was set or not
abbrev pub list_locked_word : ℕ → ℕ
list_locked_word word = bit_or word (2 ^ 28)

-- the word with release-ok set
abbrev pub release_ok_word : ℕ → ℕ
release_ok_word word = bit_or word (2 ^ 29)

-- the word with has-waiters set
abbrev pub has_waiters_word : ℕ → ℕ
has_waiters_word word = bit_or word (2 ^ 30)

-- 1 for true, 0 for false
abbrev pub bit : Bool → ℕ
bit true = 1
bit false = 0

-- the bits of has-waiters and release-ok, each where it is set
abbrev pub flag_bits : Bool → Bool → ℕ
flag_bits has_waiters release_ok = bit has_waiters * 2 ^ 30 + bit release_ok * 2 ^ 29

-- the bits that stay where a wait list is unlocked: all but the list's own, and each flag only where it is to
-- stay
abbrev pub kept_bits : Bool → Bool → ℕ
kept_bits has_waiters release_ok = 2 ^ 64 - 1 - (2 ^ 28 + flag_bits (not has_waiters) (not release_ok))

-- the word with the wait list unlocked, and each flag only where it was set and is to stay
abbrev pub list_unlocked_word : ℕ → Bool → Bool → ℕ
list_unlocked_word word has_waiters release_ok = bit_and word (kept_bits has_waiters release_ok)

-- the word with the wait list unlocked and the two flags as these values say
abbrev pub flagged_and_unlocked_word : ℕ → Bool → Bool → ℕ
flagged_and_unlocked_word word has_waiters release_ok =
    list_unlocked_word (bit_or word (flag_bits has_waiters release_ok)) has_waiters release_ok

-- What a change of the word leaves alone.

-- the flags, and all other bits from 25 on
abbrev pub FlagsStay : ℕ → ℕ → Type 0
FlagsStay old new = new / 2 ^ 25 ≡ old / 2 ^ 25

-- who holds the lock
abbrev pub HoldersStay : ℕ → ℕ → Type 0
HoldersStay old new = new % 2 ^ 25 ≡ old % 2 ^ 25
