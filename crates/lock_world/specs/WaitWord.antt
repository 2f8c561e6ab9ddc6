use Rattle.std.specs.Prelude.{ℕ, ◌+◌, ◌/◌, ◌%◌, Bool, ◌==◌, bit_or}

-- A session's wait word: bits 0 to 1 are 0 where it doesn't wait, 1 where it waits and 2 where its wait was
-- granted (waitStatus in proc.h), and bit 2 is set where it was asked to cancel (QueryCancelPending in
-- globals.c).

-- bits 0 to 1
abbrev pub wait_state : ℕ → ℕ
wait_state word = word % 4

-- whether it was asked to cancel
abbrev pub is_asked : ℕ → Bool
is_asked word = word / 4 % 2 == 1

-- the word with bit 2 set
abbrev pub asked_word : ℕ → ℕ
asked_word word = bit_or word 4

-- the word of a session that waits, from now on granted: 1 more
abbrev pub granted_word : ℕ → ℕ
granted_word word = word + 1
