use Rattle.std.specs.Prelude.{ℕ, ◌+◌, ◌-◌, ◌*◌, ◌/◌, ◌%◌, ◌^◌, Bool, not, ◌==◌, ◌&&◌, bit_and, bit_or, if◌then◌else◌}
use Rattle.std.specs.Int.{bit_at}
use Rattle.modes_core.specs.declared.modes.Mode.{Mode}
use Rattle.modes_core.specs.Mode.{number_of}

-- A fast-path slot's word as a number: the relation in bits 0 to 31, and bits 32, 33 and 34 for the modes 1,
-- 2 and 3 (`fpRelId` and `fpLockBits` of a PGPROC, which PostgreSQL keeps apart). A slot with no mode bit is
-- empty, whatever else its word has.

-- the relation of a slot in use
abbrev pub relation_in : ℕ → ℕ
relation_in word = word % 2 ^ 32

-- the mode bits, moved down to 0 to 2
abbrev pub mode_bits : ℕ → ℕ
mode_bits word = word / 2 ^ 32 % 2 ^ 3

-- whether the slot is in use
abbrev pub in_use : ℕ → Bool
in_use word = not (mode_bits word == 0)

-- whether the mode's bit is set; modes from 4 on have none
abbrev pub has_mode : ℕ → Mode → Bool
has_mode word mode = bit_at (mode_bits word) (number_of mode - 1) == 1

-- whether the slot shows that its session holds this mode of the relation
abbrev pub shows : ℕ → ℕ → Mode → Bool
shows word relation mode = has_mode word mode && relation_in word == relation

-- the word of this relation with these mode bits
abbrev pub slot_word : ℕ → ℕ → ℕ
slot_word relation bits = relation + bits * 2 ^ 32

-- the bit of a mode among the mode bits
abbrev pub mode_bit : Mode → ℕ
mode_bit mode = 2 ^ (number_of mode - 1)

-- the word with this mode of the relation
abbrev pub word_with : ℕ → ℕ → Mode → ℕ
word_with word relation mode = slot_word relation (bit_or (mode_bits word) (mode_bit mode))

-- the mode bits but this one
abbrev pub bits_without : ℕ → Mode → ℕ
bits_without word mode = bit_and (mode_bits word) (2 ^ 3 - 1 - mode_bit mode)

-- the word without this mode: an emptied slot's is 0
abbrev pub word_without : ℕ → Mode → ℕ
word_without word mode =
    if bits_without word mode == 0 then 0 else slot_word (relation_in word) (bits_without word mode)
