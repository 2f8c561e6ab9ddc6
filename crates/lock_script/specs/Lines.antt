use Rattle.std.specs.Prelude.{◌≡◌, ℕ, ◌+◌, ◌<◌, ◌==◌, ◌||◌, ◌&&◌, nat_le, nat_lt, Bool, if◌then◌else◌, List, [], ◌∷◌, length, ⊤, Option, Some, None, Result, Ok, Err}
use Rattle.std.specs.List.{before_first, after_first, list_all}
use Rattle.std.specs.Str.Lines.{strip_carriage_return}
use Rattle.lock_script.specs.declared.faults.Defect.{Defect}
use Rattle.lock_script.specs.declared.faults.Defect.TheVariants.{TooManyLines, LineTooLong, NotAsciiText}
use Rattle.lock_script.specs.declared.faults.Fault.{Fault}
use Rattle.lock_script.specs.declared.faults.Fault.TheVariants.{BadLine, ReadFailed, WriteFailed, NoMemory, GateHeld}

-- the byte that ends a line
abbrev pub is_line_feed : ℕ → Bool
is_line_feed b = b == 10

-- a tab, or a printable character of ASCII
abbrev pub is_text_byte : ℕ → Bool
is_text_byte b = (b == 9) || (nat_le 32 b && nat_le b 126)

-- what stands before the first line feed, or all where there is none
abbrev pub first_line : List ℕ → List ℕ
first_line unread = before_first is_line_feed unread

-- what stands after the first line feed
abbrev pub after_line : List ℕ → List ℕ
after_line unread = after_first is_line_feed unread

-- the line's text: a carriage return at its end is dropped
abbrev pub text_of : List ℕ → List ℕ
text_of line = strip_carriage_return line

-- The next line of the bytes that are left, where this number of lines were read before: none at the end of
-- the input, what is wrong with it by the first check that fails, or its text.
abbrev pub reading_of : ℕ → List ℕ → Result (Option (List ℕ)) Defect
reading_of number [] = Ok None
reading_of number (b ∷ bytes) =
    if nat_le 1000000 number then Err TooManyLines
    else if nat_lt 1024 (length (first_line (b ∷ bytes))) then Err LineTooLong
    else if list_all is_text_byte (text_of (first_line (b ∷ bytes))) then Ok (Some (text_of (first_line (b ∷ bytes))))
    else Err NotAsciiText

-- What a call gave is that reading, or the reader failed. A bad line has the number after those read before.
abbrev pub Reads : Result (Option (List ℕ)) Fault → ℕ → Result (Option (List ℕ)) Defect → Type 0
Reads (Ok line) number reading = reading ≡ Ok line
Reads (Err (BadLine line what)) number reading = (line ≡ number + 1) × (reading ≡ Err what)
Reads (Err ReadFailed) number reading = ⊤
Reads (Err WriteFailed) number reading = ⊥
Reads (Err NoMemory) number reading = ⊥
Reads (Err GateHeld) number reading = ⊥

-- The first line was taken off the known bytes, and what stands after its line feed is left.
abbrev pub CutsLine : Option (List ℕ) → Option (List ℕ) → List ℕ → Type 0
CutsLine None left line = ⊤
CutsLine (Some unread) None line = ⊥
CutsLine (Some unread) (Some left) line = (line ≡ first_line unread) × (left ≡ after_line unread)

-- the first line of the known bytes is too long
abbrev pub HasLongLine : Option (List ℕ) → Type 0
HasLongLine None = ⊤
HasLongLine (Some unread) = 1024 < length (first_line unread)
