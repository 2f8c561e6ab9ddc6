use Rattle.std.specs.Prelude.{ℕ, ◌==◌, ◌||◌, ◌&&◌, nat_le, Bool, not}
use Rattle.sql_locks.specs.declared.byte_classes.ByteClass.{ByteClass}
use Rattle.sql_locks.specs.declared.byte_classes.ByteClass.TheVariants.{Blank, Digit, Number, Operator, Name, Tag, Line}

-- the byte that ends a line
abbrev pub is_line_feed : ℕ → Bool
is_line_feed b = b == 10

-- whether the byte is one from the low one to the high one
abbrev pub is_between : ℕ → ℕ → ℕ → Bool
is_between low high b = nat_le low b && nat_le b high

-- a letter of ASCII, a digit or an underscore
abbrev pub is_ascii_name_byte : ℕ → Bool
is_ascii_name_byte b = is_between 48 57 b || (is_between 65 90 b || (is_between 97 122 b || (b == 95)))

-- one of + - * / < > = ~ ! @ # % ^ & | ` ?
abbrev pub is_operator_byte : ℕ → Bool
is_operator_byte b = (b == 43) || ((b == 45) || ((b == 42) || ((b == 47) || ((b == 60) || ((b == 62) || ((b == 61) || ((b == 126) || ((b == 33) || ((b == 64) || ((b == 35) || ((b == 37) || ((b == 94) || ((b == 38) || ((b == 124) || ((b == 96) || ((b == 63)))))))))))))))))

-- whether a byte is of this class
abbrev pub is_in_class : ByteClass → ℕ → Bool
is_in_class Blank b = (b == 32) || is_between 9 13 b
is_in_class Digit b = is_between 48 57 b
is_in_class Number b = is_ascii_name_byte b || (b == 46)
is_in_class Operator b = is_operator_byte b
is_in_class Name b = is_ascii_name_byte b || ((b == 36) || nat_le 128 b)
is_in_class Tag b = is_ascii_name_byte b || nat_le 128 b
is_in_class Line b = not (b == 10)
