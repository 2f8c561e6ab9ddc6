use Rattle.std.specs.Prelude.{ℕ, ◌==◌, Bool, List, length, take, drop, position}
use Rattle.std.specs.Char.{is_ascii_whitespace}
use Rattle.std.specs.List.{after_first, before_first}
use Rattle.std.specs.Option.{unwrap_or}
use Rattle.std.specs.Str.{trim_start}

-- The words of a line that says SQL, one after another.

-- where the first word of a text ends, if the text begins with that word
abbrev pub word_end : List ℕ → ℕ
word_end text = unwrap_or (position is_ascii_whitespace text) (length text)

-- the first word of a text
abbrev pub first_word : List ℕ → List ℕ
first_word text = take (word_end (trim_start text)) (trim_start text)

-- what comes after the first word of a text
abbrev pub behind_word : List ℕ → List ℕ
behind_word text = drop (word_end (trim_start text)) (trim_start text)

-- whether a byte is a semicolon
abbrev pub is_semicolon : ℕ → Bool
is_semicolon b = b == 59

-- a word up to a semicolon in it
abbrev pub before_semicolon : List ℕ → List ℕ
before_semicolon word = before_first is_semicolon word

-- what comes behind the first semicolon of a word, or nothing where it has none
abbrev pub behind_semicolon : List ℕ → List ℕ
behind_semicolon word = after_first is_semicolon word

-- whether no word stands in a text
abbrev pub is_blank : List ℕ → Bool
is_blank text = length (first_word text) == 0
