use Rattle.std.specs.Prelude.{◌≡◌, ℕ, ◌+◌, ◌-◌, ◌<◌, ◌≤◌, List, [], ◌∷◌, length, slice_index, count_by, true, ⊤}
use Rattle.std.specs.List.{list_all}
use Rattle.sql_locks.specs.Text.{is_line_feed, is_in_class}
use Rattle.sql_locks.specs.declared.byte_classes.ByteClass.TheVariants.{Name as NameByte, Number as NumberByte, Blank as BlankByte}
use Rattle.sql_locks.specs.declared.words.Word.{Word}
use Rattle.sql_locks.specs.declared.words.WordKind.{WordKind}
use Rattle.sql_locks.specs.declared.words.WordKind.TheVariants.{Blank, Comment, Name, QuotedName, Text, Number, Parameter, Operator, Mark, Semicolon, Rows}

-- the bytes of a word
abbrev pub text_of : Word → List ℕ
text_of word = word.text.now

-- a length of a part of this text, which is not empty
abbrev pub IsWithin : ℕ → List ℕ → Type 0
IsWithin n text = (0 < n) × (n ≤ length text)

-- what the words of a kind are made of, or end with
abbrev pub IsShape : WordKind → List ℕ → Type 0
IsShape Blank text = list_all (is_in_class BlankByte) text ≡ true
IsShape Comment text = ⊤
IsShape Name text = list_all (is_in_class NameByte) text ≡ true
IsShape QuotedName text = slice_index text (length text - 1) ≡ 34
IsShape Text text = ⊤
IsShape Number text = list_all (is_in_class NumberByte) text ≡ true
IsShape Parameter text = ⊤
IsShape Operator text = ⊤
IsShape Mark text = length text ≡ 1
IsShape Semicolon text = text ≡ 59 ∷ []
IsShape Rows text = ⊤

-- a word has some bytes, of its kind
abbrev pub IsWord : Word → Type 0
IsWord word = (0 < length (text_of word)) × IsShape word.kind (text_of word)

-- The first word begins on this line, and each further one on the line that the line feeds before it lead to.
abbrev pub AreNumbered : ℕ → List Word → Type 0
AreNumbered line [] = ⊤
AreNumbered line (word ∷ words) =
    (word.line ≡ line) × AreNumbered (line + count_by is_line_feed (text_of word)) words
