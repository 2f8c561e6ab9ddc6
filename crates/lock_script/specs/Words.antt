use Rattle.std.specs.Prelude.{ℕ, ◌==◌, ◌||◌, ◌&&◌, nat_le, nat_lt, Bool, if◌then◌else◌, List, [], ◌∷◌, length, map, filter, Option, Some, None, codes}
use Rattle.std.specs.Str.{bytes_eq}
use Rattle.std.specs.List.{list_all, slice_split}
use Rattle.std.specs.Char.{is_ascii_digit}
use Rattle.std.specs.Str.Parse.{digits_value}
use Rattle.modes_core.specs.declared.sessions.Owner.{Owner}
use Rattle.modes_core.specs.declared.sessions.Owner.TheVariants.{Session}
use Rattle.modes_core.specs.declared.tags.Tag.{Tag}
use Rattle.modes_core.specs.declared.tags.Tag.TheVariants.{Relation, Object, Advisory}

-- a space or a tab
abbrev pub is_blank : ℕ → Bool
is_blank b = (b == 32) || (b == 9)

-- whether there is something between two blanks
abbrev pub is_word : List ℕ → Bool
is_word part = nat_le 1 (length part)

-- the words of a line: what stands between its blanks, where it is not empty
abbrev pub words_of : List ℕ → List (List ℕ)
words_of line = filter is_word (slice_split is_blank line)

-- a small letter, a digit or an underscore
abbrev pub is_name_byte : ℕ → Bool
is_name_byte b = (nat_le 97 b && nat_le b 122) || ((nat_le 48 b && nat_le b 57) || (b == 95))

-- 1 to 16 small letters, digits and underscores
abbrev pub is_name : List ℕ → Bool
is_name word = nat_le 1 (length word) && (nat_le (length word) 16 && list_all is_name_byte word)

-- 1 to 10 decimal digits
abbrev pub is_short_numeral : List ℕ → Bool
is_short_numeral word = nat_le 1 (length word) && (nat_le (length word) 10 && list_all is_ascii_digit word)

-- the number that a word is, where it is 1 to 10 decimal digits and at most 4294967295
abbrev pub number_in : List ℕ → Option ℕ
number_in word =
    if is_short_numeral word && nat_le (digits_value 10 word) 4294967295 then Some (digits_value 10 word) else None

-- a number below 1,024
abbrev pub strong_index : Option ℕ → Option ℕ
strong_index (Some number) = if nat_lt number 1024 then Some number else None
strong_index None = None

-- the strong lock counter that a word is the index of
abbrev pub strong_index_in : List ℕ → Option ℕ
strong_index_in word = strong_index (number_in word)

-- the byte between the numbers of a tag
abbrev pub is_slash : ℕ → Bool
is_slash b = b == 47

-- Two numbers are a relation, four an object whose sub-object is at most 65535.
abbrev pub tag_of_numbers : List (Option ℕ) → Option Tag
tag_of_numbers (Some database ∷ Some relation ∷ []) = Some (Relation database relation)
tag_of_numbers (Some database ∷ Some class ∷ Some object ∷ Some sub_object ∷ []) =
    if nat_le sub_object 65535 then Some (Object sub_object database class object) else None
tag_of_numbers _ = None

-- Four numbers, of which the last one is at most 65535, are what an advisory lock is on.
abbrev pub advisory_of_numbers : List (Option ℕ) → Option Tag
advisory_of_numbers (Some database ∷ Some key1 ∷ Some key2 ∷ Some sub ∷ []) =
    if nat_le sub 65535 then Some (Advisory sub database key1 key2) else None
advisory_of_numbers _ = None

-- the tag that is written by these parts: behind the word `adv` an advisory lock's, else a relation's or an
-- object's
abbrev pub tag_of_parts : List (List ℕ) → Option Tag
tag_of_parts [] = None
tag_of_parts (first ∷ others) =
    if bytes_eq first (codes "adv") then advisory_of_numbers (map number_in others)
    else tag_of_numbers (map number_in (first ∷ others))

-- the tag that a word is, by what stands between its slashes
abbrev pub tag_of : List ℕ → Option Tag
tag_of word = tag_of_parts (slice_split is_slash word)

-- the owner that a word names
abbrev pub owner_of : List ℕ → Option Owner
owner_of word = if bytes_eq word (codes "session") then Some Session else None
