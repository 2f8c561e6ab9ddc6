use Rattle.std.specs.Prelude.{◌≡◌, ◌≢◌, ℕ, ◌+◌, ◌==◌, ◌||◌, List, take, drop, slice_index, count_by, true, false, ⊤}
use Rattle.sql_locks.specs.Text.{is_line_feed, is_in_class}
use Rattle.sql_locks.specs.declared.byte_classes.ByteClass.TheVariants.{Name, Blank, Digit, Operator, Tag}
use Rattle.sql_locks.specs.declared.faults.Defect.{Defect}
use Rattle.sql_locks.specs.declared.faults.Defect.TheVariants.{NotUtf8, UnendedText, UnendedName, UnendedDollarText, UnendedComment, UnendedRows, BackslashCommand, StrayCharacter, NoName, NoNameBehind, UnendedParenthesis, StrayParenthesis, UnendedBody, UnknownRelation, ViewCycle, UnknownStatement, UnknownAlteration, BadMode, RuledRelation}
use Rattle.sql_locks.specs.declared.faults.SqlFault.{SqlFault}
use Rattle.sql_locks.specs.declared.faults.SqlFault.TheVariants.{BadWord, NoMemory}

-- How a text begins whose first word has this defect: a quote or a prefix of one, a dollar, a slash, a
-- backslash, or a character that begins no word.
abbrev pub BeginsWith : Defect → ℕ → Type 0
BeginsWith NotUtf8 b = ⊥
BeginsWith UnendedText b = (is_in_class Name b || (b == 39)) ≡ true
BeginsWith UnendedName b = (is_in_class Name b || (b == 34)) ≡ true
BeginsWith UnendedDollarText b = b ≡ 36
BeginsWith UnendedComment b = b ≡ 47
BeginsWith UnendedRows b = ⊤
BeginsWith BackslashCommand b = b ≡ 92
BeginsWith StrayCharacter b =
    (is_in_class Blank b ≡ false) × (is_in_class Digit b ≡ false) × (is_in_class Operator b ≡ false)
    × (is_in_class Tag b ≡ false) × (b ≢ 59) × (b ≢ 40) × (b ≢ 41) × (b ≢ 44)
BeginsWith NoName b = ⊥
BeginsWith NoNameBehind b = ⊥
BeginsWith UnendedParenthesis b = ⊥
BeginsWith StrayParenthesis b = ⊥
BeginsWith UnendedBody b = ⊥
BeginsWith UnknownRelation b = ⊥
BeginsWith ViewCycle b = ⊥
BeginsWith UnknownStatement b = ⊥
BeginsWith UnknownAlteration b = ⊥
BeginsWith BadMode b = ⊥
BeginsWith RuledRelation b = ⊥

-- The rest of the text has this defect at its front.
abbrev pub HasDefect : Defect → List ℕ → Type 0
HasDefect what rest = BeginsWith what (slice_index rest 0)

-- A fault of a text: after this number of bytes comes a word that has the defect, on that line.
abbrev pub IsFaultOf : List ℕ → SqlFault → Type 0
IsFaultOf text (BadWord line what from) =
    HasDefect what (drop from text) × (line ≡ 1 + count_by is_line_feed (take from text))
IsFaultOf text NoMemory = ⊤
