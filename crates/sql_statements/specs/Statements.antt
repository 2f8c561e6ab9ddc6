use Rattle.std.specs.Prelude.{◌≡◌, ℕ, Bool, true, false, List, [], ◌∷◌, map, filter, All, string_bytes}
use Rattle.std.specs.List.{flat_map}
use Rattle.sql_locks.specs.Words.{text_of, AreNumbered, IsWord}
use Rattle.sql_locks.specs.declared.words.Word.{Word}
use Rattle.sql_locks.specs.declared.words.WordKind.{WordKind}
use Rattle.sql_locks.specs.declared.words.WordKind.TheVariants.{Blank, Comment, Name, QuotedName, Text, Number, Parameter, Operator, Mark, Semicolon, Rows}
use Rattle.sql_statements.specs.declared.cursor.SqlWord.{SqlWord}
use Rattle.sql_statements.specs.declared.statements.SqlStatement.{SqlStatement}

-- whether words of a kind say something: blanks, comments, the rows of a COPY and semicolons do not
abbrev pub says : WordKind → Bool
says Blank = false
says Comment = false
says Rows = false
says Semicolon = false
says _ = true

-- the words of a text that say something, each with its line
abbrev pub said_of : List Word → List (ℕ × List ℕ)
said_of words = map (λ word. (word.line, text_of word)) (filter (λ word. says word.kind) words)

-- the words of a statement that say something, each with its line
abbrev pub kept_of : List SqlWord → List (ℕ × List ℕ)
kept_of words = map (λ word. (word.line, string_bytes word.text)) (filter (λ word. says word.kind) words)

-- the words of all statements that say something, one statement after another, each with its line
abbrev pub kept_of_all : List SqlStatement → List (ℕ × List ℕ)
kept_of_all statements = flat_map (λ statement. kept_of statement.words.items) statements

-- Statements are those of a text: their words are all of its words that say something, in their order, each
-- once and with its line.
abbrev pub AreStatementsOf : List ℕ → List SqlStatement → Type 0
AreStatementsOf text statements =
    (words : List Word) × (flat_map text_of words ≡ text) × AreNumbered 1 words × All IsWord words
    × (kept_of_all statements ≡ said_of words)

-- a line is that of the first of these words
abbrev pub IsLineOf : ℕ → List SqlWord → Type 0
IsLineOf line [] = ⊥
IsLineOf line (word ∷ words) = line ≡ word.line

-- a statement has words, and begins on the line of the first
abbrev pub IsPlaced : SqlStatement → Type 0
IsPlaced statement = IsLineOf statement.line statement.words.items
