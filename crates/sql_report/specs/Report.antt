use Rattle.std.specs.Prelude.{◌≡◌, ℕ, Bool, true, List, ◌++◌, map, filter, All, String, string_bytes}
use Rattle.std.specs.Global.{Global}
use Rattle.modes_core.specs.declared.modes.Mode.{Mode}
use Rattle.modes_core.specs.ModeSet.{set_has}
use Rattle.sql_locks.specs.declared.catalog.Link.{Link}
use Rattle.sql_locks.specs.declared.catalog.Relation.{Relation}
use Rattle.sql_locks.specs.declared.locks.Act.{Act}
use Rattle.sql_locks.specs.declared.locks.Lock.{Lock}
use Rattle.sql_report.specs.Outcome.{keep_waiting, AreLocksOfActs}
use Rattle.sql_report.specs.declared.report.Answer.{Answer}
use Rattle.sql_statements.specs.Statements.{AreStatementsOf, IsPlaced}
use Rattle.sql_statements.specs.declared.statements.SqlStatement.{SqlStatement}
use Rattle.sql_statements.specs.declared.reader.Control.{Control}
use Rattle.sql_statements.specs.declared.reader.Control.TheVariants.{Stay, Begin, Commit, Rollback, Savepoint}

-- the line on which the statement of an answer begins
abbrev pub line_of : Answer → ℕ
line_of answer = answer.line

-- the line on which a statement begins
abbrev pub line_of_statement : SqlStatement → ℕ
line_of_statement statement = statement.line

-- what is printed of a statement
abbrev pub text_of : Answer → List ℕ
text_of answer = string_bytes answer.text

-- Locks are those of some forms over some relations and links, and modes are those that these locks keep
-- waiting.
abbrev pub CameTo : List Lock → ℕ → Type 0
CameTo locks stopped =
    (relations : List Relation) × (links : List Link) × (acts : List Act) × AreLocksOfActs links acts locks
    × ((mode : Mode) → set_has stopped mode ≡ keep_waiting relations locks mode)

-- an answer has the locks of some forms, and the modes that these keep waiting
abbrev pub IsAnswer : Answer → Type 0
IsAnswer answer = CameTo answer.locks.items answer.stopped

-- Answers are those of the statements of a text: of each one, in their order, with its line.
abbrev pub AreAnswersOf : List ℕ → List Answer → Type 0
AreAnswersOf text answers =
    (statements : List SqlStatement) × AreStatementsOf text statements × All IsPlaced statements
    × (map line_of answers ≡ map line_of_statement statements) × All IsAnswer answers

-- the lines of the statements that keep a mode waiting, in their order
abbrev pub lines_that_stop : Mode → List Answer → List ℕ
lines_that_stop mode answers = map line_of (filter (λ answer. set_has answer.stopped mode) answers)

-- whether a text begins with another one
abbrev pub BeginsWith : {A : Type 0} → List ℕ → String A → Type 0
BeginsWith front text = (behind : List ℕ) × (string_bytes text ≡ front ++ behind)

-- whether a transaction is open after a statement, where all statements are one transaction if `is_single`
abbrev pub transaction_after : Bool → Bool → Control → Bool
transaction_after is_single was_open Stay = was_open
transaction_after is_single was_open Begin = true
transaction_after is_single was_open Commit = is_single
transaction_after is_single was_open Rollback = is_single
transaction_after is_single was_open Savepoint = was_open
