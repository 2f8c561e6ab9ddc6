use Rattle.std.specs.Prelude.{◌≡◌, ⊤, ℕ, true, false, List, [], ◌∷◌, find, Option, None, Some, if◌then◌else◌, MatchBool, codes, string_bytes}
use Rattle.std.specs.Option.{option_and_then, option_map}
use Rattle.std.specs.Str.{bytes_eq}
use Rattle.modes_core.specs.declared.tags.Tag.{Tag}
use Rattle.sql_locks.specs.declared.forms.Awaits.TheVariants.{Writers}
use Rattle.sql_script.specs.Awaited.{awaited_by}
use Rattle.sql_script.specs.Known.{Known}
use Rattle.sql_script.specs.Turns.{AreTurnsOf, resumed_for}
use Rattle.sql_script.specs.Words.{before_semicolon, behind_semicolon, behind_word, first_word, is_blank}
use Rattle.sql_script.specs.declared.lines.Heard.{Heard}
use Rattle.sql_script.specs.declared.lines.Heard.TheVariants as heard_
use Rattle.sql_script.specs.declared.lines.Statements.{Statements}
use Rattle.sql_script.specs.declared.sessions.ScriptSession.{ScriptSession}
use Rattle.sql_script.specs.declared.sessions.Work.{Work}
use Rattle.sql_script.specs.declared.turns.Turn.{Turn}
use Rattle.sql_script.specs.declared.verbs.Verb.{Verb}
use Rattle.sql_script.specs.declared.verbs.Verb.TheVariants as verb

-- What is heard of a line of a script that speaks SQL.

-- what the first word of a line asks for
abbrev pub verb_of : List ℕ → Verb
verb_of word =
    if bytes_eq word (codes "schema") then verb.Schema
    else (if bytes_eq word (codes "do") then verb.Do
    else (if bytes_eq word (codes "work") then verb.Work
    else (if bytes_eq word (codes "done") then verb.Done
    else (if bytes_eq word (codes "session") then verb.Session
    else (if bytes_eq word (codes "close") then verb.Close
    else (if bytes_eq word (codes "commit") then verb.Ends
    else (if bytes_eq word (codes "abort") then verb.Ends
    else verb.Other)))))))

-- the session of this name
abbrev pub session_called : List ScriptSession → List ℕ → Option ScriptSession
session_called sessions name = find (λ session. bytes_eq (string_bytes session.name) name) sessions

-- the database of the session of this name
abbrev pub database_called : List ScriptSession → List ℕ → Option ℕ
database_called sessions name = option_map (λ session. session.database) (session_called sessions name)

-- the statement at which the session of this name works
abbrev pub work_called : List ScriptSession → List ℕ → Option Work
work_called sessions name = option_and_then (λ session. session.work) (session_called sessions name)

-- the transactions for whose ends a statement of a database waits once its work is done
abbrev pub awaited_at_end : ℕ → List ScriptSession → Work → List Tag
awaited_at_end database sessions work = if work.awaits_snapshots then awaited_by database Writers [] sessions else []

-- What is left of a statement is played once its work is done, by one turn; and nothing where there is none.
abbrev pub IsPlayedAtEnd : ℕ → List ScriptSession → Option Work → List Turn → Type 0
IsPlayedAtEnd database sessions None turns = turns ≡ []
IsPlayedAtEnd database sessions (Some work) turns =
    (turn : Turn) × (turns ≡ turn ∷ []) × (turn.steps.items ≡ resumed_for work.left.items (awaited_at_end database sessions work))

-- the name of the session whose work is done: the first word, up to a semicolon
abbrev pub name_at_end : List ℕ → List ℕ
name_at_end behind = before_semicolon (first_word behind)

-- The session of this name is to play turns for which this holds, with its database.
abbrev pub IsToPlay : List ScriptSession → List ℕ → (ℕ → List Turn → Type 0) → Heard → Type 0
IsToPlay sessions name Are heard =
    (said : Statements) × (heard ≡ heard_.Statements said) × (string_bytes said.session ≡ name)
    × ((database : ℕ) × (database_called sessions name ≡ Some database) × Are database said.turns.items)

-- What is heard of a line outside of a schema: of a `do` or `work` line its own statements, of a `done` line
-- the end of the statement at which the session works. Other lines are plain ones.
abbrev pub IsHeardAs : Verb → List ScriptSession → List ℕ → Heard → Type 0
IsHeardAs verb.Schema sessions behind heard = heard ≡ heard_.Schema
IsHeardAs verb.Do sessions behind heard =
    IsToPlay sessions (first_word behind) (λ database. AreTurnsOf database false (behind_word behind)) heard
IsHeardAs verb.Work sessions behind heard =
    IsToPlay sessions (first_word behind) (λ database. AreTurnsOf database true (behind_word behind)) heard
IsHeardAs verb.Done sessions behind heard =
    IsToPlay sessions (name_at_end behind) (λ database. IsPlayedAtEnd database sessions (work_called sessions (name_at_end behind))) heard
IsHeardAs verb.Session sessions behind heard = heard ≡ heard_.Plain
IsHeardAs verb.Close sessions behind heard = heard ≡ heard_.Plain
IsHeardAs verb.Ends sessions behind heard = heard ≡ heard_.Plain
IsHeardAs verb.Other sessions behind heard = heard ≡ heard_.Plain

-- What is heard of a line: while a schema is read, each line is one of it.
abbrev pub IsHeardOf : Known → List ℕ → Heard → Type 0
IsHeardOf known line heard =
    MatchBool known.in_schema (heard ≡ heard_.Schema) (IsHeardAs (verb_of (first_word line)) known.sessions (behind_word line) heard)

-- Nothing stands behind what a line of this verb has to say, where it says no SQL of its own.
abbrev pub SaysNoMore : Verb → List ℕ → Type 0
SaysNoMore verb.Schema behind = is_blank behind ≡ true
SaysNoMore verb.Done behind = (is_blank (behind_semicolon (first_word behind)) ≡ true) × (is_blank (behind_word behind) ≡ true)
SaysNoMore _ behind = ⊤

-- No text of a line is dropped: behind a `schema` and the `end` of one nothing stands, nor behind the name of
-- a `done` line.
abbrev pub DropsNoText : Known → List ℕ → Type 0
DropsNoText known line =
    MatchBool known.in_schema (bytes_eq (first_word line) (codes "end") ≡ true → is_blank (behind_word line) ≡ true)
    (SaysNoMore (verb_of (first_word line)) (behind_word line))
