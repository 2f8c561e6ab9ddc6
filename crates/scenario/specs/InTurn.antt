use Rattle.std.specs.Prelude.{◌≡◌, ◌⊎◌, ◌&&◌, ℕ, ◌+◌, Bool, MatchBool, if◌then◌else◌, is_none, List, [], ◌∷◌, ◌++◌, codes, map, string_bytes, ⊤}
use Rattle.std.specs.List.{flat_map}
use Rattle.std.specs.Str.{bytes_eq}
use Rattle.modes_core.specs.TagText.{tag_text}
use Rattle.lock_script.specs.Kept.{HasToWait, IsLowest, NoneReady, lines_of}
use Rattle.lock_script.specs.Names.{IsFree}
use Rattle.lock_script.specs.Objects.{is_object_name, name_given, tag_called}
use Rattle.lock_script.specs.declared.faults.Defect.{Defect}
use Rattle.lock_script.specs.declared.faults.Fault.{Fault}
use Rattle.lock_script.specs.declared.faults.Fault.TheVariants.{BadLine, ReadFailed, WriteFailed, NoMemory, GateHeld}
use Rattle.lock_script.specs.declared.kept.KeptLine.{KeptLine}
use Rattle.lock_script.specs.declared.kept.KeptQueue.{KeptQueue}
use Rattle.lock_script.specs.declared.objects.NamedObject.{NamedObject}
use Rattle.lock_script.specs.declared.sessions.Named.{Named}
use Rattle.sql_script.specs.Steps.{line_text, steps_in}
use Rattle.sql_script.specs.declared.lines.Heard.{Heard}
use Rattle.sql_script.specs.declared.lines.Heard.TheVariants.{Plain, Schema, Statements}
use Rattle.sql_script.specs.declared.turns.Table.{Table}
use Rattle.sql_script.specs.declared.turns.Turn.{Turn}
use Rattle.scenario.specs.Scripts.{ScriptLine}
use Rattle.scenario.specs.Spoken.{IsSaid}

-- What is done of lines where some are kept: each is run, or kept behind those of its session, and run once
-- that goes on.

-- lines of one number with these texts
abbrev pub lines_at : ℕ → List (List ℕ) → List ScriptLine
lines_at number texts = map (λ text. record { number = number; text = text }) texts

-- what a kept line says
abbrev pub said_by : KeptLine → ScriptLine
said_by line = record { number = line.number; text = string_bytes line.text }

-- the lines that are kept of the session of this name, in their order
abbrev pub kept_of : List KeptQueue → List ℕ → List ScriptLine
kept_of kept session = map said_by (lines_of kept session)

-- one line of the session of this name
abbrev pub one_of : List ℕ → ScriptLine → List ℕ → List ScriptLine
one_of name line session = if bytes_eq name session then line ∷ [] else []

-- the lines of one session, in their order, among lines that each have the name of their session
abbrev pub those_of : List (List ℕ × ScriptLine) → List ℕ → List ScriptLine
those_of lines session = flat_map (λ it. one_of it.0 it.1 session) lines

-- A line is kept behind those of the session of this name.
abbrev pub IsKeptFor : List ℕ → List KeptQueue → ScriptLine → List KeptQueue → Type 0
IsKeptFor name kept line left = (session : List ℕ) → kept_of left session ≡ kept_of kept session ++ one_of name line session

-- the line that gives a table its name
abbrev pub name_line : Table → List ℕ
name_line table = codes "name " ++ (string_bytes table.name ++ (codes " " ++ tag_text table.tag))

-- whether a table may have its name: neither has another, and an object may have such a name
abbrev pub may_be_named : List NamedObject → Table → Bool
may_be_named objects table =
    is_none (tag_called objects (string_bytes table.name)) && (is_none (name_given objects table.tag) && is_object_name (string_bytes table.name))

-- the tables of turns, one turn after another
abbrev pub tables_in : List Turn → List Table
tables_in turns = flat_map (λ turn. turn.named.items) turns

-- A fault is that of a bad line, which is as P says; or the output or the memory failed.
abbrev pub IsBad : {C : Type 0} → (ScriptLine → Defect → C → Type 0) → C → Fault → Type 0
IsBad P new (BadLine line what) = (bad : ScriptLine) × (line ≡ bad.number) × P bad what new
IsBad P new ReadFailed = ⊥
IsBad P new WriteFailed = ⊤
IsBad P new NoMemory = ⊤
IsBad P new GateHeld = ⊥

-- What lines do to those on whom they act.
pub record Play (C W : Type 0) : Type 1 where
  -- a line is run, or told to be kept, or told alone
  pub Runs : C → ScriptLine → C → Type 0
  pub Keeps : C → ScriptLine → C → Type 0
  pub Shows : C → ScriptLine → C → Type 0
  -- a line is told alone, and is bad: it has this defect
  pub Fails : C → ScriptLine → Defect → C → Type 0
  -- the sessions that wait, and the objects that have names
  pub waiting : C → List (Named W)
  pub objects : C → List NamedObject

-- A line of the session of this name is the kept one to be run next: the session doesn't wait, and no line of
-- one that doesn't has a lower number. All others stay kept.
pub record IsNext {W : Type 0} (waiting : List (Named W)) (kept : List KeptQueue) (name : List ℕ) (line : ScriptLine) (left : List KeptQueue) : Type 0 where
  pub rests : IsFree waiting name
  pub lowest : IsLowest kept waiting line.number
  pub order : (session : List ℕ) → one_of name line session ++ kept_of left session ≡ kept_of kept session

module _ {C W : Type 0} (play : Play C W) where
  -- Kept lines, each with the name of its session, are run, one after another, each once.
  abbrev pub RunsEach : C → List KeptQueue → List (List ℕ × ScriptLine) → C → List KeptQueue → Type 0
  RunsEach old kept [] new left = (new ≡ old) × (left ≡ kept)
  RunsEach old kept (it ∷ lines) new left =
      (next : C) × (some : List KeptQueue) × IsNext (play.waiting old) kept it.0 it.1 some × play.Runs old it.1 next × RunsEach next some lines new left

  -- Kept lines are run until no line is kept of a session that doesn't wait.
  pub record RunsKept (old : C) (kept : List KeptQueue) (new : C) (left : List KeptQueue) : Type 0 where
    pub lines : List (List ℕ × ScriptLine)
    pub runs : RunsEach old kept lines new left
    pub none : NoneReady left (play.waiting new)

  -- A line is run, and then kept ones are.
  abbrev pub RunsNow : C → List KeptQueue → ScriptLine → C → List KeptQueue → Type 0
  RunsNow old kept line new left = (next : C) × play.Runs old line next × RunsKept next kept new left

  -- A line is kept where the session that it addresses waits or has lines that are kept, and else it is run.
  abbrev pub TakesIn : C → List KeptQueue → ScriptLine → C → List KeptQueue → Type 0
  TakesIn old kept line new left =
      ((name : List ℕ) × HasToWait kept (play.waiting old) line.text name × play.Keeps old line new × IsKeptFor name kept line left)
      ⊎ (((name : List ℕ) → ¬ HasToWait kept (play.waiting old) line.text name) × RunsNow old kept line new left)

  -- Lines are each run or kept, one after another, each once.
  abbrev pub TakesInEach : C → List KeptQueue → List ScriptLine → C → List KeptQueue → Type 0
  TakesInEach old kept [] new left = (new ≡ old) × (left ≡ kept)
  TakesInEach old kept (line ∷ lines) new left =
      (next : C) × (later : List KeptQueue) × TakesIn old kept line next later × TakesInEach next later lines new left

  -- A table is given its name by a line, where it may have it; else nothing is run.
  abbrev pub NamesTable : C → ℕ → Table → C → Type 0
  NamesTable old number table new =
      MatchBool (may_be_named (play.objects old) table) (play.Runs old (record { number = number; text = name_line table }) new) (new ≡ old)

  -- Tables are given their names, one after another.
  abbrev pub NamesTables : C → ℕ → List Table → C → Type 0
  NamesTables old number [] new = new ≡ old
  NamesTables old number (table ∷ tables) new = (next : C) × NamesTable old number table next × NamesTables next number tables new

  -- What the statements of a line come to is played: their tables have names first. Then the lines for their
  -- steps are taken in, one after another, each once.
  abbrev pub PlaysStatements : C → List KeptQueue → ℕ → List ℕ → List Turn → C → List KeptQueue → Type 0
  PlaysStatements old kept number session turns new left =
      (mid : C) × NamesTables old number (tables_in turns) mid
      × TakesInEach mid kept (lines_at number (map (line_text session) (steps_in turns))) new left

  -- What a line says is done: it is run, or taken in where lines are kept, if it says no SQL; it is told
  -- alone, if it is one of a schema; or its statements are played behind it.
  abbrev pub DoesLine : Bool → C → List KeptQueue → ScriptLine → Heard → C → List KeptQueue → Type 0
  DoesLine keeps old kept line Plain new left = MatchBool keeps (TakesIn old kept line new left) (RunsNow old kept line new left)
  DoesLine keeps old kept line Schema new left = play.Shows old line new × (left ≡ kept)
  DoesLine keeps old kept line (Statements said) new left =
      (mid : C) × play.Shows old line mid × PlaysStatements mid kept line.number (string_bytes said.session) said.turns.items new left

  -- The lines of a script are done, one after another, each once. The first one has this number.
  abbrev pub DoesLines : Bool → Bool → ℕ → C → List KeptQueue → List (List ℕ) → C → List KeptQueue → Type 0
  DoesLines speaks keeps number old kept [] new left = (new ≡ old) × (left ≡ kept)
  DoesLines speaks keeps number old kept (text ∷ texts) new left =
      (said : Heard) × (next : C) × (some : List KeptQueue) × IsSaid speaks text said
      × DoesLine keeps old kept (record { number = number; text = text }) said next some × DoesLines speaks keeps (number + 1) next some texts new left

  -- Kept lines are run up to one that is bad.
  pub record FailsKept (old : C) (kept : List KeptQueue) (bad : ScriptLine) (what : Defect) (new : C) : Type 0 where
    pub lines : List (List ℕ × ScriptLine)
    pub mid : C
    pub some : List KeptQueue
    pub runs : RunsEach old kept lines mid some
    pub name : List ℕ
    pub left : List KeptQueue
    pub next : IsNext (play.waiting mid) some name bad left
    pub fails : play.Fails mid bad what new

  -- A line is run and is bad, or a kept one is that is run behind it.
  abbrev pub FailsNow : C → List KeptQueue → ScriptLine → ScriptLine → Defect → C → Type 0
  FailsNow old kept line bad what new =
      ((bad ≡ line) × play.Fails old line what new) ⊎ ((next : C) × play.Runs old line next × FailsKept next kept bad what new)

  -- A line that is to be kept is told so, and is bad; or one that is run is, or a kept one behind it.
  abbrev pub FailsIn : C → List KeptQueue → ScriptLine → ScriptLine → Defect → C → Type 0
  FailsIn old kept line bad what new =
      ((name : List ℕ) × HasToWait kept (play.waiting old) line.text name × (bad ≡ line) × play.Keeps old line new)
      ⊎ (((name : List ℕ) → ¬ HasToWait kept (play.waiting old) line.text name) × FailsNow old kept line bad what new)

  -- A line that says no SQL is bad, or a kept one is that is run behind it.
  abbrev pub FailsPlain : Bool → C → List KeptQueue → ScriptLine → ScriptLine → Defect → C → Type 0
  FailsPlain keeps old kept line bad what new = MatchBool keeps (FailsIn old kept line bad what new) (FailsNow old kept line bad what new)
