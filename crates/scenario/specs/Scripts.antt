use Rattle.std.specs.Prelude.{◌≡◌, ◌⊎◌, ℕ, ◌+◌, Bool, List, [], ◌∷◌, ◌++◌, length, take, ⊤, Option, Some, None, IfSome, Result, Ok, Err}
use Rattle.local_locks.specs.declared.records.Entry.{Entry}
use Rattle.lock_world.specs.Account.{Account}
use Rattle.shared_rule.specs.Boards.{Seated, Stack}
use Rattle.lock_manager.specs.Sessions.{SessionView}
use Rattle.lock_script.specs.Defects.{IsDefectOf}
use Rattle.lock_script.specs.Lines.{after_line, reading_of}
use Rattle.lock_script.specs.Meaning.{IsSilent, Means}
use Rattle.lock_script.specs.Words.{words_of}
use Rattle.lock_script.specs.declared.command.Command.{Command}
use Rattle.lock_script.specs.declared.faults.Defect.{Defect}
use Rattle.lock_script.specs.declared.faults.Fault.{Fault}
use Rattle.lock_script.specs.declared.faults.Fault.TheVariants.{BadLine, ReadFailed, WriteFailed, NoMemory, GateHeld}
use Rattle.scenario.specs.Answers.{Cast}
use Rattle.scenario.specs.Heard.{Heard, Hears, HearsAll, IsEnd, Line}
use Rattle.scenario.specs.Played.{Plays}

-- What is heard of a script: its lines one by one, in their order, and behind each what it is answered. A bad
-- line ends it.

-- a line of a script: its number and its text
pub record ScriptLine : Type 0 where
  pub number : ℕ
  pub text : List ℕ

-- the words of a line, as far as a command is long
abbrev pub words_in : List ℕ → List (List ℕ)
words_in text = take 6 (words_of text)

-- These are the next lines of a script, where this number of lines was read before, and this is left after
-- them.
abbrev pub AreNextLines : ℕ → List ℕ → List (List ℕ) → List ℕ → Type 0
AreNextLines number script [] unread = unread ≡ script
AreNextLines number script (text ∷ texts) unread =
    (reading_of number script ≡ Ok (Some text)) × AreNextLines (number + 1) (after_line script) texts unread

-- These are the first lines of a script, where its bytes are known.
abbrev pub AreFirstLines : Option (List ℕ) → List (List ℕ) → Option (List ℕ) → Type 0
AreFirstLines None texts left = ⊤
AreFirstLines (Some script) texts None = ⊥
AreFirstLines (Some script) texts (Some unread) = AreNextLines 0 script texts unread

-- After this number of lines comes one that is bad: its text is, and it isn't heard; or its words are, and it
-- is heard alone.
abbrev pub EndsBadly : {B : Type 0} → ℕ → Option (List ℕ) → Cast B → ℕ → Defect → List Heard → Type 0
EndsBadly lines left cast line what heard =
    (IfSome left (λ unread. (line ≡ lines + 1) × (reading_of lines unread ≡ Err what)) × (heard ≡ []))
    ⊎ ((text : List ℕ) × IfSome left (λ unread. reading_of lines unread ≡ Ok (Some text)) × (line ≡ lines + 1)
    × IsDefectOf cast.sessions cast.names.objects (words_in text) what × (heard ≡ Line line text ∷ []))

-- Why a script ends after this number of lines, with this left of it, and what is heard after them.
abbrev pub EndsSo : {B : Type 0} → ℕ → Option (List ℕ) → Cast B → Result (Unit {0}) Fault → List Heard → Type 0
EndsSo lines left cast (Ok ended) heard = IfSome left (λ unread. reading_of lines unread ≡ Ok None) × IsEnd heard
EndsSo lines left cast (Err (BadLine line what)) heard = EndsBadly lines left cast line what heard
EndsSo lines left cast (Err ReadFailed) heard = heard ≡ []
EndsSo lines left cast (Err WriteFailed) heard = ⊤
EndsSo lines left cast (Err NoMemory) heard = ⊤
EndsSo lines left cast (Err GateHeld) heard = ⊤

-- A line ended a script: its words are bad, and it was heard alone; or the listener failed.
abbrev pub IsBadLine : {B L : Type 0} → (L → Heard → L → Type 0) → ℕ → Cast B → L → List ℕ → Fault → Cast B → L → Type 0
IsBadLine hears number old before text (BadLine line what) new now =
    (line ≡ number) × IsDefectOf old.sessions old.names.objects (words_in text) what × HearsAll hears before (Line number text ∷ []) now × (new ≡ old)
IsBadLine hears number old before text ReadFailed new now = ⊥
IsBadLine hears number old before text WriteFailed new now = ⊤
IsBadLine hears number old before text NoMemory new now = ⊤
IsBadLine hears number old before text GateHeld new now = ⊥

module _
    {B : Type 0} (seat : B → Seated) (view : B → Account) (stack : B → Stack) (again : Bool) (database_of : SessionView B → ℕ) (entries : SessionView B → List Entry) where
  -- A line is heard, with its number, and then what its command is answered. A line with no word, and a
  -- comment, has none.
  abbrev pub PlaysLine : ℕ → Cast B → List ℕ → List Heard → Cast B → Type 0
  PlaysLine number old text heard new =
      (IsSilent (words_in text) × (heard ≡ Line number text ∷ []) × (new ≡ old))
      ⊎ ((command : Command) × Means old.sessions old.names.objects (words_in text) command
      × ((answers : List Heard) × (heard ≡ Line number text ∷ answers) × Plays seat view stack again database_of entries old command answers new))

  -- These lines are heard and played, one after another, each once. The first one has this number.
  abbrev pub PlaysLines : ℕ → Cast B → List (List ℕ) → List Heard → Cast B → Type 0
  PlaysLines number old [] heard new = (heard ≡ []) × (new ≡ old)
  PlaysLines number old (text ∷ texts) heard new =
      (next : Cast B) × (here : List Heard) × (later : List Heard) × PlaysLine number old text here next
      × PlaysLines (number + 1) next texts later new × (heard ≡ here ++ later)

  -- A script was played, to its end or to a bad line.
  pub record PlaysScript (script : Option (List ℕ)) (old : Cast B) (ended : Result (Unit {0}) Fault) (heard : List Heard) : Type 0 where
    pub texts : List (List ℕ)
    pub left : Option (List ℕ)
    pub lines : AreFirstLines script texts left
    pub played : List Heard
    pub new : Cast B
    pub plays : PlaysLines 1 old texts played new
    pub last : List Heard
    pub ends : EndsSo (length texts) left new ended last
    pub all : heard ≡ played ++ last

  -- A script was heard as it was played, unless the listener failed.
  abbrev pub IsScriptHeard : {L : Type 0} → (L → Heard → L → Type 0) → Option (List ℕ) → Cast B → L → Result (Unit {0}) Fault → L → Type 0
  IsScriptHeard hears script old before (Ok ended) now = Hears hears before now (λ heard. PlaysScript script old (Ok ended) heard)
  IsScriptHeard hears script old before (Err (BadLine line what)) now =
      Hears hears before now (λ heard. PlaysScript script old (Err (BadLine line what)) heard)
  IsScriptHeard hears script old before (Err ReadFailed) now = Hears hears before now (λ heard. PlaysScript script old (Err ReadFailed) heard)
  IsScriptHeard hears script old before (Err WriteFailed) now = ⊤
  IsScriptHeard hears script old before (Err NoMemory) now = ⊤
  IsScriptHeard hears script old before (Err GateHeld) now = ⊤
