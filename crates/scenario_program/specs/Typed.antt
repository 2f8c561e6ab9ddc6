use Rattle.std.specs.Prelude.{◌≡◌, ◌≢◌, ◌⊎◌, ◌||◌, ℕ, ◌+◌, Bool, true, false, if◌then◌else◌, List, [], ◌∷◌, ◌++◌, codes, length, ⊤, Option, Some, None, IfSome, Result, Ok, Err}
use Rattle.std.specs.Str.{bytes_eq}
use Rattle.local_locks.specs.declared.records.Entry.{Entry}
use Rattle.lock_manager.specs.Sessions.{SessionView}
use Rattle.lock_script.specs.Defects.{MeansNothing}
use Rattle.lock_script.specs.Lines.{after_line, reading_of}
use Rattle.lock_script.specs.Meaning.{IsSilent, Means}
use Rattle.lock_script.specs.declared.command.Command.{Command}
use Rattle.lock_script.specs.declared.faults.Defect.TheVariants.{NotAsciiText}
use Rattle.lock_script.specs.declared.faults.Fault.{Fault}
use Rattle.lock_script.specs.declared.faults.Fault.TheVariants.{BadLine, ReadFailed, WriteFailed, NoMemory, GateHeld}
use Rattle.lock_world.specs.Account.{Account}
use Rattle.shared_rule.specs.Boards.{Seated, Stack}
use Rattle.scenario.specs.Acts.{UnlessUnheard, Writes, no_cast}
use Rattle.scenario.specs.Answers.{Cast}
use Rattle.scenario.specs.Heard.{Heard, Hears, Helped}
use Rattle.scenario.specs.Played.{Plays}
use Rattle.scenario.specs.Scripts.{words_in}
use Rattle.scenario_program.specs.declared.shell.Typed.{Typed}
use Rattle.scenario_program.specs.declared.shell.Typed.TheVariants.{End, Help, Line}

-- What is heard of the lines that somebody types in a shell: each is answered, one after another, to the one
-- that ends the shell, or to the end of the input.

-- a word that ends a shell
abbrev pub is_leaving : List ℕ → Bool
is_leaving word = bytes_eq word (codes "end") || bytes_eq word (codes "quit") || bytes_eq word (codes "exit") || bytes_eq word (codes "\\q")

-- The words are one that ends a shell, alone.
abbrev pub Leaves : List (List ℕ) → Type 0
Leaves (word ∷ []) = is_leaving word ≡ true
Leaves _ = ⊥

-- The words are for the shell itself: the first one ends a shell, or asks for help.
abbrev pub IsForShell : List (List ℕ) → Type 0
IsForShell [] = ⊥
IsForShell (word ∷ words) = is_leaving word || bytes_eq word (codes "help") ≡ true

-- What words ask of a shell: to end, to say something, or to answer them as a line of a script.
abbrev pub AsksFor : List (List ℕ) → Typed → Type 0
AsksFor words End = Leaves words
AsksFor words (Help text) = IsForShell words × (¬ Leaves words)
AsksFor words Line = ¬ IsForShell words

-- what the shell says at a terminal, and nowhere else
abbrev pub at_terminal : Bool → List ℕ → List Heard
at_terminal is_terminal text = if is_terminal then Helped text ∷ [] else []

abbrev pub greeting : List ℕ
greeting = codes "help lists the commands, end closes all sessions and leaves\n"

abbrev pub prompt : List ℕ
prompt = codes "lock> "

-- These lines were typed one after another, each of them a text, or none where it isn't text; this is left
-- after them.
abbrev pub AreNextTyped : ℕ → List ℕ → List (Option (List ℕ)) → List ℕ → Type 0
AreNextTyped number typed [] unread = unread ≡ typed
AreNextTyped number typed (Some text ∷ lines) unread =
    (reading_of number typed ≡ Ok (Some text)) × AreNextTyped (number + 1) (after_line typed) lines unread
AreNextTyped number typed (None ∷ lines) unread =
    (reading_of number typed ≡ Err NotAsciiText) × AreNextTyped (number + 1) (after_line typed) lines unread

-- the same of the first lines, where the bytes are known
abbrev pub AreTyped : Option (List ℕ) → List (Option (List ℕ)) → Option (List ℕ) → Type 0
AreTyped None lines left = ⊤
AreTyped (Some typed) lines None = ⊥
AreTyped (Some typed) lines (Some unread) = AreNextTyped 0 typed lines unread

-- What is read after this number of lines, where the bytes are known, of which this is left.
abbrev pub IsReadNext : Option (List ℕ) → ℕ → Option (List ℕ) → Option (List ℕ) → Type 0
IsReadNext typed number left line = IfSome typed (λ _. IfSome left (λ unread. reading_of number unread ≡ Ok line))

-- What comes after these lines ends the shell: a word that does, or the end of the input.
abbrev pub EndsShell : Bool → Option (List ℕ) → ℕ → Option (List ℕ) → List Heard → Type 0
EndsShell is_terminal typed number left heard =
    ((text : List ℕ) × IsReadNext typed number left (Some text) × Leaves (words_in text) × (heard ≡ at_terminal is_terminal prompt))
    ⊎ (IsReadNext typed number left None × (heard ≡ at_terminal is_terminal prompt ++ at_terminal is_terminal (codes "\n")))

-- Why a shell ends after these lines, and what is heard then: by what comes after them; by a line that is too
-- long, or one too many; or as the reader fails.
abbrev pub EndsTyped : Bool → Option (List ℕ) → ℕ → Option (List ℕ) → Result (Unit {0}) Fault → List Heard → Type 0
EndsTyped is_terminal typed number left (Ok ended) heard = EndsShell is_terminal typed number left heard
EndsTyped is_terminal typed number left (Err (BadLine line what)) heard =
    (what ≢ NotAsciiText) × (heard ≡ at_terminal is_terminal prompt)
    × IfSome typed (λ _. IfSome left (λ unread. (line ≡ number + 1) × (reading_of number unread ≡ Err what)))
EndsTyped is_terminal typed number left (Err ReadFailed) heard = (heard ≡ []) ⊎ (heard ≡ at_terminal is_terminal prompt)
EndsTyped is_terminal typed number left (Err WriteFailed) heard = ⊤
EndsTyped is_terminal typed number left (Err NoMemory) heard = ⊤
EndsTyped is_terminal typed number left (Err GateHeld) heard = ⊤

module _
    {B : Type 0} (seat : B → Seated) (view : B → Account) (stack : B → Stack) (again : Bool) (database_of : SessionView B → ℕ) (entries : SessionView B → List Entry) where
  -- A line is answered: by a text, where it is for the shell itself or means nothing, and nothing is done
  -- then; with nothing, where it is silent; or as its command is played.
  abbrev pub AnswersLine : Cast B → List ℕ → List Heard → Cast B → Type 0
  AnswersLine old text heard new =
      ((IsForShell (words_in text) ⊎ MeansNothing old.sessions old.names.objects (words_in text))
      × ((told : List ℕ) × (heard ≡ Helped told ∷ []) × (new ≡ old)))
      ⊎ ((IsSilent (words_in text) × (heard ≡ []) × (new ≡ old))
      ⊎ ((command : Command) × Means old.sessions old.names.objects (words_in text) command
      × Plays seat view stack again database_of entries old command heard new))

  -- A line is answered, if it is text, and else a text says that it isn't.
  abbrev pub AnswersTyped : Cast B → Option (List ℕ) → List Heard → Cast B → Type 0
  AnswersTyped old (Some text) heard new = (¬ Leaves (words_in text)) × AnswersLine old text heard new
  AnswersTyped old None heard new = (told : List ℕ) × (heard ≡ Helped told ∷ []) × (new ≡ old)

  -- These lines are answered, one after another, each once, and behind the prompt at a terminal.
  abbrev pub AnswersAll : Bool → Cast B → List (Option (List ℕ)) → List Heard → Cast B → Type 0
  AnswersAll is_terminal old [] heard new = (heard ≡ []) × (new ≡ old)
  AnswersAll is_terminal old (line ∷ lines) heard new =
      (next : Cast B) × (here : List Heard) × (later : List Heard) × AnswersTyped old line here next
      × AnswersAll is_terminal next lines later new × (heard ≡ at_terminal is_terminal prompt ++ (here ++ later))

  -- What was typed was answered, to the end of the shell.
  pub record PlaysTyped (is_terminal : Bool) (typed : Option (List ℕ)) (old : Cast B) (ended : Result (Unit {0}) Fault) (heard : List Heard) : Type 0 where
    pub lines : List (Option (List ℕ))
    pub left : Option (List ℕ)
    pub are : AreTyped typed lines left
    pub answered : List Heard
    pub new : Cast B
    pub answers : AnswersAll is_terminal old lines answered new
    pub last : List Heard
    pub ends : EndsTyped is_terminal typed (length lines) left ended last
    pub all : heard ≡ at_terminal is_terminal greeting ++ (answered ++ last)

  -- What was typed was heard as it was answered, unless the listener failed.
  abbrev pub IsTypedHeard : {L : Type 0} → (L → Heard → L → Type 0) → Bool → Option (List ℕ) → Cast B → L → Result (Unit {0}) Fault → L → Type 0
  IsTypedHeard hears is_terminal typed old before ended now =
      UnlessUnheard ended (Hears hears before now (PlaysTyped is_terminal typed old ended))

  -- What was typed was answered, from nothing, and what was heard of it is written.
  abbrev pub WritesTyped : Bool → Option (List ℕ) → Option (List ℕ) → Result (Unit {0}) Fault → Option (List ℕ) → Type 0
  WritesTyped is_terminal typed before ended after = Writes (PlaysTyped is_terminal typed no_cast ended) false false before after
