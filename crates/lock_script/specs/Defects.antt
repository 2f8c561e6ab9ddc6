use Rattle.std.specs.Prelude.{◌≡◌, ◌≢◌, ◌⊎◌, ℕ, true, false, List, [], ◌∷◌, ◌++◌, ⊤, Option, Some, None, codes, if◌then◌else◌}
use Rattle.std.specs.Str.{bytes_eq}
use Rattle.arrayvec.specs.declared.array_string.ArrayString.{ArrayString}
use Rattle.modes_core.specs.declared.modes.Mode.{Mode}
use Rattle.modes_core.specs.declared.tags.Tag.{Tag}
use Rattle.modes_core.specs.Mode.{name_of}
use Rattle.lock_script.specs.Meaning.{IsSilent, Means}
use Rattle.lock_script.specs.Names.{IsCalled, IsFree}
use Rattle.lock_script.specs.Sessions.{IsAt, IsUnknown}
use Rattle.lock_script.specs.Objects.{is_object_name, name_given, tag_called, tag_in}
use Rattle.lock_script.specs.Words.{is_name, number_in, strong_index_in, owner_of}
use Rattle.lock_script.specs.declared.objects.NamedObject.{NamedObject}
use Rattle.lock_script.specs.declared.sessions.OpenSessions.{OpenSessions}
use Rattle.lock_script.specs.declared.sessions.Place.{Place}
use Rattle.lock_script.specs.declared.command.Command.{Command}
use Rattle.lock_script.specs.declared.commands.WordKind.{WordKind}
use Rattle.lock_script.specs.declared.commands.WordKind.TheVariants.{FreeName, OpenName, CallerName, Number, CounterIndex, FreeObjectName, FreeTag, TagWord, ModeName, OwnerWord}
use Rattle.lock_script.specs.declared.faults.Defect.{Defect}
use Rattle.lock_script.specs.declared.faults.Defect.TheVariants.{UnknownCommand, WrongNumberOfWords, BadName, SessionExists, NoSuchSession, SessionWaits, NameExists, BadNumber, BadObject, ObjectNamed, BadMode, BadOwner}

-- Which defect a line has, where its words mean nothing.

-- what stands behind a command that asks for a lock or gives one back
abbrev pub lock_words : List WordKind
lock_words = CallerName ∷ TagWord ∷ ModeName ∷ OwnerWord ∷ []

-- The commands, each with the words behind it. First those that name an object, open or close a session, and
-- begin or end a transaction's levels.
abbrev pub session_commands : List (List ℕ × List WordKind)
session_commands =
    (codes "session", FreeName ∷ Number ∷ [])
    ∷ (codes "name", FreeObjectName ∷ FreeTag ∷ [])
    ∷ (codes "commit", CallerName ∷ [])
    ∷ (codes "abort", CallerName ∷ [])
    ∷ (codes "begin", CallerName ∷ [])
    ∷ (codes "subcommit", CallerName ∷ [])
    ∷ (codes "subabort", CallerName ∷ [])
    ∷ (codes "close", CallerName ∷ [])
    ∷ []

-- the commands that ask for a lock, let one go or end a wait for one
abbrev pub lock_commands : List (List ℕ × List WordKind)
lock_commands =
    (codes "try", lock_words)
    ∷ (codes "fast", lock_words)
    ∷ (codes "lock", lock_words)
    ∷ (codes "unlock", lock_words)
    ∷ (codes "unlock_all", CallerName ∷ [])
    ∷ (codes "cancel", CallerName ∷ OpenName ∷ [])
    ∷ []

-- the commands that only look
abbrev pub look_commands : List (List ℕ × List WordKind)
look_commands =
    (codes "owned", CallerName ∷ TagWord ∷ ModeName ∷ [])
    ∷ (codes "waiters", CallerName ∷ TagWord ∷ ModeName ∷ [])
    ∷ (codes "queue", CallerName ∷ TagWord ∷ [])
    ∷ (codes "blockers", CallerName ∷ OpenName ∷ TagWord ∷ [])
    ∷ (codes "list", CallerName ∷ [])
    ∷ (codes "count", CallerName ∷ CounterIndex ∷ [])
    ∷ (codes "hash", TagWord ∷ [])
    ∷ []

-- all commands, each with the words behind it
abbrev pub commands : List (List ℕ × List WordKind)
commands = session_commands ++ lock_commands ++ look_commands

-- what stands behind the command of this name, if there is one among these
abbrev pub words_behind : List ℕ → List (List ℕ × List WordKind) → Option (List WordKind)
words_behind verb [] = None
words_behind verb (command ∷ others) =
    if bytes_eq verb command.0 then Some command.1 else words_behind verb others

-- There is a word for each of these kinds; only an owner may be left out.
abbrev pub AreAsMany : List WordKind → List (List ℕ) → Type 0
AreAsMany [] [] = ⊤
AreAsMany (OwnerWord ∷ []) [] = ⊤
AreAsMany (kind ∷ kinds) (word ∷ words) = AreAsMany kinds words
AreAsMany _ _ = ⊥

-- why the words behind `hash` are no tag
abbrev pub IsNoTag : List NamedObject → List (List ℕ) → Defect → Type 0
IsNoTag objects (word ∷ []) defect = (defect ≡ BadObject) × (tag_in objects word ≡ None)
IsNoTag objects _ defect = defect ≡ WrongNumberOfWords

-- why a word is no name that an object may be given
abbrev pub IsTakenName : List NamedObject → List ℕ → Defect → Type 0
IsTakenName objects word BadName = is_object_name word ≡ false
IsTakenName objects word NameExists = (is_object_name word ≡ true) × ((tag : Tag) × (tag_called objects word ≡ Some tag))
IsTakenName objects word _ = ⊥

-- why a word stands for no object that may be given a name
abbrev pub IsTakenTag : List NamedObject → List ℕ → Defect → Type 0
IsTakenTag objects word BadObject = tag_in objects word ≡ None
IsTakenTag objects word ObjectNamed =
    (tag : Tag) × (name : ArrayString 63) × (tag_in objects word ≡ Some tag) × (name_given objects tag ≡ Some name)
IsTakenTag objects word _ = ⊥

-- why the words behind `name` name nothing
abbrev pub IsNoNaming : List NamedObject → List (List ℕ) → Defect → Type 0
IsNoNaming objects (name ∷ object ∷ []) defect =
    IsTakenName objects name defect
    ⊎ (((other : Defect) → ¬ IsTakenName objects name other) × IsTakenTag objects object defect)
IsNoNaming objects _ defect = defect ≡ WrongNumberOfWords

module _ {S W : Type 0} where
  -- why a word is not the name of an open session
  abbrev pub IsUnnamed : OpenSessions S W → List ℕ → Defect → Type 0
  IsUnnamed sessions word BadName = is_name word ≡ false
  IsUnnamed sessions word NoSuchSession = (is_name word ≡ true) × IsUnknown sessions word
  IsUnnamed sessions word _ = ⊥

  -- why a word is not the name of a session that doesn't wait
  abbrev pub IsBarred : OpenSessions S W → List ℕ → Defect → Type 0
  IsBarred sessions word SessionWaits =
      (is_name word ≡ true) × IsFree sessions.resting word × ((place : ℕ) × IsCalled sessions.waiting word place)
  IsBarred sessions word defect = IsUnnamed sessions word defect

  -- why a word is not a name that is free
  abbrev pub IsTaken : OpenSessions S W → List ℕ → Defect → Type 0
  IsTaken sessions word BadName = is_name word ≡ false
  IsTaken sessions word SessionExists = (is_name word ≡ true) × ((place : Place) × IsAt sessions word place)
  IsTaken sessions word _ = ⊥

  -- why a word is not of this kind
  abbrev pub IsWrong : OpenSessions S W → List NamedObject → WordKind → List ℕ → Defect → Type 0
  IsWrong sessions objects FreeName word defect = IsTaken sessions word defect
  IsWrong sessions objects OpenName word defect = IsUnnamed sessions word defect
  IsWrong sessions objects CallerName word defect = IsBarred sessions word defect
  IsWrong sessions objects Number word defect = (defect ≡ BadNumber) × (number_in word ≡ None)
  IsWrong sessions objects CounterIndex word defect = (defect ≡ BadNumber) × (strong_index_in word ≡ None)
  IsWrong sessions objects FreeObjectName word defect = IsTakenName objects word defect
  IsWrong sessions objects FreeTag word defect = IsTakenTag objects word defect
  IsWrong sessions objects TagWord word defect = (defect ≡ BadObject) × (tag_in objects word ≡ None)
  IsWrong sessions objects ModeName word defect = (defect ≡ BadMode) × ((mode : Mode) → name_of mode ≢ word)
  IsWrong sessions objects OwnerWord word defect = (defect ≡ BadOwner) × (owner_of word ≡ None)

  -- nothing is wrong with a word of this kind
  abbrev pub IsRight : OpenSessions S W → List NamedObject → WordKind → List ℕ → Type 0
  IsRight sessions objects kind word = (defect : Defect) → ¬ IsWrong sessions objects kind word defect

  -- the defect is that of the first word that is wrong
  abbrev pub IsFirstWrong : OpenSessions S W → List NamedObject → List WordKind → List (List ℕ) → Defect → Type 0
  IsFirstWrong sessions objects (kind ∷ kinds) (word ∷ words) defect =
      IsWrong sessions objects kind word defect ⊎ (IsRight sessions objects kind word × IsFirstWrong sessions objects kinds words defect)
  IsFirstWrong sessions objects _ _ defect = ⊥

  -- why words are not of these kinds: by their number, or else by the first of them that is wrong
  abbrev pub IsMisfit : OpenSessions S W → List NamedObject → List WordKind → List (List ℕ) → Defect → Type 0
  IsMisfit sessions objects kinds words defect =
      ((defect ≡ WrongNumberOfWords) × (¬ AreAsMany kinds words))
      ⊎ (AreAsMany kinds words × IsFirstWrong sessions objects kinds words defect)

  -- why words are not of these kinds, whichever objects have names
  abbrev pub IsMisfitAnyway : OpenSessions S W → List WordKind → List (List ℕ) → Defect → Type 0
  IsMisfitAnyway sessions kinds words defect = (objects : List NamedObject) → IsMisfit sessions objects kinds words defect

  -- why words are not the ones of a command, or that there is no such command
  abbrev pub IsRefused : OpenSessions S W → List NamedObject → Option (List WordKind) → List (List ℕ) → Defect → Type 0
  IsRefused sessions objects None words defect = defect ≡ UnknownCommand
  IsRefused sessions objects (Some kinds) words defect = IsMisfit sessions objects kinds words defect

  -- the defect of a line's words
  abbrev pub IsDefectOf : OpenSessions S W → List NamedObject → List (List ℕ) → Defect → Type 0
  IsDefectOf sessions objects [] defect = ⊥
  IsDefectOf sessions objects (verb ∷ words) defect = IsRefused sessions objects (words_behind verb commands) words defect

  -- The words of a line are neither silent nor a command.
  abbrev pub MeansNothing : OpenSessions S W → List NamedObject → List (List ℕ) → Type 0
  MeansNothing sessions objects words = (¬ IsSilent words) × ((command : Command) → ¬ Means sessions objects words command)
