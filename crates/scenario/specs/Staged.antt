use Rattle.std.specs.Prelude.{◌≡◌, ◌⊎◌, ◌^◌, ◌+◌, ◌-◌, ℕ, Bool, List, [], ◌∷◌, ◌++◌, length, map, min, ⊤, Option, Some, None, IfSome, Result, Ok, Err}
use Rattle.local_locks.specs.declared.records.Entry.{Entry}
use Rattle.lock_manager.specs.Sessions.{SessionView}
use Rattle.lock_manager.specs.WaitingSessions.{WaitingView}
use Rattle.lock_script.specs.Defects.{IsDefectOf}
use Rattle.lock_script.specs.Kept.{kept_count}
use Rattle.lock_script.specs.Lines.{reading_of}
use Rattle.lock_script.specs.declared.faults.Defect.{Defect}
use Rattle.lock_script.specs.declared.faults.Fault.{Fault}
use Rattle.lock_script.specs.declared.faults.Fault.TheVariants.{BadLine, ReadFailed, WriteFailed, NoMemory, GateHeld}
use Rattle.lock_script.specs.declared.kept.KeptQueue.{KeptQueue}
use Rattle.lock_script.specs.declared.names.Names.{Names}
use Rattle.lock_script.specs.declared.sessions.OpenSessions.{OpenSessions}
use Rattle.lock_world.specs.Account.{Account}
use Rattle.shared_rule.specs.Boards.{Seated, Stack}
use Rattle.scenario.specs.Answers.{Cast}
use Rattle.scenario.specs.Heard.{Done, Heard, Hears, HearsAll, IsEnd, Kept, Left, Line}
use Rattle.scenario.specs.InTurn.{DoesLines, FailsPlain, Play}
use Rattle.scenario.specs.Scripts.{AreFirstLines, PlaysLine, ScriptLine, words_in}

-- What lines do in a scene, where some are kept, and what is heard of them.

-- those on whom lines act, and who hears what comes of them
pub record Stage (B L : Type 0) : Type 0 where
  pub cast : Cast B
  pub listener : L

abbrev pub stage_of : {B L : Type 0} → OpenSessions (SessionView B) (WaitingView B) → Names → L → Stage B L
stage_of sessions names listener = record { cast = record { sessions = sessions; names = names }; listener = listener }

-- A list of what is heard has one thing more, behind the others.
abbrev pub notes : List Heard → Heard → List Heard → Type 0
notes before one after = after ≡ before ++ one ∷ []

-- What is heard at the end of a script of which lines are kept: a picture, where one is wanted, that the
-- script has ended, who is left waiting, and how many lines were not reached.
abbrev pub IsEndOfKept : {B : Type 0} → Cast B → List KeptQueue → List Heard → Type 0
IsEndOfKept cast left heard =
    (last : List Heard) × IsEnd last
    × (heard ≡ last ++ Left (map (λ one. one.name) cast.sessions.waiting) (min (kept_count left) (2 ^ 64 - 1)) ∷ [])

module _
    {B : Type 0} (seat : B → Seated) (view : B → Account) (stack : B → Stack) (again : Bool) (database_of : SessionView B → ℕ) (entries : SessionView B → List Entry) where
  -- A line is run: it is heard and played, once. One that is kept is heard to be, and one that is told alone
  -- is heard, and that nothing answers it. One that is bad is heard, and nothing else.
  abbrev pub play_of : {L : Type 0} → (L → Heard → L → Type 0) → Play (Stage B L) (WaitingView B)
  play_of hears = record {
    Runs = λ old line new. Hears hears old.listener new.listener (λ heard.
        PlaysLine seat view stack again database_of entries line.number old.cast line.text heard new.cast);
    Keeps = λ old line new. hears old.listener (Kept line.number line.text) new.listener × (new.cast ≡ old.cast);
    Shows = λ old line new. HearsAll hears old.listener (Line line.number line.text ∷ Done ∷ []) new.listener × (new.cast ≡ old.cast);
    Fails = λ old line what new. IsDefectOf old.cast.sessions old.cast.names.objects (words_in line.text) what
        × HearsAll hears old.listener (Line line.number line.text ∷ []) new.listener × (new.cast ≡ old.cast);
    waiting = λ stage. stage.cast.sessions.waiting;
    objects = λ stage. stage.cast.names.objects;
  }

  -- A line of a script that speaks no SQL is bad, behind this number of them: its text is; or its words are,
  -- or those of a kept line that is run behind it.
  abbrev pub EndsInBadLine : Bool → ℕ → Option (List ℕ) → Stage B (List Heard) → List KeptQueue → ℕ → Defect → List Heard → Type 0
  EndsInBadLine keeps lines unread stage kept line what heard =
      (IfSome unread (λ bytes. (line ≡ lines + 1) × (reading_of lines bytes ≡ Err what)) × (heard ≡ stage.listener))
      ⊎ ((text : List ℕ) × (bad : ScriptLine) × (after : Stage B (List Heard))
      × IfSome unread (λ bytes. reading_of lines bytes ≡ Ok (Some text))
      × FailsPlain (play_of notes) keeps stage kept (record { number = lines + 1; text = text }) bad what after
      × (line ≡ bad.number) × (heard ≡ after.listener))

  -- Why a script ends of which lines are kept, after this number of lines, with this left of it, and what was
  -- heard then of all of it.
  abbrev pub EndsInTurn : Bool → ℕ → Option (List ℕ) → Stage B (List Heard) → List KeptQueue → Result (Unit {0}) Fault → List Heard → Type 0
  EndsInTurn keeps lines unread stage kept (Ok ended) heard =
      IfSome unread (λ bytes. reading_of lines bytes ≡ Ok None)
      × ((cast : Cast B) × (last : List Heard) × IsEndOfKept cast kept last × (heard ≡ stage.listener ++ last))
  EndsInTurn keeps lines unread stage kept (Err (BadLine line what)) heard = EndsInBadLine keeps lines unread stage kept line what heard
  EndsInTurn keeps lines unread stage kept (Err ReadFailed) heard = heard ≡ stage.listener
  EndsInTurn keeps lines unread stage kept (Err WriteFailed) heard = ⊤
  EndsInTurn keeps lines unread stage kept (Err NoMemory) heard = ⊤
  EndsInTurn keeps lines unread stage kept (Err GateHeld) heard = ⊤

  -- A script was played of which lines are kept, to its end or to a bad line, and this was heard of it.
  pub record PlaysKept (speaks keeps : Bool) (script : Option (List ℕ)) (old : Cast B) (ended : Result (Unit {0}) Fault) (heard : List Heard) : Type 0 where
    pub texts : List (List ℕ)
    pub unread : Option (List ℕ)
    pub lines : AreFirstLines script texts unread
    pub new : Stage B (List Heard)
    pub left : List KeptQueue
    pub does : DoesLines (play_of notes) speaks keeps 1 (record { cast = old; listener = [] }) [] texts new left
    pub ends : EndsInTurn keeps (length texts) unread new left ended heard
