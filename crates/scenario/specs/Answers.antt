use Rattle.std.specs.Prelude.{◌≡◌, ◌⊎◌, ℕ, ⊤, Bool, List, [], ◌∷◌, ◌++◌}
use Rattle.std.specs.List.{HoldsAt}
use Rattle.arrayvec.specs.declared.array_string.ArrayString.{ArrayString}
use Rattle.local_locks.specs.declared.records.Entry.{Entry}
use Rattle.lock_world.specs.Account.{Account}
use Rattle.modes_core.specs.declared.refusals.Refusal.{Refusal}
use Rattle.modes_core.specs.declared.refusals.Refusal.TheVariants.{NoMemory, NoMoreSessions}
use Rattle.modes_core.specs.declared.tags.Tag.{Tag}
use Rattle.shared_rule.specs.Boards.{Seated, Stack}
use Rattle.lock_manager.specs.Sessions.{SessionView}
use Rattle.lock_manager.specs.WaitingSessions.{WaitingView}
use Rattle.lock_script.specs.declared.command.Command.{Command}
use Rattle.lock_script.specs.declared.command.Command.TheVariants as command
use Rattle.lock_script.specs.declared.names.Names.{Names}
use Rattle.lock_script.specs.declared.objects.NamedObject.{NamedObject}
use Rattle.lock_script.specs.declared.sessions.OpenSessions.{OpenSessions}
use Rattle.lock_script.specs.declared.sessions.Place.{Place}
use Rattle.lock_script.specs.declared.sessions.Place.TheVariants as place
use Rattle.lock_script.specs.Names.{PutsIn}
use Rattle.scenario.specs.declared.answers.Answer.{Answer}
use Rattle.scenario.specs.declared.answers.Answer.TheVariants as answer
use Rattle.scenario.specs.declared.answers.Row.TheVariants as row
use Rattle.scenario.specs.declared.answers.Said.TheVariants as said
use Rattle.scenario.specs.declared.sessions.Action.{Action}
use Rattle.scenario.specs.declared.sessions.Action.TheVariants as action
use Rattle.scenario.specs.Answered.{AcquiresAt, CallsAt, ClosesAt, OwnsAt, WaitsAt}
use Rattle.scenario.specs.Calls.{IsActionOf}
use Rattle.scenario.specs.Numbers.{IsNamed}

-- What a command is answered, and what it leaves of a script's sessions.

-- The sessions of a script: those that are open, and the names of those that were opened, by their numbers,
-- beside those that it gave to objects.
pub record Cast (B : Type 0) : Type 0 where
  pub sessions : OpenSessions (SessionView B) (WaitingView B)
  pub names : Names

-- the number of the session that stands there
abbrev pub IsNumberAt : {B : Type 0} → (B → Seated) → OpenSessions (SessionView B) (WaitingView B) → Place → ℕ → Type 0
IsNumberAt seat sessions (place.Resting at) number = HoldsAt (λ one. number ≡ (seat one.session.board).number) sessions.resting at
IsNumberAt seat sessions (place.Waiting at) number = HoldsAt (λ one. number ≡ (seat one.session.board).number) sessions.waiting at

-- the number of the other session that a command names, if it names one
abbrev pub IsOtherOf : {B : Type 0} → (B → Seated) → OpenSessions (SessionView B) (WaitingView B) → Command → ℕ → Type 0
IsOtherOf seat sessions (command.Blockers by other tag) number = IsNumberAt seat sessions other.place number
IsOtherOf seat sessions (command.Cancel by other) number = IsNumberAt seat sessions other.place number
IsOtherOf seat sessions _ number = ⊤

-- A session was opened: it holds nothing, is told its number, stands among those that don't wait, and is
-- known by its name from then on. Where numbers are given out `again`, it may have that of a closed one.
pub record Opens {B : Type 0} (seat : B → Seated) (again : Bool) (database_of : SessionView B → ℕ) (entries : SessionView B → List Entry) (old new : Cast B)
    (name : ArrayString 16) (database : ℕ) (it : Answer) : Type 0 where
  pub session : SessionView B
  pub of_database : database_of session ≡ database
  pub nothing : entries session ≡ []
  pub answered : it ≡ answer.Said name (said.Opened (seat session.board).number database)
  pub joins : PutsIn old.sessions.resting (record { name = name; session = session }) new.sessions.resting
  pub waiting : new.sessions.waiting ≡ old.sessions.waiting
  pub names : IsNamed again (seat session.board).number name old.names.sessions new.names.sessions
  pub objects : new.names.objects ≡ old.names.objects

-- An object was given a name, or the script's memory didn't suffice, and then it has none.
abbrev pub NamesObject : List NamedObject → List NamedObject → ArrayString 63 → Tag → Answer → Type 0
NamesObject old new name tag it =
    ((it ≡ answer.Row (row.Named (record { name = name; tag = tag }))) × (new ≡ old ++ record { name = name; tag = tag } ∷ []))
    ⊎ ((it ≡ answer.NoMemory) × (new ≡ old))

-- No session was opened.
pub record OpensNone {B : Type 0} (old new : Cast B) (name : ArrayString 16) (it : Answer) : Type 0 where
  pub refusal : Refusal
  pub why : (refusal ≡ NoMoreSessions) ⊎ (refusal ≡ NoMemory)
  pub answered : it ≡ answer.Said name (said.Refused refusal)
  pub same : new ≡ old

module _
    {B : Type 0} (seat : B → Seated) (view : B → Account) (stack : B → Stack) (again : Bool) (database_of : SessionView B → ℕ) (entries : SessionView B → List Entry)
    (old new : Cast B) where
  -- The sessions are left as the library's call leaves them, and its answer is told.
  abbrev pub IsDone : Action → Answer → Type 0
  IsDone (action.Open name database) it = Opens seat again database_of entries old new name database it ⊎ OpensNone old new name it
  IsDone (action.Name name tag) it =
      NamesObject old.names.objects new.names.objects name tag it × (new.names.sessions ≡ old.names.sessions) × (new.sessions ≡ old.sessions)
  IsDone (action.Close caller) it = ClosesAt seat view stack old.sessions new.sessions caller it × (new.names ≡ old.names)
  IsDone (action.Lock target owner) it =
      (AcquiresAt seat view stack old.sessions new.sessions target owner it ⊎ WaitsAt seat view stack old.sessions new.sessions target owner it)
      × (new.names ≡ old.names)
  IsDone (action.Make caller other call) it = CallsAt seat view stack old.sessions new.sessions caller other call it × (new.names ≡ old.names)
  IsDone (action.Owned target) it = OwnsAt seat view stack old.sessions new.sessions target it × (new.names ≡ old.names)
  IsDone (action.Hash tag) it = (it ≡ answer.Row (row.Hash tag)) × (new ≡ old)

  -- The command was carried out by the call that it is, and this is its answer.
  pub record Answers (command : Command) (it : Answer) : Type 0 where
    pub number : ℕ
    pub other : IsOtherOf seat old.sessions command number
    pub action : Action
    pub which : IsActionOf command number action
    pub done : IsDone action it
