use Rattle.std.specs.Prelude.{◌≡◌, ℕ, Bool, false, List, [], ⊤, Option, Result, Ok, Err, IfSome}
use Rattle.std.specs.Io.KnownBytes.{Appends}
use Rattle.local_locks.specs.declared.records.Entry.{Entry}
use Rattle.lock_manager.specs.Sessions.{SessionView}
use Rattle.lock_script.specs.declared.faults.Fault.{Fault}
use Rattle.lock_script.specs.declared.faults.Fault.TheVariants.{BadLine, ReadFailed, WriteFailed, NoMemory, GateHeld}
use Rattle.lock_world.specs.Account.{Account}
use Rattle.shared_rule.specs.Boards.{Seated, Stack}
use Rattle.scenario.specs.Answers.{Cast}
use Rattle.scenario.specs.Heard.{Heard, Hears}
use Rattle.scenario.specs.Printed.{IsFormOf}
use Rattle.scenario.specs.Scripts.{IsScriptHeard, PlaysScript}
use Rattle.scenario.specs.Staged.{PlaysKept}
use Rattle.scenario.specs.Written.{text_of_all}
use Rattle.scenario.specs.declared.runs.Manner.{Manner}
use Rattle.scenario.specs.declared.runs.Manner.TheVariants.{Keeping, Plain}
use Rattle.scenario.specs.declared.style.Form.{Form}

-- What is done in a scene, and what is written of a script that is run from nothing.

-- no session, and no name
abbrev pub no_cast : {B : Type 0} → Cast B
no_cast = record { sessions = record { resting = []; waiting = [] }; names = record { sessions = []; objects = [] } }

-- What an act of the kind A is, before a listener of the kind L: over a board and a desk of which these are
-- known, it begins with a cast and a listener, ends so, and leaves the listener so.
abbrev pub ActsOf : Type 0 → Type 0 → Type 1
ActsOf A L =
    (B : Type 0) → (B → Seated) → (B → Account) → (B → Stack) → Bool → (SessionView B → ℕ) → (SessionView B → List Entry) → A → Cast B → L →
    Result (Unit {0}) Fault → L → Type 0

-- P, unless the output or the memory failed
abbrev pub UnlessUnheard : Result (Unit {0}) Fault → Type 0 → Type 0
UnlessUnheard (Ok ended) P = P
UnlessUnheard (Err (BadLine line what)) P = P
UnlessUnheard (Err ReadFailed) P = P
UnlessUnheard (Err WriteFailed) P = ⊤
UnlessUnheard (Err NoMemory) P = ⊤
UnlessUnheard (Err GateHeld) P = ⊤

-- P, of a script that ended so: of one that speaks SQL at its end alone, and of another one unless the output
-- or the memory failed
abbrev pub WhereKnown : Bool → Result (Unit {0}) Fault → Type 0 → Type 0
WhereKnown speaks (Ok ended) P = P
WhereKnown speaks (Err fault) P = speaks ≡ false → UnlessUnheard (Err fault) P

-- What was heard is so, and the text of all of it stands behind what a writer had, where its bytes and that
-- text are known.
pub record Writes (IsSo : List Heard → Type 0) (json is_echoing : Bool) (before after : Option (List ℕ)) : Type 0 where
  pub heard : List Heard
  pub is_so : IsSo heard
  pub form : Form
  pub is_form : IsFormOf json form
  pub written : IfSome (text_of_all form is_echoing 0 heard) (Appends before after)

module _
    {B : Type 0} (seat : B → Seated) (view : B → Account) (stack : B → Stack) (again : Bool) (database_of : SessionView B → ℕ) (entries : SessionView B → List Entry) where
  -- A script was heard, where lines of it are kept.
  abbrev pub IsKeptHeard : {L : Type 0} → (L → Heard → L → Type 0) → Bool → Bool → Option (List ℕ) → Cast B → L → Result (Unit {0}) Fault → L → Type 0
  IsKeptHeard hears speaks keeps script old before ended now =
      WhereKnown speaks ended (Hears hears before now (PlaysKept seat view stack again database_of entries speaks keeps script old ended))

  -- A script was heard, in the manner in which its lines are run.
  abbrev pub IsHeardInManner : {L : Type 0} → (L → Heard → L → Type 0) → Manner → Option (List ℕ) → Cast B → L → Result (Unit {0}) Fault → L → Type 0
  IsHeardInManner hears Plain script old before ended now =
      IsScriptHeard seat view stack again database_of entries hears script old before ended now
  IsHeardInManner hears (Keeping keeping) script old before ended now =
      IsKeptHeard hears keeping.speaks keeping.keeps script old before ended now

  -- A script is run from nothing, and what is heard of it is written.
  abbrev pub WritesScript : Option (List ℕ) → Bool → Bool → Option (List ℕ) → Result (Unit {0}) Fault → Option (List ℕ) → Type 0
  WritesScript script json is_echoing before ended after =
      Writes (PlaysScript seat view stack again database_of entries script no_cast ended) json is_echoing before after

  -- A script of which lines are kept is run from nothing, and what is heard of it is written.
  abbrev pub WritesKept : Bool → Bool → Option (List ℕ) → Bool → Bool → Option (List ℕ) → Result (Unit {0}) Fault → Option (List ℕ) → Type 0
  WritesKept speaks keeps script json is_echoing before ended after =
      Writes (PlaysKept seat view stack again database_of entries speaks keeps script no_cast ended) json is_echoing before after
