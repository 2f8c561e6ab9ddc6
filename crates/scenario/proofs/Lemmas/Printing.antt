-- What is heard one after another is written one after another.
use Rattle.std.proofs.Common.{◌≡◌, ℕ, List, [], ◌∷◌, subst, sym, None, Some, IfSome}
use Rattle.std.specs.Prelude.{Bool, Option, Result, Ok, Err}
use Rattle.std.specs.Io.KnownBytes.{Appends}
use Rattle.std.proofs.KnownBytes.{Appends-nil, Appends-trans}
use Rattle.local_locks.specs.declared.records.Entry.{Entry}
use Rattle.lock_manager.specs.Sessions.{SessionView}
use Rattle.lock_script.specs.declared.faults.Fault.{Fault}
use Rattle.lock_script.specs.declared.faults.Fault.TheVariants.{BadLine, ReadFailed, WriteFailed, NoMemory, GateHeld}
use Rattle.lock_world.specs.Account.{Account}
use Rattle.shared_rule.specs.Boards.{Seated, Stack}
use Rattle.scenario.specs.Acts.{UnlessUnheard, Writes, WritesScript, no_cast}
use Rattle.scenario.specs.Heard.{Heard, Hears, HearsAll}
use Rattle.scenario.specs.Printed.{IsFormOf, Prints, line_at, text_heard}
use Rattle.scenario.specs.Scripts.{IsScriptHeard, PlaysScript}
use Rattle.scenario.specs.Written.{joined, text_of_all}
use Rattle.scenario.specs.declared.output.Output.{Output}
use Rattle.scenario.specs.declared.style.Form.{Form}

-- a part, and then the others
appends-joined :
    (a b c first later : Option (List ℕ)) → IfSome first (Appends a b) → IfSome later (Appends b c) → IfSome (joined first later) (Appends a c)
appends-joined a b c None later here rest = tt
appends-joined a b c (Some x) None here rest = tt
appends-joined a b c (Some x) (Some y) here rest = Appends-trans a b c x y here rest

module _ {W : Type 0} (contents : W → Option (List ℕ)) where
  pub all-printed :
      (old new : Output W) (heard : List Heard) → HearsAll (Prints contents) old heard new →
      IfSome (text_of_all old.form old.is_echoing old.line heard) (Appends (contents old.writer) (contents new.writer))
  all-printed old new [] same =
      subst (λ (it : Output W). Appends (contents old.writer) (contents it.writer) []) (sym same) (Appends-nil (contents old.writer))
  all-printed old new (first ∷ others) (next, here, rest) =
      appends-joined (contents old.writer) (contents next.writer) (contents new.writer) (text_heard old.form old.is_echoing old.line first)
      (text_of_all old.form old.is_echoing (line_at old.line first) others) here.text
      (subst (λ (n : ℕ). IfSome (text_of_all old.form old.is_echoing n others) (Appends (contents next.writer) (contents new.writer))) here.line
      (subst (λ (b : Bool). IfSome (text_of_all old.form b next.line others) (Appends (contents next.writer) (contents new.writer))) here.is_echoing
      (subst (λ (f : Form). IfSome (text_of_all f next.is_echoing next.line others) (Appends (contents next.writer) (contents new.writer))) here.form
      (all-printed next new others rest))))

  -- What an output heard it has written.
  pub heard-written :
      (IsSo : List Heard → Type 0) (json is_echoing : Bool) (old new : Output W) → IsFormOf json old.form → old.is_echoing ≡ is_echoing → old.line ≡ 0 →
      Hears (Prints contents) old new IsSo → Writes IsSo json is_echoing (contents old.writer) (contents new.writer)
  heard-written IsSo json is_echoing old new is_form echo line (heard, is_so, hears) = record {
    heard = heard;
    is_so = is_so;
    form = old.form;
    is_form = is_form;
    written = subst (λ (b : Bool). IfSome (text_of_all old.form b 0 heard) (Appends (contents old.writer) (contents new.writer))) echo
        (subst (λ (n : ℕ). IfSome (text_of_all old.form old.is_echoing n heard) (Appends (contents old.writer) (contents new.writer))) line
        (all-printed old new heard hears));
  }

module _
    {B W : Type 0} (seat : B → Seated) (view : B → Account) (stack : B → Stack) (again : Bool) (database_of : SessionView B → ℕ) (entries : SessionView B → List Entry)
    (contents : W → Option (List ℕ)) where
  -- what an output heard of a script that ended so
  played-written :
      (script : Option (List ℕ)) (json is_echoing : Bool) (old new : Output W) (ended : Result (Unit {0}) Fault) → IsFormOf json old.form → old.is_echoing ≡ is_echoing →
      old.line ≡ 0 → Hears (Prints contents) old new (PlaysScript seat view stack again database_of entries script no_cast ended) →
      WritesScript seat view stack again database_of entries script json is_echoing (contents old.writer) ended (contents new.writer)
  played-written script json is_echoing old new ended =
      heard-written contents (PlaysScript seat view stack again database_of entries script no_cast ended) json is_echoing old new

  pub script-written :
      (script : Option (List ℕ)) (json is_echoing : Bool) (old new : Output W) (ended : Result (Unit {0}) Fault) → IsFormOf json old.form → old.is_echoing ≡ is_echoing →
      old.line ≡ 0 → IsScriptHeard seat view stack again database_of entries (Prints contents) script no_cast old ended new →
      UnlessUnheard ended (WritesScript seat view stack again database_of entries script json is_echoing (contents old.writer) ended (contents new.writer))
  script-written script json is_echoing old new (Ok ended) is_form echo line heard = played-written script json is_echoing old new (Ok ended) is_form echo line heard
  script-written script json is_echoing old new (Err (BadLine number what)) is_form echo line heard =
      played-written script json is_echoing old new (Err (BadLine number what)) is_form echo line heard
  script-written script json is_echoing old new (Err ReadFailed) is_form echo line heard =
      played-written script json is_echoing old new (Err ReadFailed) is_form echo line heard
  script-written script json is_echoing old new (Err WriteFailed) is_form echo line heard = tt
  script-written script json is_echoing old new (Err NoMemory) is_form echo line heard = tt
  script-written script json is_echoing old new (Err GateHeld) is_form echo line heard = tt

  -- What a run has written that began with this writer, and gives this one back.
  pub run-written :
      (script : Option (List ℕ)) (json is_echoing : Bool) (writer now : W) (old new : Output W) (ended : Result (Unit {0}) Fault) → old.writer ≡ writer →
      now ≡ new.writer → IsFormOf json old.form → old.is_echoing ≡ is_echoing → old.line ≡ 0 →
      IsScriptHeard seat view stack again database_of entries (Prints contents) script no_cast old ended new →
      UnlessUnheard ended (WritesScript seat view stack again database_of entries script json is_echoing (contents writer) ended (contents now))
  run-written script json is_echoing writer now old new ended was is is_form echo line heard =
      subst (λ (it : W). UnlessUnheard ended (WritesScript seat view stack again database_of entries script json is_echoing (contents it) ended (contents now))) was
      (subst (λ (it : W). UnlessUnheard ended (WritesScript seat view stack again database_of entries script json is_echoing (contents old.writer) ended (contents it)))
      (sym is) (script-written script json is_echoing old new ended is_form echo line heard))
