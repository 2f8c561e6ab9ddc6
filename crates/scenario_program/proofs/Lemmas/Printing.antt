-- What a witness passes on of a script is printed, and leaves the buffer.
use Rattle.std.proofs.Common.{◌≡◌, ◌∙◌, ℕ, List, [], ◌∷◌, ap, append-nil, refl, subst, sym, None, Some, IfSome, inl, inr}
use Rattle.std.specs.Prelude.{◌||◌, Bool, true, false, IsTrue, MatchBool, Option, Result, Ok, Err, IsSomeAnd}
use Rattle.std.specs.Io.Buffered.{writer_buffer, writer_contents, writer_inner}
use Rattle.std.specs.Io.KnownBytes.{Appends, Keeps, append_known}
use Rattle.std.specs.declared.io.buffered.BufWriter.{BufWriter}
use Rattle.std.proofs.KnownBytes.{Appends-kept}
use Rattle.local_locks.specs.declared.records.Entry.{Entry}
use Rattle.lock_manager.specs.Sessions.{SessionView}
use Rattle.lock_script.specs.declared.faults.Fault.{Fault}
use Rattle.lock_script.specs.declared.faults.Fault.TheVariants.{BadLine, ReadFailed, WriteFailed, NoMemory, GateHeld}
use Rattle.lock_world.specs.Account.{Account}
use Rattle.shared_rule.specs.Boards.{Seated, Stack}
use Rattle.scenario.specs.Acts.{IsKeptHeard, UnlessUnheard, WhereKnown, Writes, no_cast}
use Rattle.scenario.specs.Heard.{Heard, Hears, HearsAll}
use Rattle.scenario.specs.Printed.{IsFormOf, Prints}
use Rattle.scenario.specs.Scripts.{IsScriptHeard, PlaysScript}
use Rattle.scenario.specs.Staged.{PlaysKept}
use Rattle.scenario.specs.Written.{text_of_all}
use Rattle.scenario.proofs.Lemmas.Printing.{heard-written}
use Rattle.scenario_program.specs.Runs.{ArePassedOn, PassesOn, PrintsAll, PrintsKept, PrintsScript}
use Rattle.scenario_program.specs.declared.options.RunOptions.{RunOptions}
use Rattle.scenario_program.specs.declared.outcome.Witness.{Witness}

-- text that is kept is written still
still-written : (text before after last : Option (List ℕ)) → IfSome text (Appends before after) → Keeps after last → IfSome text (Appends before last)
still-written None before after last written kept = tt
still-written (Some text) before after last written kept = Appends-kept before after last text written kept

-- nothing behind what is known
append-nothing : (known : Option (List ℕ)) → append_known known [] ≡ known
append-nothing None = refl
append-nothing (Some bytes) = ap Some (append-nil bytes)

-- A buffer that is empty has what the writer behind it has.
pub begins-empty :
    {W A : Type 0} (contents : W → Option (List ℕ)) (writer buffered : BufWriter W A) (output : W) → writer ≡ buffered → writer_inner buffered ≡ output →
    writer_buffer buffered ≡ [] → writer_contents contents writer ≡ contents output
begins-empty {W} {A} contents writer buffered output same inner empty =
    ap (λ (it : BufWriter W A). writer_contents contents it) same
    ∙ (ap (λ (it : List ℕ). append_known (contents (writer_inner buffered)) it) empty
    ∙ (append-nothing (contents (writer_inner buffered)) ∙ ap (λ (it : W). contents it) inner))

-- What follows, follows of a run whose listener didn't fail.
pub unless-so : {P Q : Type 0} (ended : Result (Unit {0}) Fault) → (P → Q) → UnlessUnheard ended P → UnlessUnheard ended Q
unless-so (Ok done) so p = so p
unless-so (Err (BadLine line what)) so p = so p
unless-so (Err ReadFailed) so p = so p
unless-so (Err WriteFailed) so p = tt
unless-so (Err NoMemory) so p = tt
unless-so (Err GateHeld) so p = tt

known-so : {P Q : Type 0} (speaks : Bool) (ended : Result (Unit {0}) Fault) → (P → Q) → WhereKnown speaks ended P → WhereKnown speaks ended Q
known-so speaks (Ok done) so p = so p
known-so speaks (Err fault) so p = λ silent. unless-so (Err fault) so (p silent)

-- What stands where a line is kept, and where none is, stands in both cases.
by-manner :
    (keep sql : Bool) (P Q : Type 0) → (keep ≡ false → sql ≡ false → Q) → (IsTrue (keep || sql) → P) → MatchBool (keep || sql) P Q
by-manner false false P Q plain kept = plain refl refl
by-manner false true P Q plain kept = kept refl
by-manner true sql P Q plain kept = kept refl

module _ {W : Type 0} (contents : W → Option (List ℕ)) where
  all-passed-on :
      (old new : Witness W) (heard : List Heard) → old.summary ≡ None → HearsAll (PassesOn contents) old heard new →
      HearsAll (Prints contents) old.output heard new.output
  all-passed-on old new [] plain same = ap (λ (it : Witness W). it.output) same
  all-passed-on old new (first ∷ others) plain (next, here, rest) =
      (next.output, here.prints plain, all-passed-on next new others (here.plain plain) rest)

  -- What a witness with no summary hears, its output hears.
  passed-on :
      (IsSo : List Heard → Type 0) (old new : Witness W) → old.summary ≡ None → Hears (PassesOn contents) old new IsSo →
      Hears (Prints contents) old.output new.output IsSo
  passed-on IsSo old new plain (heard, is_so, hears) = (heard, is_so, all-passed-on old new heard plain hears)

  -- What was written stands in a writer that keeps it.
  pub kept-written :
      (IsSo : List Heard → Type 0) (json is_echoing : Bool) (before after : Option (List ℕ)) (output : Option W) →
      IsSomeAnd output (λ writer. Keeps after (contents writer)) → Writes IsSo json is_echoing before after →
      IsSomeAnd output (λ writer. Writes IsSo json is_echoing before (contents writer))
  kept-written IsSo json is_echoing before after None kept it = kept
  kept-written IsSo json is_echoing before after (Some writer) kept it = record {
    heard = it.heard;
    is_so = it.is_so;
    form = it.form;
    is_form = it.is_form;
    written = still-written (text_of_all it.form is_echoing 0 it.heard) before after (contents writer) it.written kept;
  }

module _
    {B W A : Type 0} (seat : B → Seated) (view : B → Account) (stack : B → Stack) (again : Bool) (database_of : SessionView B → ℕ) (entries : SessionView B → List Entry)
    (contents : W → Option (List ℕ)) (script : Option (List ℕ)) (options : RunOptions) (old new : Witness (BufWriter W A)) (output : Option W)
    (plain : old.summary ≡ None) (is_form : IsFormOf options.style.json old.output.form) (echo : old.output.is_echoing ≡ options.style.echo)
    (line : old.output.line ≡ 0) (kept : IsSomeAnd output (λ writer. Keeps (writer_contents contents new.output.writer) (contents writer))) where
  -- What a witness at a buffer heard stands in the writer behind the buffer, which has got it all.
  heard-printed :
      (IsSo : List Heard → Type 0) → Hears (PassesOn (writer_contents contents)) old new IsSo →
      IsSomeAnd output (λ writer. Writes IsSo options.style.json options.style.echo (writer_contents contents old.output.writer) (contents writer))
  heard-printed IsSo heard =
      kept-written contents IsSo options.style.json options.style.echo (writer_contents contents old.output.writer) (writer_contents contents new.output.writer) output kept
      (heard-written (writer_contents contents) IsSo options.style.json options.style.echo old.output new.output is_form echo line
      (passed-on (writer_contents contents) IsSo old new plain heard))

  all-printed :
      (ended : Result (Unit {0}) Fault) → IsScriptHeard seat view stack again database_of entries (PassesOn (writer_contents contents)) script no_cast old ended new →
      PrintsAll seat view stack again database_of entries contents script options (writer_contents contents old.output.writer) ended output
  all-printed (Ok done) heard = heard-printed (PlaysScript seat view stack again database_of entries script no_cast (Ok done)) heard
  all-printed (Err (BadLine number what)) heard =
      heard-printed (PlaysScript seat view stack again database_of entries script no_cast (Err (BadLine number what))) heard
  all-printed (Err ReadFailed) heard = heard-printed (PlaysScript seat view stack again database_of entries script no_cast (Err ReadFailed)) heard
  all-printed (Err WriteFailed) heard = tt
  all-printed (Err NoMemory) heard = tt
  all-printed (Err GateHeld) heard = tt

  in-manner :
      (ended : Result (Unit {0}) Fault) →
      (options.turns.keep ≡ false → options.turns.sql ≡ false →
      IsScriptHeard seat view stack again database_of entries (PassesOn (writer_contents contents)) script no_cast old ended new) →
      (IsTrue (options.turns.keep || options.turns.sql) →
      IsKeptHeard seat view stack again database_of entries (PassesOn (writer_contents contents)) options.turns.sql options.turns.keep script no_cast old ended new) →
      PrintsScript seat view stack again database_of entries contents script options (writer_contents contents old.output.writer) ended output
  in-manner ended heard in-turn =
      by-manner options.turns.keep options.turns.sql
      (PrintsKept seat view stack again database_of entries contents script options (writer_contents contents old.output.writer) ended output)
      (PrintsAll seat view stack again database_of entries contents script options (writer_contents contents old.output.writer) ended output)
      (λ no-keep no-sql. all-printed ended (heard no-keep no-sql))
      (λ keeps. known-so options.turns.sql ended
      (heard-printed (PlaysKept seat view stack again database_of entries options.turns.sql options.turns.keep script no_cast ended)) (in-turn keeps))

module _
    {B W : Type 0} (seat : B → Seated) (view : B → Account) (stack : B → Stack) (again : Bool) (database_of : SessionView B → ℕ) (entries : SessionView B → List Entry)
    (contents : W → Option (List ℕ)) where
  -- of a run that failed to write nothing is said
  none-written :
      (script : Option (List ℕ)) (options : RunOptions) (before : Option (List ℕ)) (output : Option W) →
      PrintsScript seat view stack again database_of entries contents script options before (Err WriteFailed) output
  none-written script options before output = by-manner options.turns.keep options.turns.sql
      (PrintsKept seat view stack again database_of entries contents script options before (Err WriteFailed) output)
      (PrintsAll seat view stack again database_of entries contents script options before (Err WriteFailed) output) (λ _ _. tt) (λ _ _. tt)

  -- What a witness at a buffer heard of a script stands in the writer behind the buffer, unless that failed.
  pub script-printed :
      {A : Type 0} (script : Option (List ℕ)) (options : RunOptions) (before : Option (List ℕ)) (old new : Witness (BufWriter W A))
      (ended last : Result (Unit {0}) Fault) (output : Option W) → old.summary ≡ None → IsFormOf options.style.json old.output.form →
      old.output.is_echoing ≡ options.style.echo → old.output.line ≡ 0 → writer_contents contents old.output.writer ≡ before →
      (options.turns.keep ≡ false → options.turns.sql ≡ false →
      IsScriptHeard seat view stack again database_of entries (PassesOn (writer_contents contents)) script no_cast old ended new) →
      (IsTrue (options.turns.keep || options.turns.sql) →
      IsKeptHeard seat view stack again database_of entries (PassesOn (writer_contents contents)) options.turns.sql options.turns.keep script no_cast old ended new) →
      ArePassedOn contents new.output.writer ended output last →
      PrintsScript seat view stack again database_of entries contents script options before last output
  script-printed script options before old new ended last output plain is_form echo line begins heard in-turn (inr failed) =
      subst (λ (it : Result (Unit {0}) Fault). PrintsScript seat view stack again database_of entries contents script options before it output) (sym failed)
      (none-written script options before output)
  script-printed script options before old new ended last output plain is_form echo line begins heard in-turn (inl (same, kept)) =
      subst (λ (it : Result (Unit {0}) Fault). PrintsScript seat view stack again database_of entries contents script options before it output) (sym same)
      (subst (λ (it : Option (List ℕ)). PrintsScript seat view stack again database_of entries contents script options it ended output) begins
      (in-manner seat view stack again database_of entries contents script options old new output plain is_form echo line kept ended heard in-turn))
