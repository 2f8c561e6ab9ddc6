use Rattle.std.specs.Prelude.{◌≡◌, ◌⊎◌, ◌||◌, ℕ, Bool, MatchBool, true, false, List, Option, None, IsSomeAnd, Result, Ok, Err}
use Rattle.std.specs.Io.Buffered.{writer_contents}
use Rattle.std.specs.Io.KnownBytes.{Keeps}
use Rattle.std.specs.declared.io.buffered.BufWriter.{BufWriter}
use Rattle.local_locks.specs.declared.records.Entry.{Entry}
use Rattle.lock_manager.specs.Sessions.{SessionView}
use Rattle.lock_script.specs.Fault.{status_of}
use Rattle.lock_script.specs.declared.faults.Fault.{Fault}
use Rattle.lock_script.specs.declared.faults.Fault.TheVariants.{WriteFailed}
use Rattle.lock_world.specs.Account.{Account}
use Rattle.scenario.specs.Acts.{UnlessUnheard, WhereKnown, WritesKept, WritesScript}
use Rattle.scenario.specs.Heard.{Heard}
use Rattle.scenario.specs.Printed.{Prints}
use Rattle.scenario_program.specs.declared.options.FailOn.{FailOn}
use Rattle.scenario_program.specs.declared.options.RunOptions.{RunOptions}
use Rattle.scenario_program.specs.declared.outcome.Witness.{Witness}
use Rattle.shared_rule.specs.Boards.{Seated, Stack}

-- What a run of the program comes to.

-- A run is asked for what the lines of a script are answered: no picture is drawn, and no summary told at its
-- end.
pub record ShowsAnswers (options : RunOptions) : Type 0 where
  pub summary : options.summary ≡ false
  pub graph : options.style.graph ≡ None

-- whether a run fails for something, though its script has no bad line
abbrev pub fails_for : FailOn → Bool
fails_for fail_on = fail_on.waits || fail_on.refused || fail_on.stuck

-- The status of a run that ended so: 0, or 4 where it fails for something; and a fault's own.
abbrev pub IsStatusOf : FailOn → Result (Unit {0}) Fault → ℕ → Type 0
IsStatusOf fail_on (Ok ended) status = (status ≡ 0) ⊎ ((status ≡ 4) × (fails_for fail_on ≡ true))
IsStatusOf fail_on (Err fault) status = status ≡ status_of fault

-- Where a witness has no summary to tell, it passes on to its output what it hears, and has none then either.
pub record PassesOn {W : Type 0} (contents : W → Option (List ℕ)) (old : Witness W) (heard : Heard) (new : Witness W) : Type 0 where
  pub prints : old.summary ≡ None → Prints contents old.output heard new.output
  pub plain : old.summary ≡ None → new.summary ≡ None

-- The writer behind the buffer has all that the buffer was to write, and the run has ended as it did before;
-- or writing failed.
abbrev pub ArePassedOn : {W A : Type 0} → (W → Option (List ℕ)) → BufWriter W A → Result (Unit {0}) Fault → Option W → Result (Unit {0}) Fault → Type 0
ArePassedOn contents buffered before output ended =
    ((ended ≡ before) × IsSomeAnd output (λ writer. Keeps (writer_contents contents buffered) (contents writer))) ⊎ (ended ≡ Err WriteFailed)

module _
    {B : Type 0} (seat : B → Seated) (view : B → Account) (stack : B → Stack) (again : Bool) (database_of : SessionView B → ℕ) (entries : SessionView B → List Entry) where
  -- The script was run from nothing, and the text of all that was heard of it stands behind what the writer
  -- had before. The writer comes back, unless the output or the memory failed.
  abbrev pub PrintsAll : {W : Type 0} → (W → Option (List ℕ)) → Option (List ℕ) → RunOptions → Option (List ℕ) → Result (Unit {0}) Fault → Option W → Type 0
  PrintsAll contents script options before ended output =
      UnlessUnheard ended (IsSomeAnd output (λ writer.
      WritesScript seat view stack again database_of entries script options.style.json options.style.echo before ended (contents writer)))

  -- The script was run from nothing, where lines of it are kept or what its SQL comes to is, and the text of
  -- all that was heard of it stands there.
  abbrev pub PrintsKept : {W : Type 0} → (W → Option (List ℕ)) → Option (List ℕ) → RunOptions → Option (List ℕ) → Result (Unit {0}) Fault → Option W → Type 0
  PrintsKept contents script options before ended output =
      WhereKnown options.turns.sql ended (IsSomeAnd output (λ writer.
      WritesKept seat view stack again database_of entries options.turns.sql options.turns.keep script options.style.json options.style.echo before
      ended (contents writer)))

  -- The script was run so, in the manner that is asked for.
  abbrev pub PrintsScript : {W : Type 0} → (W → Option (List ℕ)) → Option (List ℕ) → RunOptions → Option (List ℕ) → Result (Unit {0}) Fault → Option W → Type 0
  PrintsScript contents script options before ended output =
      MatchBool (options.turns.keep || options.turns.sql) (PrintsKept contents script options before ended output)
      (PrintsAll contents script options before ended output)

  -- The script was run so, and this is the status for how it ended.
  pub record RunsScript {W : Type 0} (contents : W → Option (List ℕ)) (script : Option (List ℕ)) (options : RunOptions) (before : Option (List ℕ)) (output : Option W) (status : ℕ) : Type 0 where
    pub ended : Result (Unit {0}) Fault
    pub prints : PrintsScript contents script options before ended output
    pub is_status : IsStatusOf options.fail_on ended status
