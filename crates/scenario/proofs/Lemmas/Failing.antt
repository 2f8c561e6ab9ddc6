-- Faults that end a script of which lines are kept.
use Rattle.std.proofs.Common.{◌≡◌, ℕ, List, Bool, inl, inr, refl, subst, sym, Result, Ok, Err}
use Rattle.std.specs.Prelude.{◌⊎◌, IfErr}
use Rattle.local_locks.specs.declared.records.Entry.{Entry}
use Rattle.lock_manager.specs.Sessions.{SessionView}
use Rattle.lock_script.specs.declared.faults.Defect.{Defect}
use Rattle.lock_script.specs.declared.faults.Fault.{Fault}
use Rattle.lock_script.specs.declared.faults.Fault.TheVariants.{BadLine, ReadFailed, WriteFailed, NoMemory, GateHeld}
use Rattle.lock_script.specs.declared.kept.KeptQueue.{KeptQueue}
use Rattle.lock_world.specs.Account.{Account}
use Rattle.shared_rule.specs.Boards.{Seated, Stack}
use Rattle.scenario.specs.Acts.{UnlessUnheard}
use Rattle.scenario.specs.Heard.{Heard, IsUnheard, Kept}
use Rattle.scenario.specs.InTurn.{FailsKept, FailsNow, IsBad, IsNext}
use Rattle.scenario.specs.Scripts.{IsBadLine, ScriptLine}
use Rattle.scenario.specs.Staged.{Stage, play_of}
use Rattle.scenario.proofs.Lemmas.InTurn.{HaveRun}

-- Of a run whose listener failed nothing is said.
pub unless-unheard : (P : Type 0) (fault : Fault) → IsUnheard fault → UnlessUnheard (Err fault) P
unless-unheard P (BadLine line what) unheard = absurd unheard
unless-unheard P ReadFailed unheard = absurd unheard
unless-unheard P WriteFailed unheard = tt
unless-unheard P NoMemory unheard = tt
unless-unheard P GateHeld unheard = absurd unheard

pub unheard-bad : {C : Type 0} (P : ScriptLine → Defect → C → Type 0) (new : C) (fault : Fault) → IsUnheard fault → IsBad P new fault
unheard-bad P new (BadLine line what) unheard = absurd unheard
unheard-bad P new ReadFailed unheard = absurd unheard
unheard-bad P new WriteFailed unheard = tt
unheard-bad P new NoMemory unheard = tt
unheard-bad P new GateHeld unheard = absurd unheard

-- A bad line is as P says, and so it is as Q says.
pub bad-so :
    {C D : Type 0} (P : ScriptLine → Defect → C → Type 0) (Q : ScriptLine → Defect → D → Type 0) (p : C) (q : D) (told : Result (Unit {0}) Fault) →
    ((bad : ScriptLine) (what : Defect) → P bad what p → Q bad what q) → IfErr told (IsBad P p) → IfErr told (IsBad Q q)
bad-so P Q p q (Ok done) so bad = tt
bad-so P Q p q (Err (BadLine line what)) so (bad, at, it) = (bad, at, so bad what it)
bad-so P Q p q (Err ReadFailed) so bad = absurd bad
bad-so P Q p q (Err WriteFailed) so bad = tt
bad-so P Q p q (Err NoMemory) so bad = tt
bad-so P Q p q (Err GateHeld) so bad = absurd bad

-- A line that was told to be kept is bad, or the memory failed.
pub keeps-bad :
    {L : Type 0} (hears : L → Heard → L → Type 0) (before now : L) (line : ScriptLine) (told : Result (Unit {0}) Fault) →
    hears before (Kept line.number line.text) now →
    IfErr told (λ fault. (fault ≡ NoMemory) ⊎ ((what : Defect) × (fault ≡ BadLine line.number what))) →
    IfErr told (IsBad (λ bad _ now. (bad ≡ line) × hears before (Kept line.number line.text) now) now)
keeps-bad hears before now line (Ok done) heard bad = tt
keeps-bad {L} hears before now line (Err fault) heard (inl failed) =
    subst (λ it. IsBad (λ bad _ now. (bad ≡ line) × hears before (Kept line.number line.text) now) now it) (sym failed) tt
keeps-bad {L} hears before now line (Err fault) heard (inr (what, is)) =
    subst (λ it. IsBad (λ bad _ now. (bad ≡ line) × hears before (Kept line.number line.text) now) now it) (sym is) (line, refl, (refl, heard))

module _
    {B L : Type 0} (seat : B → Seated) (view : B → Account) (stack : B → Stack) (again : Bool) (database_of : SessionView B → ℕ) (entries : SessionView B → List Entry)
    (hears : L → Heard → L → Type 0) where
  -- A line that is run is bad.
  pub now-bad :
      (old new : Stage B L) (kept : List KeptQueue) (line : ScriptLine) (fault : Fault) →
      IsBadLine hears line.number old.cast old.listener line.text fault new.cast new.listener →
      IsBad (FailsNow (play_of seat view stack again database_of entries hears) old kept line) new fault
  now-bad old new kept line (BadLine number what) (at, defect, heard, same) = (line, at, inl (refl, (defect, heard, same)))
  now-bad old new kept line ReadFailed bad = absurd bad
  now-bad old new kept line WriteFailed bad = tt
  now-bad old new kept line NoMemory bad = tt
  now-bad old new kept line GateHeld bad = absurd bad

  -- A kept line is bad, behind those that were run so far.
  pub kept-bad :
      (old mid new : Stage B L) (kept some left : List KeptQueue) (name : List ℕ) (line : ScriptLine) (fault : Fault) →
      HaveRun (play_of seat view stack again database_of entries hears) old kept mid some →
      IsNext mid.cast.sessions.waiting some name line left →
      IsBadLine hears line.number mid.cast mid.listener line.text fault new.cast new.listener →
      IsBad (FailsKept (play_of seat view stack again database_of entries hears) old kept) new fault
  kept-bad old mid new kept some left name line (BadLine number what) (lines, runs) next (at, defect, heard, same) = (
    line,
    at,
    record { lines = lines; mid = mid; some = some; runs = runs; name = name; left = left; next = next; fails = (defect, heard, same) },
  )
  kept-bad old mid new kept some left name line ReadFailed before next bad = absurd bad
  kept-bad old mid new kept some left name line WriteFailed before next bad = tt
  kept-bad old mid new kept some left name line NoMemory before next bad = tt
  kept-bad old mid new kept some left name line GateHeld before next bad = absurd bad
