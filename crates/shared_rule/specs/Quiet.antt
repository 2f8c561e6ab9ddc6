use Rattle.std.specs.Prelude.{ℕ, List, [], ◌∷◌, Result, Ok, Err}
use Rattle.modes_core.specs.declared.modes.Mode.{Mode}
use Rattle.modes_core.specs.declared.tags.Tag.{Tag}
use Rattle.lock_world.specs.declared.events.Step.{Step}
use Rattle.lock_world.specs.declared.events.Step.TheVariants as step
use Rattle.lock_world.specs.declared.events.Word.TheVariants.{Fast}
use Rattle.lw_word.specs.declared.words.LwMode.{LwMode}
use Rattle.lw_word.specs.declared.words.LwMode.TheVariants.{Exclusive, Shared}
use Rattle.shared_rule.specs.declared.history.History.{History}
use Rattle.shared_rule.specs.declared.history.Mark.{Mark}
use Rattle.shared_rule.specs.declared.history.Mark.TheVariants.{OfWords}
use Rattle.shared_rule.specs.declared.history.WordMark.{WordMark}
use Rattle.shared_rule.specs.declared.history.WordMark.TheVariants.{TookFast, SharedFast, Counted, SetSlot, StoredDatabase}

-- Steps that leave no trace, and that a later step of the session undoes: nothing in its account says then
-- how many there were. They are listed by themselves, the last one first. What undoes them isn't: what is
-- left of them the account has.
pub data Quiet : Type 0 where
  -- it took the lock of this session's slots, or shared it
  TakesSlots : (owner : ℕ) → Quiet
  SharesSlots : (owner : ℕ) → Quiet
  -- it set a mode on an object in a slot of its own
  SetsSlot : (tag : Tag) → (mode : Mode) → Quiet
  -- it counted a strong lock
  CountsStrong : (tag : Tag) → (mode : Mode) → Quiet
  -- it stored a database as its own
  StoresDatabase : (database : ℕ) → Quiet

-- getting the lock of a session's slots, exclusively or to share it
abbrev pub quiet_getting : LwMode → ℕ → List Quiet → List Quiet
quiet_getting Exclusive owner before = TakesSlots owner ∷ before
quiet_getting Shared owner before = SharesSlots owner ∷ before

-- trying for the lock of its own slots, by whether it got it
abbrev pub quiet_trying : {T E : Type 0} → ℕ → Result T E → List Quiet → List Quiet
quiet_trying number (Ok done) before = TakesSlots number ∷ before
quiet_trying number (Err refusal) before = before

-- the quiet steps of a history once a step that tells of no content joins it
abbrev pub quiet_words : List Quiet → WordMark → List Quiet
quiet_words before (TookFast owner database words) = TakesSlots owner ∷ before
quiet_words before (SharedFast owner database words) = SharesSlots owner ∷ before
quiet_words before (SetSlot slot tag mode) = SetsSlot tag mode ∷ before
quiet_words before (Counted tag mode) = CountsStrong tag mode ∷ before
quiet_words before (StoredDatabase database) = StoresDatabase database ∷ before
quiet_words before its = before

module _ {T : Type 0} where
  -- the quiet steps of a history once a step joins it
  abbrev pub quiet_noted : List Quiet → Mark T → List Quiet
  quiet_noted before (OfWords its) = quiet_words before its
  quiet_noted before its = before

  -- the quiet steps of a history with these steps, the last one first
  abbrev pub quiet_told : List (Mark T) → List Quiet
  quiet_told [] = []
  quiet_told (mark ∷ marks) = quiet_noted (quiet_told marks) mark

  -- the quiet steps of the session that makes its steps with the seat
  abbrev pub first_quiet : List (History T) → List Quiet
  first_quiet [] = []
  first_quiet (history ∷ others) = quiet_told history.marks

-- the quiet steps of a run once a step joins it
abbrev pub quiet_after : List Quiet → Step → List Quiet
quiet_after before (step.TakeExclusive (Fast owner)) = TakesSlots owner ∷ before
quiet_after before (step.TakeShared (Fast owner)) = SharesSlots owner ∷ before
quiet_after before (step.SetSlot slot tag mode) = SetsSlot tag mode ∷ before
quiet_after before (step.Count tag mode) = CountsStrong tag mode ∷ before
quiet_after before (step.StoreDatabase database) = StoresDatabase database ∷ before
quiet_after before its = before

-- the quiet steps of a run once these steps join it, the first one first
abbrev pub quiet_of : List Quiet → List Step → List Quiet
quiet_of before [] = before
quiet_of before (its ∷ steps) = quiet_of (quiet_after before its) steps
