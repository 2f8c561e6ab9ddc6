use Rattle.std.specs.Prelude.{◌≡◌, ℕ, ◌+◌, List, [], ◌∷◌, ◌++◌, map, reverse, filter, length, sum_by, Result, Ok, IfOk}
use Rattle.std.specs.List.{AllZip, AllByRecursion}
use Rattle.modes_core.specs.Tag.{is_strong_on}
use Rattle.lock_table.specs.declared.no_memory.NoMemory.{NoMemory}
use Rattle.lock_manager.specs.Keeper.{PartView, content_of}
use Rattle.local_locks.specs.declared.records.Entry.{Entry}
use Rattle.local_locks.specs.Owned.{IsWellOwned}
use Rattle.lock_world.specs.Account.{Account}
use Rattle.shared_rule.specs.declared.audits.Audit.{Audit}
use Rattle.shared_rule.specs.declared.history.History.{History}
use Rattle.shared_rule.specs.Audits.{AddsUp, Counts}
use Rattle.shared_rule.specs.Boards.{Seated, Stack}
use Rattle.shared_rule.specs.Gatherings.{Gathered, NoneWaits, gathered_in}
use Rattle.shared_rule.specs.History.{told, first_account, first_number}
use Rattle.shared_rule.specs.Openers.{OpenerState}
use Rattle.shared_rule.specs.Quiet.{Quiet, quiet_told, first_quiet}
use Rattle.shared_rule.specs.Seats.{MayBeKeptApartBy, behind_of}
use Rattle.lock_manager.specs.Sessions.{SessionView, IsResting, IsUnchanged}

-- An audit of all open sessions, by what their boards show.

-- The opener's seat may count once this many sessions more are gathered: some are, none of which waits, and
-- of all numbers given out each is among these, or has closed.
pub record MayCount (left : ℕ) (opener : OpenerState PartView) : Type 0 where
  pub first : History PartView
  pub others : List (History PartView)
  pub gathered : opener.gathered ≡ first ∷ others
  pub all : length opener.gathered + left + length opener.closed ≡ opener.issued
  pub nobody_waits : NoneWaits (gathered_in content_of opener.gathered)
  pub nothing_in_hand : MayBeKeptApartBy (first_account content_of opener.gathered)

-- Sums over sessions, of which these are the local entries.
module _ {S : Type 0} (entries : S → List Entry) where
  -- how many local entries the sessions have together
  abbrev pub entries_owned : List S → ℕ
  entries_owned sessions = sum_by (λ session. length (entries session)) sessions

  -- how many local entries of strong modes the sessions have together
  abbrev pub strong_owned : List S → ℕ
  strong_owned sessions = sum_by (λ session. length (filter (λ entry. is_strong_on entry.tag entry.mode) (entries session))) sessions

module _ {B : Type 0} (seat : B → Seated) (view : B → Account) (stack : B → Stack) (quiet : B → List Quiet) where
  -- The session is as it was but for its trace, and has made no quiet step.
  pub record HasTraced (old new : SessionView B) : Type 0 where
    pub seat_ : seat new.board ≡ seat old.board
    pub view_ : view new.board ≡ record (view old.board) { trace = (view new.board).trace }
    pub stack_ : stack new.board ≡ stack old.board
    pub quiet_ : quiet new.board ≡ quiet old.board
    pub database : new.database ≡ old.database
    pub uses : new.uses ≡ old.uses
    pub owned : new.owned ≡ old.owned

  -- An audit by the first session. All else of it is as before, and the others are as before altogether;
  -- nobody makes a quiet step. It counts what its own loads and the contents taken together show. Modes in
  -- slots and rows of holds are as many as all have local entries, and the counters' sum is how many of these
  -- are strong.
  pub record AuditsBy {E : Type 0} (limit groups : ℕ) (first : SessionView B) (others new : List (SessionView B)) (result : Result Audit E) : Type 0 where
    pub first_after : SessionView B
    pub others_after : List (SessionView B)
    pub sessions : new ≡ first_after ∷ others_after
    pub traced : HasTraced first first_after
    pub unchanged : AllZip (IsUnchanged seat view stack quiet) others others_after
    pub counts : Counts limit groups (view first.board).trace result (view first_after.board).trace
    pub holds : IfOk result (λ audit. audit.fast + audit.table ≡ entries_owned (λ session. session.owned.entries) (first ∷ others))
    pub strong : IfOk result (λ audit. audit.strong ≡ strong_owned (λ session. session.owned.entries) (first ∷ others))

  -- With no session there is no step, and nothing to count.
  abbrev pub Audits : {E : Type 0} → ℕ → ℕ → List (SessionView B) → List (SessionView B) → Result Audit E → Type 0
  Audits {E} limit groups [] new result = (new ≡ []) × (result ≡ Ok (record { fast = 0; table = 0; strong = 0 }))
  Audits {E} limit groups (first ∷ others) new result = AuditsBy limit groups first others new result

  -- ---- the sessions gathered one after another, the last one of a list first

  abbrev pub gathered_of : SessionView B → Gathered
  gathered_of session = record { number = (seat session.board).number; account = view session.board }

  -- Each is in no call, and owns each mode on an object once.
  abbrev pub AreOwners : List (SessionView B) → Type 0
  AreOwners sessions = AllByRecursion (λ session. IsResting seat view stack session × IsWellOwned session.owned) sessions

  -- With these gathered behind those that were, the first of all has counted; then they are back as they
  -- were.
  pub record CountsWith (old : OpenerState PartView) (sessions : List (SessionView B)) (result : Result Audit NoMemory)
      (new : OpenerState PartView) (after : List (SessionView B)) : Type 0 where
    pub counts : Counts old.limit old.groups (first_account content_of old.gathered).trace result (first_account content_of new.gathered).trace
    pub adds_up : IfOk result (AddsUp (gathered_in content_of old.gathered ++ map gathered_of (reverse sessions)))
    pub opener : new ≡ record old { gathered = new.gathered }
    pub first : History PartView
    pub gathered : new.gathered ≡ first ∷ behind_of old.gathered
    pub number : first.number ≡ first_number old.gathered
    pub first_quiet_ : quiet_told first.marks ≡ first_quiet old.gathered
    pub account :
        told content_of first.number first.marks
        ≡ record (first_account content_of old.gathered) { trace = (first_account content_of new.gathered).trace }
    pub unchanged : AllZip (IsUnchanged seat view stack quiet) sessions after
    pub owners : AreOwners sessions
