use Rattle.std.specs.Prelude.{◌≡◌, ◌≢◌, ◌↔◌, ℕ, ◌<◌, true, false, List, [], ◌∷◌, ◌++◌, length}
use Rattle.std.specs.Prelude.{Result, Ok, IfOk, IfErr, OnOk, OnErr, IsErrOf, IsOkUnless}
use Rattle.modes_core.specs.declared.modes.Mode.{Mode}
use Rattle.modes_core.specs.declared.tags.Tag.{Tag}
use Rattle.modes_core.specs.Tag.{is_eligible_for}
use Rattle.modes_core.specs.declared.sessions.Owner.{Owner}
use Rattle.modes_core.specs.declared.refusals.Refusal.{Refusal}
use Rattle.modes_core.specs.declared.refusals.Refusal.TheVariants as refusal_
use Rattle.local_locks.specs.declared.answers.Acquired.{Acquired}
use Rattle.local_locks.specs.declared.answers.Acquired.TheVariants.{AlreadyHeld}
use Rattle.local_locks.specs.declared.answers.Unlocked.{Unlocked}
use Rattle.local_locks.specs.declared.answers.Unlocked.TheVariants.{Released, StillHeld}
use Rattle.local_locks.specs.declared.ends.End.{End}
use Rattle.local_locks.specs.declared.ends.End.TheVariants.{Inner}
use Rattle.local_locks.specs.Owned.{Owned, level_of, max_level, of_transaction, own_count_of, without_innermost, outer_after, has_entry, total_of, with_one_more, with_one_less, ended_by, left_by}
use Rattle.lock_world.specs.Account.{Account}
use Rattle.shared_rule.specs.Boards.{Seated, Stack}
use Rattle.shared_rule.specs.Quiet.{Quiet}
use Rattle.fast_path.specs.declared.use_counts.UseCounts.{UseCounts}
use Rattle.wait_queue.specs.declared.requests.Kind.{Kind}
use Rattle.lock_manager.specs.Acquires.{AnswersByOwned, HasEntryRoom, IsOwnAnswer, IsOwnAnswerBySlot, IsRefusedForMemory, AcquiresBySlot}
use Rattle.lock_manager.specs.Advisory.{unlocked_by_all, left_by_unlock_all}
use Rattle.lock_manager.specs.Quiet.{QuietOfAcquire, QuietOfAcquireBySlot, QuietOfReleases, quiet_releasing}
use Rattle.lock_manager.specs.Releases.{Releases, ReleasesAll}
use Rattle.lock_manager.specs.Sessions.{SessionView, IsSame}

-- What calls of a session promise, of the session as it was and as it is then, and of the answer.

module _ {B : Type 0} (seat : B → Seated) (view : B → Account) (stack : B → Stack) (quiet_of : B → List Quiet) where
  -- What each way of asking for a mode promises alike, whether it may wait or not. `board`, `left` and
  -- `owned` are those of the session that comes back, be it one that waits.
  pub record HasAsked {A : Type 0} (kind : Kind) (old : SessionView B) (tag : Tag) (mode : Mode) (owner : Owner) (already : A)
      (result : Result A Refusal) (board : B) (left : UseCounts) (owned : Owned) : Type 0 where
    pub answers : AnswersByOwned old.owned tag mode owner already true result
    pub entry_room_first : IfErr result (HasEntryRoom owned)
    pub quiet : QuietOfAcquire (seat old.board) (view old.board) old.uses tag mode (quiet_of old.board) (quiet_of board)
    pub untouched : IsOwnAnswer already result → board ≡ old.board
    pub no_memory :
        IfErr result (λ refusal. refusal ≡ refusal_.NoMemory →
        IsRefusedForMemory view kind (seat old.board) old.owned old.uses tag mode old.board board left)
    pub same_entries : OnErr result (owned.entries ≡ old.owned.entries)
    pub levels : owned.outer ≡ old.owned.outer

  module _ (old new : SessionView B) where
    -- An acquire of this kind is answered, and these are its steps.
    pub record HasAcquired (kind : Kind) (Steps : Type 0) (tag : Tag) (mode : Mode) (owner : Owner) (result : Result Acquired Refusal) :
        Type 0 where
      pub asked : HasAsked kind old tag mode owner AlreadyHeld result new.board new.uses new.owned
      pub steps : Steps
      pub entries : OnOk result (new.owned.entries ≡ with_one_more old.owned.entries tag mode owner)
      pub same : IsSame seat view stack old new

    -- An acquire by the fast path alone is answered.
    pub record HasTriedSlot (tag : Tag) (mode : Mode) (owner : Owner) (result : Result Acquired Refusal) : Type 0 where
      pub answers : AnswersByOwned old.owned tag mode owner AlreadyHeld (is_eligible_for old.database tag mode) result
      pub entry_room_first : IfErr result (HasEntryRoom new.owned)
      pub not_eligible :
          IsErrOf result refusal_.NotEligible
          ↔ ((has_entry old.owned.entries tag mode ≡ false) × (is_eligible_for old.database tag mode ≡ false))
      pub steps :
          AcquiresBySlot (seat old.board).groups (seat old.board).number old.owned (view old.board) old.uses tag mode result
          (view new.board) new.uses
      pub quiet : QuietOfAcquireBySlot (seat old.board).number tag mode (quiet_of old.board) (quiet_of new.board)
      pub untouched : IsOwnAnswerBySlot result → new.board ≡ old.board
      pub entries : OnOk result (new.owned.entries ≡ with_one_more old.owned.entries tag mode owner)
      pub same_entries : OnErr result (new.owned.entries ≡ old.owned.entries)
      pub levels : new.owned.outer ≡ old.owned.outer
      pub same : IsSame seat view stack old new

    -- One count of a mode is given back.
    pub record HasUnlocked (tag : Tag) (mode : Mode) (owner : Owner) (result : Result Unlocked Refusal) : Type 0 where
      pub not_held : IsErrOf result refusal_.NotHeld ↔ (own_count_of old.owned tag mode owner ≡ 0)
      pub no_other : IsOkUnless result refusal_.NotHeld
      pub still_held :
          (result ≡ Ok StillHeld) ↔ ((0 < own_count_of old.owned tag mode owner) × (0 < total_of new.owned.entries tag mode))
      pub released :
          result ≡ Ok Released →
          Releases (seat old.board).groups (seat old.board).number (view old.board) old.uses tag mode (view new.board) new.uses
      pub quiet :
          result ≡ Ok Released →
          quiet_of new.board
          ≡ quiet_releasing (seat old.board).groups (seat old.board).number (view old.board) old.uses tag mode (quiet_of old.board)
      pub untouched : result ≢ Ok Released → new.board ≡ old.board
      pub same_uses : result ≢ Ok Released → new.uses ≡ old.uses
      pub entries : OnOk result (new.owned.entries ≡ with_one_less old.owned.entries tag mode owner)
      pub same_entries : OnErr result (new.owned.entries ≡ old.owned.entries)
      pub levels : new.owned.outer ≡ old.owned.outer
      pub same : IsSame seat view stack old new

    -- These holds are released, in the order of making, and no other one.
    pub record HasReleased (holds : List (Tag × Mode)) : Type 0 where
      pub none : holds ≡ [] → new.board ≡ old.board
      pub released :
          ReleasesAll (seat old.board).groups (seat old.board).number (view old.board) old.uses holds (view new.board) new.uses
      pub quiet :
          QuietOfReleases (seat old.board).groups (seat old.board).number (view old.board) old.uses holds (view new.board) new.uses
          (quiet_of old.board) (quiet_of new.board)

    -- All advisory locks that the session itself owns go, `count` of them for good.
    pub record HasUnlockedAll (count : ℕ) : Type 0 where
      pub counted : count ≡ length (unlocked_by_all old.owned.entries)
      pub entries : new.owned.entries ≡ left_by_unlock_all old.owned.entries
      pub released : HasReleased (unlocked_by_all old.owned.entries)
      pub levels : new.owned.outer ≡ old.owned.outer
      pub same : IsSame seat view stack old new

    -- The transaction ends this way, with all its levels.
    pub record HasEndedBy (how : End) : Type 0 where
      pub entries : new.owned.entries ≡ left_by how old.owned.entries
      pub released : HasReleased (ended_by how old.owned.entries)
      pub first_level : new.owned.outer ≡ []
      pub same : IsSame seat view stack old new

    -- A level of the transaction begins within the innermost one.
    pub record HasBegunLevel (result : Result ℕ Refusal) : Type 0 where
      pub too_deep : IsErrOf result refusal_.TooDeep ↔ (level_of old.owned ≡ max_level)
      pub no_other : IsOkUnless result refusal_.TooDeep
      pub level : IfOk result (λ level. level ≡ level_of new.owned)
      pub begun : OnOk result (new.owned.outer ≡ old.owned.outer ++ of_transaction old.owned.entries ∷ [])
      pub entries : new.owned.entries ≡ old.owned.entries
      pub refused : OnErr result (new.owned ≡ old.owned)
      pub untouched : new.board ≡ old.board
      pub uses : new.uses ≡ old.uses
      pub same : IsSame seat view stack old new

    -- The innermost level ends, and hands what it has to the level around it.
    pub record HasHandedUp (result : Result ℕ Refusal) : Type 0 where
      pub no_nested : IsErrOf result refusal_.NoNested ↔ (level_of old.owned ≡ 1)
      pub no_other : IsOkUnless result refusal_.NoNested
      pub level : IfOk result (λ level. level ≡ level_of new.owned)
      pub handed_up : OnOk result (new.owned.outer ≡ outer_after Inner old.owned.outer)
      pub entries : new.owned.entries ≡ old.owned.entries
      pub refused : OnErr result (new.owned ≡ old.owned)
      pub untouched : new.board ≡ old.board
      pub uses : new.uses ≡ old.uses
      pub same : IsSame seat view stack old new

    -- The innermost level ends, and gives back what it has.
    pub record HasEndedLevel (result : Result ℕ Refusal) : Type 0 where
      pub no_nested : IsErrOf result refusal_.NoNested ↔ (level_of old.owned ≡ 1)
      pub no_other : IsOkUnless result refusal_.NoNested
      pub level : IfOk result (λ level. level ≡ level_of new.owned)
      pub entries : OnOk result (new.owned.entries ≡ left_by Inner (without_innermost old.owned))
      pub none_ended : ended_by Inner (without_innermost old.owned) ≡ [] → new.board ≡ old.board
      pub released :
          OnOk result (ReleasesAll (seat old.board).groups (seat old.board).number (view old.board) old.uses
          (ended_by Inner (without_innermost old.owned)) (view new.board) new.uses)
      pub quiet :
          OnOk result (QuietOfReleases (seat old.board).groups (seat old.board).number (view old.board) old.uses
          (ended_by Inner (without_innermost old.owned)) (view new.board) new.uses (quiet_of old.board) (quiet_of new.board))
      pub levels : OnOk result (new.owned.outer ≡ outer_after Inner old.owned.outer)
      pub refused : OnErr result (new.owned ≡ old.owned)
      pub untouched : OnErr result (new.board ≡ old.board)
      pub same_uses : OnErr result (new.uses ≡ old.uses)
      pub same : IsSame seat view stack old new

    -- The session has looked at what others have: it has seen this, and owns what it owned.
    pub record HasSeen (Seen : Type 0) : Type 0 where
      pub seen : Seen
      pub owned : new.owned ≡ old.owned
      pub uses : new.uses ≡ old.uses
      pub same : IsSame seat view stack old new
