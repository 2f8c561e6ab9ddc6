use Rattle.std.specs.Prelude.{◌≡◌, ◌⊎◌, ℕ, ◌≤◌, false, true, List, [], ◌∷◌, if◌then◌else◌}
use Rattle.modes_core.specs.declared.modes.Mode.{Mode}
use Rattle.modes_core.specs.declared.tags.Tag.{Tag}
use Rattle.modes_core.specs.Tag.{is_strong_on, is_eligible_for}
use Rattle.lock_world.specs.Account.{Account}
use Rattle.shared_rule.specs.Boards.{Seated}
use Rattle.shared_rule.specs.Quiet.{Quiet, TakesSlots, SetsSlot, CountsStrong}
use Rattle.fast_path.specs.declared.use_counts.UseCounts.{UseCounts}
use Rattle.fast_path.specs.Slots.{count_in, group_of_tag}
use Rattle.fast_path.specs.Grants.{IsFull}
use Rattle.fast_path.specs.Quiet.{quiet_turns, quiet_ungranting}
use Rattle.lock_manager.specs.Requests.{TriesSlot}
use Rattle.lock_manager.specs.Releases.{Releases}

-- The quiet steps of a session's calls, with those before them, the last one first. `a` and `uses` are the
-- account and the use counts before a call.

-- ---- acquires

-- A request that is tried in a slot takes the lock of its own slots once, and sets its mode there or not.
abbrev pub QuietOfTry : ℕ → Tag → Mode → List Quiet → List Quiet → Type 0
QuietOfTry number tag mode before after =
    (after ≡ TakesSlots number ∷ before) ⊎ (after ≡ SetsSlot tag mode ∷ TakesSlots number ∷ before)

-- A request for a strong mode counts that mode, and takes the lock of each session's slots once; where memory
-- runs out, of those as far as one.
pub record QuietOfStrong (limit : ℕ) (tag : Tag) (mode : Mode) (before after : List Quiet) : Type 0 where
  pub strong : is_strong_on tag mode ≡ true
  pub reached : ℕ
  pub within : reached ≤ limit
  pub quiet : after ≡ quiet_turns reached (CountsStrong tag mode ∷ before)

-- A request that goes by the table alone makes no quiet step.
pub record QuietOfTable (groups : ℕ) (a : Account) (uses : UseCounts) (tag : Tag) (mode : Mode) (before after : List Quiet) :
    Type 0 where
  pub weak : is_strong_on tag mode ≡ false
  pub not_tried : (is_eligible_for a.fast.database tag mode ≡ false) ⊎ IsFull groups uses tag
  pub quiet : after ≡ before

-- The quiet steps of a request: those of a strong mode, those of a try in a slot, or none where the request
-- goes by the table alone.
pub data QuietOfRequest (seat : Seated) (a : Account) (uses : UseCounts) (tag : Tag) (mode : Mode) (before after : List Quiet) :
    Type 0 where
  OfStrong : QuietOfStrong seat.limit tag mode before after → QuietOfRequest seat a uses tag mode before after
  OfTry : TriesSlot seat.groups a uses tag mode → QuietOfTry seat.number tag mode before after
      → QuietOfRequest seat a uses tag mode before after
  OfTable : QuietOfTable seat.groups a uses tag mode before after → QuietOfRequest seat a uses tag mode before after

-- An acquire makes no quiet steps, or those of its request.
pub data QuietOfAcquire (seat : Seated) (a : Account) (uses : UseCounts) (tag : Tag) (mode : Mode) (before after : List Quiet) :
    Type 0 where
  MakesNone : after ≡ before → QuietOfAcquire seat a uses tag mode before after
  OfRequest : QuietOfRequest seat a uses tag mode before after → QuietOfAcquire seat a uses tag mode before after

-- An acquire by the fast path alone makes the quiet steps of its try, or none.
abbrev pub QuietOfAcquireBySlot : ℕ → Tag → Mode → List Quiet → List Quiet → Type 0
QuietOfAcquireBySlot number tag mode before after = (after ≡ before) ⊎ QuietOfTry number tag mode before after

-- ---- releases

-- The release of a hold takes the lock of its own slots once where it looks there.
abbrev pub quiet_releasing : ℕ → ℕ → Account → UseCounts → Tag → Mode → List Quiet → List Quiet
quiet_releasing groups number a uses tag mode before =
    if is_eligible_for a.fast.database tag mode
    then quiet_ungranting number (count_in uses (group_of_tag groups tag)) before
    else before

-- These holds are released, one after another, each with its own quiet steps.
abbrev pub QuietOfReleases :
    ℕ → ℕ → Account → UseCounts → List (Tag × Mode) → Account → UseCounts → List Quiet → List Quiet → Type 0
QuietOfReleases groups number a uses [] b left before after = (b ≡ a) × (left ≡ uses) × (after ≡ before)
QuietOfReleases groups number a uses (key ∷ keys) b left before after =
    (between : Account) × (its : UseCounts) × Releases groups number a uses key.0 key.1 between its
    × QuietOfReleases groups number between its keys b left (quiet_releasing groups number a uses key.0 key.1 before) after
