use Rattle.std.proofs.Common.{◌≡◌, ℕ, true, false, List, [], ◌∷◌, Err, refl, sym, subst, inl, inr}
use Rattle.std.proofs.lemmas.Bool.{cond-true, cond-false}
use Rattle.modes_core.specs.declared.modes.Mode.{Mode}
use Rattle.modes_core.specs.declared.tags.Tag.{Tag}
use Rattle.modes_core.specs.declared.refusals.Refusal.{Refusal}
use Rattle.modes_core.specs.declared.refusals.Refusal.TheVariants.{SlotsFull, StrongCounted}
use Rattle.modes_core.specs.Tag.{is_eligible_for}
use Rattle.local_locks.specs.declared.ends.End.{End}
use Rattle.local_locks.specs.declared.records.Entry.{Entry}
use Rattle.local_locks.specs.Owned.{ended_by}
use Rattle.lock_world.specs.Account.{Account}
use Rattle.shared_rule.specs.Boards.{Seated}
use Rattle.shared_rule.specs.Quiet.{Quiet}
use Rattle.fast_path.specs.declared.use_counts.UseCounts.{UseCounts}
use Rattle.fast_path.specs.Slots.{count_in, group_of_tag}
use Rattle.fast_path.specs.Grants.{Grants}
use Rattle.fast_path.specs.Quiet.{quiet_granting, quiet_ungranting}
use Rattle.lock_manager.specs.Releases.{Releases}
use Rattle.lock_manager.specs.Quiet.{QuietOfRequest, OfTry, OfTable, QuietOfAcquire, QuietOfAcquireBySlot, QuietOfReleases, quiet_releasing}
use Rattle.lock_manager.proofs.Lemmas.Requests.Whole.{eligible-weak}

-- What calls make of a session's quiet steps.

-- A request that the fast path refused, and that goes to the table then.
pub quiet-refused :
    (seat : Seated) (a b : Account) (uses left : UseCounts) (tag : Tag) (mode : Mode) (refusal : Refusal) (before after : List Quiet)
    → is_eligible_for a.fast.database tag mode ≡ true → Grants seat.groups seat.number a uses tag mode (Err refusal) b left
    → after ≡ quiet_granting seat.number tag mode (Err refusal) before → QuietOfRequest seat a uses tag mode before after
quiet-refused seat a b uses left tag mode SlotsFull before after eligible full same =
    OfTable (record { weak = eligible-weak a.fast.database tag mode eligible; not_tried = inr full.full; quiet = same })
quiet-refused seat a b uses left tag mode StrongCounted before after eligible found same =
    OfTry (record { eligible = eligible; room = found.0 }) (inl same)
quiet-refused seat a b uses left tag mode _ before after eligible none same = absurd none

-- An acquire by the fast path alone that is refused.
pub quiet-tried :
    (number : ℕ) (tag : Tag) (mode : Mode) (refusal : Refusal) (before after : List Quiet)
    → after ≡ quiet_granting number tag mode (Err refusal) before → QuietOfAcquireBySlot number tag mode before after
quiet-tried number tag mode StrongCounted before after same = inr (inl same)
quiet-tried number tag mode _ before after same = inl same

-- What a wait leaves as they are.
pub quiet-waited :
    (seat : Seated) (a : Account) (uses : UseCounts) (tag : Tag) (mode : Mode) (before queued after : List Quiet)
    → QuietOfAcquire seat a uses tag mode before queued → after ≡ queued → QuietOfAcquire seat a uses tag mode before after
quiet-waited seat a uses tag mode before queued after quiet same = subst (QuietOfAcquire seat a uses tag mode before) (sym same) quiet

-- A release that looks in the session's slots, and one that doesn't.
pub releasing-looks :
    (groups number : ℕ) (a : Account) (uses : UseCounts) (tag : Tag) (mode : Mode) (before : List Quiet) → is_eligible_for a.fast.database tag mode ≡ true
    → quiet_releasing groups number a uses tag mode before ≡ quiet_ungranting number (count_in uses (group_of_tag groups tag)) before
releasing-looks groups number a uses tag mode before eligible =
    cond-true (is_eligible_for a.fast.database tag mode) (quiet_ungranting number (count_in uses (group_of_tag groups tag)) before) before eligible

pub releasing-nowhere :
    (groups number : ℕ) (a : Account) (uses : UseCounts) (tag : Tag) (mode : Mode) (before : List Quiet) → is_eligible_for a.fast.database tag mode ≡ false
    → quiet_releasing groups number a uses tag mode before ≡ before
releasing-nowhere groups number a uses tag mode before not_eligible =
    cond-false (is_eligible_for a.fast.database tag mode) (quiet_ungranting number (count_in uses (group_of_tag groups tag)) before) before not_eligible

-- The release of the next hold leads on to the releases of those left.
pub quiet-next :
    (seat its : Seated) (end : End) (a b c : Account) (uses between left : UseCounts) (old new : List Entry) (key : Tag × Mode) (before middle after : List Quiet)
    → its ≡ seat → ended_by end old ≡ key ∷ ended_by end new → Releases its.groups its.number a uses key.0 key.1 b between
    → middle ≡ quiet_releasing its.groups its.number a uses key.0 key.1 before
    → QuietOfReleases seat.groups seat.number b between (ended_by end new) c left middle after
    → QuietOfReleases seat.groups seat.number a uses (ended_by end old) c left before after
quiet-next seat its end a b c uses between left old new key before middle after same next first is others =
    subst (λ keys. QuietOfReleases seat.groups seat.number a uses keys c left before after) {x = key ∷ ended_by end new} {y = ended_by end old} (sym next) (
      b,
      between,
      subst (λ (v : Seated). Releases v.groups v.number a uses key.0 key.1 b between) same first,
      subst (λ steps. QuietOfReleases seat.groups seat.number b between (ended_by end new) c left steps after)
          (subst (λ (v : Seated). middle ≡ quiet_releasing v.groups v.number a uses key.0 key.1 before) same is) others,
    )

-- Where none is left they are over.
pub quiet-over :
    (groups number : ℕ) (a : Account) (uses : UseCounts) (keys : List (Tag × Mode)) (before : List Quiet) → keys ≡ []
    → QuietOfReleases groups number a uses keys a uses before before
quiet-over groups number a uses keys before none =
    subst (λ keys. QuietOfReleases groups number a uses keys a uses before before) {x = []} {y = keys} (sym none) (refl, refl, refl)
