use Rattle.std.specs.Prelude.{◌≡◌, ◌⊎◌, ◌↔◌, ℕ, ◌<◌, Bool, true, false, List, length, Result, Ok, Err, IsErrOf}
use Rattle.modes_core.specs.declared.modes.Mode.{Mode}
use Rattle.modes_core.specs.declared.tags.Tag.{Tag}
use Rattle.modes_core.specs.declared.sessions.Owner.{Owner}
use Rattle.modes_core.specs.declared.refusals.Refusal.{Refusal}
use Rattle.modes_core.specs.declared.refusals.Refusal.TheVariants.{NoMemory, LocalFull, CountFull, NotEligible}
use Rattle.modes_core.specs.declared.refusals.Refusal.TheVariants.{Conflict, SimpleDeadlock, SlotsFull, Busy, StrongCounted}
use Rattle.local_locks.specs.declared.answers.Acquired.{Acquired}
use Rattle.local_locks.specs.declared.answers.Acquired.TheVariants as acquired
use Rattle.local_locks.specs.declared.records.Entry.{Entry}
use Rattle.local_locks.specs.Owned.{Owned, has_entry, owner_count_of, max_count, with_one_more, IsOutOfRoom}
use Rattle.wait_queue.specs.declared.requests.Kind.{Kind}
use Rattle.wait_queue.specs.declared.requests.Kind.TheVariants.{Conditional}
use Rattle.wait_queue.specs.declared.requests.Decision.TheVariants as decision
use Rattle.lock_world.specs.Account.{Account}
use Rattle.fast_path.specs.declared.use_counts.UseCounts.{UseCounts}
use Rattle.fast_path.specs.Grants.{TriesGrant}
use Rattle.shared_rule.specs.Boards.{Seated}
use Rattle.lock_manager.specs.declared.requests.Begun.{Begun}
use Rattle.lock_manager.specs.declared.requests.Begun.TheVariants.{Granted, AlreadyHeld, Queued}
use Rattle.lock_manager.specs.Requests.{Requests}

-- An acquire: what it is answered by what the session owns, and what joins its trace. `a` and `uses` are the
-- account and the use counts before it, `b` and `left` those after it.

-- A mode that the session has is counted once more for the owner, unless his count is full. One that it has
-- not, and that may be had this way, is refused where the session has as many entries as it may have.
pub record AnswersByOwned {A : Type 0} (owned : Owned) (tag : Tag) (mode : Mode) (owner : Owner) (already : A) (may_be_had : Bool)
    (result : Result A Refusal) : Type 0 where
  pub already_held :
      (result ≡ Ok already) ↔ ((has_entry owned.entries tag mode ≡ true) × (owner_count_of owned.entries tag mode owner < max_count))
  pub count_full : IsErrOf result CountFull ↔ (owner_count_of owned.entries tag mode owner ≡ max_count)
  pub local_full :
      IsErrOf result LocalFull
      ↔ ((has_entry owned.entries tag mode ≡ false) × (may_be_had ≡ true) × (length owned.entries ≡ owned.max_local))

-- Room for the entry comes first: what others have, or that all slots are in use, is answered only where one
-- entry more can be made with no growth.
abbrev pub HasEntryRoom : Owned → Refusal → Type 0
HasEntryRoom owned (Conflict other its how) = 0 < owned.room
HasEntryRoom owned (SimpleDeadlock other) = 0 < owned.room
HasEntryRoom owned SlotsFull = 0 < owned.room
HasEntryRoom owned Busy = 0 < owned.room
HasEntryRoom owned StrongCounted = 0 < owned.room
HasEntryRoom owned _ = Unit {0}

-- a refusal by what the session owns, or by its own database
abbrev pub IsOwnRefusal : Refusal → Type 0
IsOwnRefusal CountFull = Unit {0}
IsOwnRefusal LocalFull = Unit {0}
IsOwnRefusal NotEligible = Unit {0}
IsOwnRefusal _ = ⊥

-- An acquire is answered by what the session has of its own alone. That memory runs out is no such answer,
-- since that may be the session's own or the table's.
abbrev pub IsOwnAnswer : {A : Type 0} → A → Result A Refusal → Type 0
IsOwnAnswer already (Ok answer) = answer ≡ already
IsOwnAnswer already (Err refusal) = IsOwnRefusal refusal

-- An acquire by the fast path is answered by what the session has of its own alone also where all slots of
-- the relation's group are in use, which its use counts tell, and where memory runs out, which is for the
-- session's own entry then.
abbrev pub IsOwnAnswerBySlot : Result Acquired Refusal → Type 0
IsOwnAnswerBySlot (Ok answer) = answer ≡ acquired.AlreadyHeld
IsOwnAnswerBySlot (Err SlotsFull) = Unit {0}
IsOwnAnswerBySlot (Err NoMemory) = Unit {0}
IsOwnAnswerBySlot (Err refusal) = IsOwnRefusal refusal

-- An acquire is refused for want of memory: for the session's own entry, and then nothing was done on the
-- board, which is the one that it was, or for the request. `old` and `new` are the boards before and after
-- it.
abbrev pub IsRefusedForMemory :
    {B : Type 0} → (B → Account) → Kind → Seated → Owned → UseCounts → Tag → Mode → B → B → UseCounts → Type 0
IsRefusedForMemory view kind seat owned uses tag mode old new left =
    (IsOutOfRoom owned × (new ≡ old))
    ⊎ Requests kind seat (view old) uses tag mode (Err NoMemory) (view new) left

-- the entries once an acquire has begun
abbrev pub entries_begun : Begun → List Entry → Tag → Mode → Owner → List Entry
entries_begun Granted entries tag mode owner = with_one_more entries tag mode owner
entries_begun AlreadyHeld entries tag mode owner = with_one_more entries tag mode owner
entries_begun Queued entries tag mode owner = entries

-- What joins the trace of an acquire of either kind, by its answer. One of a mode with an entry makes no
-- step, nor does one that its own limits refuse, or want of memory for its entry. Every other one is a
-- request.
abbrev pub Begins :
    Kind → Seated → Owned → Account → UseCounts → Tag → Mode → Result Begun Refusal → Account → UseCounts → Type 0
Begins kind seat owned a uses tag mode (Ok AlreadyHeld) b left = (b ≡ a) × (left ≡ uses)
Begins kind seat owned a uses tag mode (Ok Granted) b left =
    Requests kind seat a uses tag mode (Ok decision.Granted) b left
Begins kind seat owned a uses tag mode (Ok Queued) b left =
    Requests kind seat a uses tag mode (Ok decision.Queued) b left
Begins kind seat owned a uses tag mode (Err CountFull) b left = (b ≡ a) × (left ≡ uses)
Begins kind seat owned a uses tag mode (Err LocalFull) b left = (b ≡ a) × (left ≡ uses)
Begins kind seat owned a uses tag mode (Err NoMemory) b left =
    ((has_entry owned.entries tag mode ≡ false) × IsOutOfRoom owned × (b ≡ a) × (left ≡ uses))
    ⊎ Requests kind seat a uses tag mode (Err NoMemory) b left
Begins kind seat owned a uses tag mode (Err refusal) b left = Requests kind seat a uses tag mode (Err refusal) b left

-- An acquire that doesn't wait is over as it has begun.
abbrev pub begun_at_once : Result Acquired Refusal → Result Begun Refusal
begun_at_once (Ok acquired.Granted) = Ok Granted
begun_at_once (Ok acquired.AlreadyHeld) = Ok AlreadyHeld
begun_at_once (Err refusal) = Err refusal

-- What joins the trace of an acquire that doesn't wait, by its answer.
abbrev pub Acquires :
    Seated → Owned → Account → UseCounts → Tag → Mode → Result Acquired Refusal → Account → UseCounts → Type 0
Acquires seat owned a uses tag mode result b left =
    Begins Conditional seat owned a uses tag mode (begun_at_once result) b left

-- What joins the trace of an acquire by the fast path alone, by its answer. One of a mode with an entry makes
-- no step, nor does one that may not go by a slot, nor one that its own limits refuse, or want of memory for
-- its entry. Every other one is tried once, and waits for nobody.
abbrev pub AcquiresBySlot :
    ℕ → ℕ → Owned → Account → UseCounts → Tag → Mode → Result Acquired Refusal → Account → UseCounts → Type 0
AcquiresBySlot groups number owned a uses tag mode (Ok acquired.AlreadyHeld) b left = (b ≡ a) × (left ≡ uses)
AcquiresBySlot groups number owned a uses tag mode (Ok acquired.Granted) b left =
    TriesGrant groups number a uses tag mode (Ok tt) b left
AcquiresBySlot groups number owned a uses tag mode (Err CountFull) b left = (b ≡ a) × (left ≡ uses)
AcquiresBySlot groups number owned a uses tag mode (Err NotEligible) b left = (b ≡ a) × (left ≡ uses)
AcquiresBySlot groups number owned a uses tag mode (Err LocalFull) b left = (b ≡ a) × (left ≡ uses)
AcquiresBySlot groups number owned a uses tag mode (Err NoMemory) b left =
    (has_entry owned.entries tag mode ≡ false) × IsOutOfRoom owned × (b ≡ a) × (left ≡ uses)
AcquiresBySlot groups number owned a uses tag mode (Err refusal) b left =
    TriesGrant groups number a uses tag mode (Err refusal) b left
