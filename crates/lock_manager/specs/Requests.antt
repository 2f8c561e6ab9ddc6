use Rattle.std.specs.Prelude.{◌≡◌, ◌≢◌, ◌⊎◌, ℕ, Bool, true, false, List, [], ◌∷◌, ◌++◌, Option}
use Rattle.std.specs.Prelude.{Result, Ok, Err, OnErr, IfOk, IfErr, Some, if◌then◌else◌}
use Rattle.modes_core.specs.declared.modes.Mode.{Mode}
use Rattle.modes_core.specs.declared.tags.Tag.{Tag}
use Rattle.modes_core.specs.declared.refusals.Refusal.{Refusal}
use Rattle.modes_core.specs.declared.refusals.Refusal.TheVariants.{NoMemory}
use Rattle.modes_core.specs.Tag.{partition_of, index_of, is_strong_on, is_eligible_for}
use Rattle.lock_table.specs.declared.moves.Move.TheVariants as move_
use Rattle.lock_table.specs.Content.{Content}
use Rattle.lock_table.specs.declared.request.Request.{Request}
use Rattle.lock_table.specs.Queue.{waits_there}
use Rattle.wait_queue.specs.declared.requests.Kind.{Kind}
use Rattle.wait_queue.specs.declared.requests.Decision.{Decision}
use Rattle.wait_queue.specs.declared.requests.Decision.TheVariants as decision
use Rattle.wait_queue.specs.Decide.{IsDecided, RefusedFor}
use Rattle.lock_world.specs.declared.events.Word.TheVariants.{Strong}
use Rattle.lock_world.specs.Account.{Account}
use Rattle.lock_world.specs.AccountFacts.{OwnHoldsStand}
use Rattle.lock_world.specs.AccountSteps.{own_with}
use Rattle.lock_world.specs.Counted.{Counted}
use Rattle.lock_world.specs.World.{TraceEntry, Took, Episode, Loaded}
use Rattle.fast_path.specs.declared.use_counts.UseCounts.{UseCounts}
use Rattle.fast_path.specs.Grants.{GrantsInSlot, IsFull, HasRoom}
use Rattle.fast_path.specs.Transfers.{AreTurns, CutsShort}
use Rattle.shared_rule.specs.Boards.{Seated}
use Rattle.shared_rule.specs.Episodes.{account_episode}

-- A request for a mode that the session hasn't, as its trace has it. `a` and `uses` are the account and the
-- use counts before it, `b` and `left` those after it.

-- ---- by the fast path

-- The fast path is tried: the mode on the object may go by a slot of the session, and by the use count of the
-- relation's group not all sixteen of it are in use.
pub record TriesSlot (groups : ℕ) (a : Account) (uses : UseCounts) (tag : Tag) (mode : Mode) : Type 0 where
  pub eligible : is_eligible_for a.fast.database tag mode ≡ true
  pub room : HasRoom groups uses tag

-- The fast path is tried, and grants the mode in a slot. There is no episode, nor any other step.
pub record GoesBySlot (groups number : ℕ) (a : Account) (uses : UseCounts) (tag : Tag) (mode : Mode) (b : Account)
    (left : UseCounts) : Type 0 where
  pub tried : TriesSlot groups a uses tag mode
  pub granted : GrantsInSlot groups number a a.trace uses tag mode b left

-- ---- what goes before the episode that decides

-- The fast path is tried, and its one load of the object's counter shows that a strong lock is counted there.
pub record FindsStrong (groups : ℕ) (a : Account) (uses : UseCounts) (tag : Tag) (mode : Mode)
    (steps : List TraceEntry) : Type 0 where
  pub tried : TriesSlot groups a uses tag mode
  pub shown : ℕ
  pub counted : shown ≢ 0
  pub load : steps ≡ Loaded (Strong (index_of tag)) shown ∷ []

-- The fast path isn't tried, as the mode may not go by a slot or sixteen of the group are used, and nothing
-- goes before.
pub record GoesByTable (groups : ℕ) (a : Account) (uses : UseCounts) (tag : Tag) (mode : Mode)
    (steps : List TraceEntry) : Type 0 where
  pub weak : is_strong_on tag mode ≡ false
  pub not_tried : (is_eligible_for a.fast.database tag mode ≡ false) ⊎ IsFull groups uses tag
  pub no_step : steps ≡ []

-- The mode is strong, and goes past each session in its turn, which moves what stands in its way to the
-- table.
pub record MovesSlots (groups limit : ℕ) (tag : Tag) (mode : Mode) (steps : List TraceEntry) : Type 0 where
  pub strong : is_strong_on tag mode ≡ true
  pub turns : AreTurns groups limit tag steps

-- What goes before the episode: nothing, the load that finds a strong lock counted, or the turns of a strong
-- mode.
abbrev pub LeadsToTable : ℕ → ℕ → Account → UseCounts → Tag → Mode → List TraceEntry → Type 0
LeadsToTable groups limit a uses tag mode steps =
    GoesByTable groups a uses tag mode steps
    ⊎ (FindsStrong groups a uses tag mode steps ⊎ MovesSlots groups limit tag mode steps)

-- ---- the episode that decides

-- The part that the last episode of this trace put was the one of the object, and room had been made in it
-- for the session's request.
pub record HadRoom {T : Type 0} (content : T → Content) (prepared : T → Option Request) (session : ℕ) (tag : Tag) (mode : Mode)
    (trace : List TraceEntry) : Type 0 where
  pub part : T
  pub room : prepared part ≡ Some (record { session = session; tag = tag; mode = mode })
  pub before : List TraceEntry
  pub taken : Content
  pub put : trace ≡ before ++ Episode (partition_of tag) taken (content part) ∷ []

-- the account of a session that waits for the mode on the object, with the modes of it that it has in the
-- table
abbrev pub account_awaiting : Account → Tag → Mode → (Mode → Bool) → Account
account_awaiting a tag mode held = record a {
  awaited = Some (record { tag = tag; mode = mode; held = held });
  seen = false;
}

-- the account after the episode that decides, by what was decided
abbrev pub account_decided : ℕ → Account → Tag → Mode → Content → Content → Result Decision Refusal → Account
account_decided number a tag mode taken put (Ok decision.Granted) =
    account_episode a (partition_of tag) taken put (move_.Grant tag mode)
account_decided number a tag mode taken put (Ok decision.Queued) =
    account_awaiting (account_episode a (partition_of tag) taken put move_.Keep) tag mode (taken.holds number tag)
account_decided number a tag mode taken put (Err refusal) = account_episode a (partition_of tag) taken put move_.Keep

-- The episode that decides: the content put is the one taken with one more hold or wait, as was decided by
-- it, and after a refusal as it was. The content taken has each own hold of its partition that is in no slot,
-- and no wait of the session's on the object.
pub record DecidesInPart (kind : Kind) (number : ℕ) (a : Account) (tag : Tag) (mode : Mode)
    (result : Result Decision Refusal) (b : Account) : Type 0 where
  pub taken : Content
  pub put : Content
  pub own_stand : OwnHoldsStand number a.own a.fast.database a.fast.remembered (partition_of tag) taken
  pub no_own_wait : waits_there (taken.waits tag) number ≡ false
  pub decided : IfOk result (λ decision. IsDecided kind taken number tag mode decision put)
  pub refused : IfErr result (RefusedFor kind taken number tag mode)
  pub kept : OnErr result (put ≡ taken)
  pub account : b ≡ account_decided number a tag mode taken put result

-- The request has one episode, in the object's partition, and its answer is that of the content taken: where
-- it is granted the content put has the hold, and where it is queued the wait; else that is put as it was,
-- and the refusal names what is in the way there, or memory. The content taken has each own hold of the
-- partition that is in no slot of the session, and no wait of the session's on the object. Before it stands
-- what led to the table. No other step joins the trace.
pub record Decides (kind : Kind) (seat : Seated) (a : Account) (uses : UseCounts) (tag : Tag) (mode : Mode)
    (result : Result Decision Refusal) (b : Account) (left : UseCounts) : Type 0 where
  pub steps : List TraceEntry
  pub taken : Content
  pub put : Content
  pub before : LeadsToTable seat.groups seat.limit a uses tag mode steps
  pub own_stand : OwnHoldsStand seat.number a.own a.fast.database b.fast.remembered (partition_of tag) taken
  pub no_own_wait : waits_there (taken.waits tag) seat.number ≡ false
  pub decided : IfOk result (λ decision. IsDecided kind taken seat.number tag mode decision put)
  pub refused : IfErr result (RefusedFor kind taken seat.number tag mode)
  pub kept : OnErr result (put ≡ taken)
  pub trace : b.trace ≡ a.trace ++ steps ++ Took (partition_of tag) taken ∷ Episode (partition_of tag) taken put ∷ []
  pub same : left ≡ uses

-- The mode is strong, and memory runs out in the turn of a session, before all is moved that stands in its
-- way: there is no episode that decides.
pub record StopsMoving (groups limit : ℕ) (a : Account) (uses : UseCounts) (tag : Tag) (mode : Mode) (b : Account)
    (left : UseCounts) : Type 0 where
  pub strong : is_strong_on tag mode ≡ true
  pub steps : List TraceEntry
  pub cut : CutsShort groups limit tag steps
  pub trace : b.trace ≡ a.trace ++ steps
  pub same : left ≡ uses

-- ---- the whole request

-- What joins the trace of a request, by its answer: it is granted in a slot, or decided in the table, or
-- stopped on the way.
abbrev pub Requests :
    Kind → Seated → Account → UseCounts → Tag → Mode → Result Decision Refusal → Account → UseCounts → Type 0
Requests kind seat a uses tag mode (Ok decision.Granted) b left =
    GoesBySlot seat.groups seat.number a uses tag mode b left
    ⊎ Decides kind seat a uses tag mode (Ok decision.Granted) b left
Requests kind seat a uses tag mode (Ok decision.Queued) b left =
    Decides kind seat a uses tag mode (Ok decision.Queued) b left
Requests kind seat a uses tag mode (Err NoMemory) b left =
    StopsMoving seat.groups seat.limit a uses tag mode b left
    ⊎ Decides kind seat a uses tag mode (Err NoMemory) b left
Requests kind seat a uses tag mode (Err refusal) b left = Decides kind seat a uses tag mode (Err refusal) b left

-- what is counted once the mode is granted or awaited
abbrev pub counted_granted : ℕ → List Counted → Tag → Mode → List Counted
counted_granted limit counted tag mode =
    if is_strong_on tag mode then counted ++ record { tag = tag; mode = mode; position = limit } ∷ [] else counted

-- the account with the mode granted
abbrev pub account_granted : ℕ → Account → Tag → Mode → (ℕ → ℕ) → List TraceEntry → Account
account_granted limit a tag mode remembered trace = record a {
  own = own_with a.own tag mode true;
  fast = record (a.fast) { remembered = remembered; counted = counted_granted limit a.fast.counted tag mode };
  trace = trace;
}

-- the account with the mode awaited
abbrev pub account_queued : ℕ → Account → Tag → Mode → (Mode → Bool) → (ℕ → ℕ) → List TraceEntry → Account
account_queued limit a tag mode held remembered trace = record a {
  awaited = Some (record { tag = tag; mode = mode; held = held });
  seen = false;
  fast = record (a.fast) { remembered = remembered; counted = counted_granted limit a.fast.counted tag mode };
  trace = trace;
}

-- What a request makes of the account, by its answer, but for what the session remembers of its slots, and
-- the trace.
abbrev pub IsRequested : ℕ → Account → Tag → Mode → Result Decision Refusal → Account → Type 0
IsRequested limit a tag mode (Ok decision.Granted) b = b ≡ account_granted limit a tag mode b.fast.remembered b.trace
IsRequested limit a tag mode (Ok decision.Queued) b =
    (held : Mode → Bool) × (b ≡ account_queued limit a tag mode held b.fast.remembered b.trace)
IsRequested limit a tag mode (Err refusal) b =
    b ≡ record a { fast = record (a.fast) { remembered = b.fast.remembered }; trace = b.trace }
