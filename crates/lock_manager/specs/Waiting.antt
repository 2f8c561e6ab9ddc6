use Rattle.std.specs.Prelude.{◌≡◌, ◌⊎◌, ◌↔◌, ℕ, ◌<◌, ◌≤◌, ◌==◌, Bool, true, false, List, [], ◌∷◌, ◌++◌, Result, Ok, Err, Some, None, if◌then◌else◌}
use Rattle.modes_core.specs.declared.modes.Mode.{Mode}
use Rattle.modes_core.specs.declared.tags.Tag.{Tag}
use Rattle.modes_core.specs.declared.refusals.Refusal.{Refusal}
use Rattle.modes_core.specs.declared.refusals.Refusal.TheVariants as refusal_
use Rattle.modes_core.specs.Tag.{partition_of}
use Rattle.local_locks.specs.declared.records.Entry.{Entry}
use Rattle.local_locks.specs.Owned.{has_entry}
use Rattle.lock_table.specs.Content.{Content}
use Rattle.lock_table.specs.Content as content
use Rattle.lock_table.specs.declared.moves.Move.TheVariants.{Leave}
use Rattle.lock_table.specs.Moves.{Moves}
use Rattle.lock_table.specs.Queue.{waits_there, some_awaits_conflict}
use Rattle.lock_world.specs.declared.events.Word.TheVariants.{Wait}
use Rattle.lock_world.specs.WaitWord.{wait_state, is_asked}
use Rattle.lock_world.specs.World.{TraceEntry, Took, Episode, AskedToCancel, Loaded}
use Rattle.lock_world.specs.Account.{Account}
use Rattle.lock_world.specs.AccountSteps.{account_tracing, own_with}
use Rattle.shared_rule.specs.Boards.{Stack, nothing_due}
use Rattle.fast_path.specs.declared.use_counts.UseCounts.{UseCounts}
use Rattle.lock_manager.specs.declared.waiting.Asked.{Asked}
use Rattle.lock_manager.specs.declared.waiting.Asked.TheVariants as asked
use Rattle.lock_manager.specs.declared.waiting.Looked.{Looked}
use Rattle.lock_manager.specs.declared.waiting.Looked.TheVariants as looked
use Rattle.lock_manager.specs.Rest.{counted_for, account_at_rest, IsUseCount}
use Rattle.lock_manager.specs.Requests.{counted_granted}

-- Waits of a session, as its account and its trace have them.

-- ---- a session that waits

-- The account of a session that waits for the mode on the object, and is in no call: it is as one at rest,
-- but for its wait, which was joined with the modes of the object that it has in the table, and for the count
-- of a strong mode.
abbrev pub account_in_wait : ℕ → ℕ → (ℕ → ℕ) → List Entry → Tag → Mode → (Mode → Bool) → List TraceEntry → Account
account_in_wait limit database remembered entries tag mode held trace =
    record (account_at_rest limit database remembered entries trace) {
      awaited = Some (record { tag = tag; mode = mode; held = held });
      fast = record ((account_at_rest limit database remembered entries trace).fast) {
        counted = counted_granted limit (counted_for limit entries) tag mode;
      };
    }

-- By its account the session waits for the mode on the object, is in no call, and has nothing else to do.
pub record IsWaiting (groups limit database : ℕ) (uses : UseCounts) (a : Account) (stack : Stack) (entries : List Entry)
    (tag : Tag) (mode : Mode) : Type 0 where
  pub held : Mode → Bool
  pub account : a ≡ account_in_wait limit database a.fast.remembered entries tag mode held a.trace
  pub use_count : IsUseCount groups a uses
  pub no_entry : has_entry entries tag mode ≡ false
  pub nothing_left : stack ≡ nothing_due

-- The session that waits has loaded its wait word, which showed this: it has seen whether its wait was
-- granted.
pub record HasLooked (groups limit database : ℕ) (uses : UseCounts) (a : Account) (stack : Stack) (entries : List Entry)
    (tag : Tag) (mode : Mode) (shown : ℕ) : Type 0 where
  pub held : Mode → Bool
  pub account : a ≡ record (account_in_wait limit database a.fast.remembered entries tag mode held a.trace) {
    seen = wait_state shown == 2;
  }
  pub use_count : IsUseCount groups a uses
  pub no_entry : has_entry entries tag mode ≡ false
  pub nothing_left : stack ≡ nothing_due

-- What a step in the middle of a call of a session that waits may count on: the session has this wait, has
-- not seen it granted, and has no word in hand.
pub record IsInWait (a : Account) (stack : Stack) (tag : Tag) (mode : Mode) : Type 0 where
  pub held : Mode → Bool
  pub waits : a.awaited ≡ Some (record { tag = tag; mode = mode; held = held })
  pub unseen : a.seen ≡ false
  pub no_content : a.hand ≡ (λ _. None)
  pub nothing_left : stack ≡ nothing_due

-- ---- asking and looking

-- The session asks another to cancel its wait, whose wait word showed this before, and says whether it
-- waited.
pub record Asks (a : Account) (other : ℕ) (answer : Asked) (b : Account) : Type 0 where
  pub shown : ℕ
  pub answered : (answer ≡ asked.Waiting) ↔ (wait_state shown ≡ 1)
  pub account : b ≡ account_tracing a (AskedToCancel other shown)

-- The session asks the session `other` to cancel its wait, where that number is below the limit. Where it is
-- not, no session has that number: the answer is that it doesn't wait, and no step is made.
pub record AsksOneOf (limit : ℕ) (a : Account) (other : ℕ) (answer : Asked) (b : Account) : Type 0 where
  pub one : other < limit → Asks a other answer b
  pub none : limit ≤ other → (answer ≡ asked.NotWaiting) × (b ≡ a)

-- One episode in the object's partition, which leaves the content as it was taken, shows whether somebody
-- awaits a mode in conflict with this one.
pub record LooksForWaiters (before : List TraceEntry) (tag : Tag) (mode : Mode) (is_awaited : Bool)
    (after : List TraceEntry) : Type 0 where
  pub taken : Content
  pub answer : is_awaited ≡ some_awaits_conflict (taken.waits tag) mode
  pub trace : after ≡ before ++ Took (partition_of tag) taken ∷ Episode (partition_of tag) taken taken ∷ []

-- what a session that loads its own wait word finds, by what the word shows
abbrev pub polled_as : ℕ → Looked
polled_as shown =
    if wait_state shown == 2 then looked.Granted
    else (if is_asked shown then looked.CancelAsked else looked.Still)

-- One load of the session's own wait word gives the answer.
pub record Polls (number : ℕ) (before : List TraceEntry) (answer : Looked) (after : List TraceEntry) : Type 0 where
  pub shown : ℕ
  pub answered : answer ≡ polled_as shown
  pub trace : after ≡ before ++ Loaded (Wait number) shown ∷ []

-- ---- taking a wait out

-- One episode in the object's partition takes the session's wait out of the queue, and grants who may go
-- then.
pub record Leaves (number : ℕ) (before : List TraceEntry) (tag : Tag) (after : List TraceEntry) : Type 0 where
  pub taken : Content
  pub put : Content
  pub granted : List content.Wait
  pub moved : Moves taken number (Leave tag) granted put
  pub trace : after ≡ before ++ Took (partition_of tag) taken ∷ Episode (partition_of tag) taken put ∷ []

-- One episode finds that it was granted: the content, which is left as it was taken, has the hold, and no
-- wait of the session.
pub record FindsGrant (number : ℕ) (before : List TraceEntry) (tag : Tag) (mode : Mode) (after : List TraceEntry) :
    Type 0 where
  pub taken : Content
  pub gone : waits_there (taken.waits tag) number ≡ false
  pub held : taken.holds number tag mode ≡ true
  pub trace : after ≡ before ++ Took (partition_of tag) taken ∷ Episode (partition_of tag) taken taken ∷ []

-- What joins the trace of a cancel, by whether the wait was granted.
abbrev pub Cancels : ℕ → List TraceEntry → Tag → Mode → Bool → List TraceEntry → Type 0
Cancels number before tag mode false after = Leaves number before tag after
Cancels number before tag mode true after = FindsGrant number before tag mode after

-- the account once the wait is over, by how it ended
abbrev pub account_cancelled : Account → Tag → Mode → Bool → List TraceEntry → Account
account_cancelled a tag mode false trace = record a { awaited = None; seen = false; trace = trace }
account_cancelled a tag mode true trace = record a {
  own = own_with a.own tag mode true;
  awaited = None;
  seen = false;
  trace = trace;
}

-- ---- waiting

-- These are loads of the session's own wait word that show neither a grant nor that the session was asked to
-- cancel.
abbrev pub IsWatch : ℕ → List TraceEntry → Type 0
IsWatch number [] = Unit {0}
IsWatch number (entry ∷ entries) =
    (shown : ℕ) × (entry ≡ Loaded (Wait number) shown) × (polled_as shown ≡ looked.Still) × IsWatch number entries

-- How a wait ends, after the load that showed this: granted, or asked to cancel, which the session does
-- itself; then it may find that the grant was first.
abbrev pub EndsWait : ℕ → List TraceEntry → Tag → Mode → ℕ → Result (Unit {0}) Refusal → List TraceEntry → Type 0
EndsWait number before tag mode shown (Ok done) after =
    ((polled_as shown ≡ looked.Granted) × (after ≡ before))
    ⊎ ((polled_as shown ≡ looked.CancelAsked) × Cancels number before tag mode true after)
EndsWait number before tag mode shown (Err refusal_.Cancelled) after =
    (polled_as shown ≡ looked.CancelAsked) × Cancels number before tag mode false after
EndsWait number before tag mode shown (Err refusal) after = ⊥

-- A whole wait: it looks before each sleep, and ends by what the last look showed.
pub record Waits (number : ℕ) (before : List TraceEntry) (tag : Tag) (mode : Mode) (result : Result (Unit {0}) Refusal)
    (after : List TraceEntry) : Type 0 where
  pub looks : List TraceEntry
  pub watch : IsWatch number looks
  pub shown : ℕ
  pub ends : EndsWait number (before ++ looks ++ Loaded (Wait number) shown ∷ []) tag mode shown result after
