use Rattle.std.specs.Prelude.{◌≡◌, ◌⊎◌, Bool, true, false, Result, Ok, Err, IfOk, OnErr}
use Rattle.modes_core.specs.declared.modes.Mode.{Mode}
use Rattle.modes_core.specs.declared.tags.Tag.{Tag}
use Rattle.modes_core.specs.declared.sessions.Owner.{Owner}
use Rattle.modes_core.specs.declared.refusals.Refusal.{Refusal}
use Rattle.local_locks.specs.declared.answers.Acquired.TheVariants as acquired
use Rattle.local_locks.specs.Owned.{with_one_more}
use Rattle.lock_world.specs.Account.{Account}
use Rattle.shared_rule.specs.Boards.{Seated, Stack}
use Rattle.wait_queue.specs.declared.requests.Kind.TheVariants.{Waiting}
use Rattle.lock_manager.specs.declared.requests.Begun.{Begun}
use Rattle.lock_manager.specs.declared.requests.Begun.TheVariants as begun
use Rattle.lock_manager.specs.Acquires.{AnswersByOwned, Begins, entries_begun}
use Rattle.lock_manager.specs.declared.waiting.Looked.TheVariants as looked
use Rattle.lock_manager.specs.Sessions.{SessionView, IsSame}
use Rattle.lock_manager.specs.Waiting.{Polls, Cancels}
use Rattle.lock_manager.specs.declared.blocked.Blocked.{Blocked}
use Rattle.lock_manager.specs.Queues.{AreBlockers, LooksAt}
use Rattle.lock_manager.specs.WaitingSessions.{WaitingView, HasBegun, HasEnded, WaitsOn}
use Rattle.scenario.specs.declared.answers.Said.{Said}
use Rattle.scenario.specs.declared.answers.Said.TheVariants as said

-- What a session is told of an acquire that may wait, and of its wait.

-- how the acquire began of which a session is told this
abbrev pub begun_by : Said → Result Begun Refusal
begun_by (said.Acquired acquired.Granted) = Ok begun.Granted
begun_by (said.Acquired acquired.AlreadyHeld) = Ok begun.AlreadyHeld
begun_by (said.Refused refusal) = Err refusal
begun_by _ = Ok begun.Queued

module _ {B : Type 0} (seat : B → Seated) (view : B → Account) (stack : B → Stack) (old : SessionView B) (tag : Tag) (mode : Mode) (owner : Owner) where
  -- The acquire was answered at once.
  pub record IsBegun (told : Said) (new : SessionView B) : Type 0 where
    pub answers : AnswersByOwned old.owned tag mode owner begun.AlreadyHeld true (begun_by told)
    pub steps : Begins Waiting (seat old.board) old.owned (view old.board) old.uses tag mode (begun_by told) (view new.board) new.uses
    pub entries : IfOk (begun_by told) (λ answer. new.owned.entries ≡ entries_begun answer old.owned.entries tag mode owner)
    pub same_entries : OnErr (begun_by told) (new.owned.entries ≡ old.owned.entries)
    pub same : IsSame seat view stack old new

  -- The session was queued for the lock.
  pub record IsQueued (new : WaitingView B) : Type 0 where
    pub steps : Begins Waiting (seat old.board) old.owned (view old.board) old.uses tag mode (Ok begun.Queued) (view new.board) new.uses
    pub begun : HasBegun seat view stack old tag mode owner new

-- A session has looked at what others have, any number of times: it is the same one, and has what it had.
pub record LooksAround {B : Type 0} (seat : B → Seated) (old new : SessionView B) : Type 0 where
  pub seat_ : seat new.board ≡ seat old.board
  pub database : new.database ≡ old.database
  pub owned : new.owned ≡ old.owned
  pub uses : new.uses ≡ old.uses

-- A session cancels its wait, which may have been granted before that.
pub record GivesUp {B : Type 0} (seat : B → Seated) (view : B → Account) (stack : B → Stack) (old : WaitingView B) (was_granted : Bool) (new : SessionView B) :
    Type 0 where
  pub steps : Cancels (seat old.board).number (view old.board).trace old.tag old.mode was_granted (view new.board).trace
  pub entries : was_granted ≡ true → new.owned.entries ≡ with_one_more old.owned.entries old.tag old.mode old.owner
  pub same_owned : was_granted ≡ false → new.owned ≡ old.owned
  pub same : HasEnded seat view stack old new

module _ {B : Type 0} (seat : B → Seated) (view : B → Account) (stack : B → Stack) (old : WaitingView B) where
  -- A session that waits looks once, and waits on.
  pub record LooksOn (new : WaitingView B) : Type 0 where
    pub polled : Polls (seat old.board).number (view old.board).trace looked.Still (view new.board).trace
    pub same : WaitsOn seat view stack old new

  -- A session that waits says who is in its way, and waits on.
  pub record TellsBlocked (new : WaitingView B) (told : Blocked) : Type 0 where
    pub session : told.session ≡ (seat old.board).number
    pub tag : told.tag ≡ old.tag
    pub mode : told.mode ≡ old.mode
    pub looked :
        LooksAt (λ taken. AreBlockers old.tag (seat old.board).number told.blockers.items taken) (view old.board).trace old.tag
        (view new.board).trace
    pub same : WaitsOn seat view stack old new

  -- A session that waits looks, and was granted its lock.
  pub record FindsGrant (new : SessionView B) : Type 0 where
    pub polled : Polls (seat old.board).number (view old.board).trace looked.Granted (view new.board).trace
    pub entries : new.owned.entries ≡ with_one_more old.owned.entries old.tag old.mode old.owner
    pub same : HasEnded seat view stack old new

  -- A session that waits looks, was asked to stop, and cancels its wait.
  pub record StopsAsAsked (was_granted : Bool) (new : SessionView B) : Type 0 where
    pub asked : WaitingView B
    pub polled : Polls (seat old.board).number (view old.board).trace looked.CancelAsked (view asked.board).trace
    pub still : WaitsOn seat view stack old asked
    pub gave_up : GivesUp seat view stack asked was_granted new

  -- A session that waits looks, goes on, and is told this.
  abbrev pub GoesOn : Said → SessionView B → Type 0
  GoesOn said.GrantedAfterWaiting new = FindsGrant new ⊎ StopsAsAsked true new
  GoesOn said.Cancelled new = StopsAsAsked false new
  GoesOn _ new = ⊥
