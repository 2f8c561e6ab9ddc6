use Rattle.std.specs.Prelude.{◌≡◌, ◌⊎◌, ℕ, Bool, true, false, Result, Ok, Err}
use Rattle.modes_core.specs.declared.modes.Mode.{Mode}
use Rattle.modes_core.specs.declared.tags.Tag.{Tag}
use Rattle.modes_core.specs.declared.sessions.Owner.{Owner}
use Rattle.modes_core.specs.declared.refusals.Refusal.{Refusal}
use Rattle.modes_core.specs.declared.refusals.Refusal.TheVariants as refusal_
use Rattle.local_locks.specs.declared.answers.Acquired.{Acquired}
use Rattle.local_locks.specs.declared.answers.Acquired.TheVariants as acquired
use Rattle.local_locks.specs.Owned.{Owned}
use Rattle.lock_world.specs.Account.{Account}
use Rattle.shared_rule.specs.Boards.{Seated, Stack}
use Rattle.fast_path.specs.declared.use_counts.UseCounts.{UseCounts}
use Rattle.wait_queue.specs.declared.requests.Kind.TheVariants.{Waiting}
use Rattle.lock_manager.specs.declared.requests.Begun.{Begun}
use Rattle.lock_manager.specs.declared.requests.Begun.TheVariants as begun
use Rattle.lock_manager.specs.declared.waiting.Looked.{Looked}
use Rattle.lock_manager.specs.declared.waiting.Looked.TheVariants as looked
use Rattle.lock_manager.specs.declared.waiting_sessions.Started.{Started}
use Rattle.lock_manager.specs.declared.waiting_sessions.Started.TheVariants as started
use Rattle.lock_manager.specs.declared.waiting_sessions.Locked.{Locked}
use Rattle.lock_manager.specs.declared.waiting_sessions.Locked.TheVariants as locked
use Rattle.lock_manager.specs.declared.waiting_sessions.Polled.{Polled}
use Rattle.lock_manager.specs.declared.waiting_sessions.Polled.TheVariants as polled
use Rattle.lock_manager.specs.declared.waiting_sessions.Cancelled.{Cancelled}
use Rattle.lock_manager.specs.declared.waiting_sessions.Cancelled.TheVariants as cancelled
use Rattle.lock_manager.specs.declared.waiting_sessions.Waited.{Waited}
use Rattle.lock_manager.specs.declared.waiting_sessions.Waited.TheVariants as waited
use Rattle.lock_manager.specs.Sessions.{SessionView, IsResting}
use Rattle.lock_manager.specs.Acquires.{Begins}
use Rattle.lock_manager.specs.Waiting.{IsWaiting, Waits}

-- Sessions that wait, and answers with which a session comes back.

-- What contracts see of a session that waits: its board, its database, the use counts of its fast-path slots,
-- what it owns, and what it waits for.
pub record WaitingView (B : Type 0) : Type 0 where
  pub board : B
  pub database : ℕ
  pub uses : UseCounts
  pub owned : Owned
  pub tag : Tag
  pub mode : Mode
  pub owner : Owner

-- ---- how an acquire that may wait began

abbrev pub answer_started : {S W : Type 0} → Started S W → Result Begun Refusal
answer_started (started.Granted session) = Ok begun.Granted
answer_started (started.AlreadyHeld session) = Ok begun.AlreadyHeld
answer_started (started.Queued waiting) = Ok begun.Queued
answer_started (started.Refused session refusal) = Err refusal

-- the board of the session that comes back, whether it waits or not
abbrev pub board_started : {B : Type 0} → Started (SessionView B) (WaitingView B) → B
board_started (started.Granted session) = session.board
board_started (started.AlreadyHeld session) = session.board
board_started (started.Queued waiting) = waiting.board
board_started (started.Refused session refusal) = session.board

-- the use counts of the session that comes back, whether it waits or not
abbrev pub uses_started : {B : Type 0} → Started (SessionView B) (WaitingView B) → UseCounts
uses_started (started.Granted session) = session.uses
uses_started (started.AlreadyHeld session) = session.uses
uses_started (started.Queued waiting) = waiting.uses
uses_started (started.Refused session refusal) = session.uses

-- what the session that comes back owns, whether it waits or not
abbrev pub owned_started : {B : Type 0} → Started (SessionView B) (WaitingView B) → Owned
owned_started (started.Granted session) = session.owned
owned_started (started.AlreadyHeld session) = session.owned
owned_started (started.Queued waiting) = waiting.owned
owned_started (started.Refused session refusal) = session.owned

-- the session with what its acquire is answered, or the session that waits
abbrev pub parts_started : {S W : Type 0} → Started S W → Result (S × Result Acquired Refusal) W
parts_started (started.Granted session) = Ok (session, Ok acquired.Granted)
parts_started (started.AlreadyHeld session) = Ok (session, Ok acquired.AlreadyHeld)
parts_started (started.Queued waiting) = Err waiting
parts_started (started.Refused session refusal) = Ok (session, Err refusal)

-- P of the session that comes back, where it doesn't wait
abbrev pub UnlessQueued : {S W : Type 0} → Started S W → (S → Type 0) → Type 0
UnlessQueued (started.Granted session) P = P session
UnlessQueued (started.AlreadyHeld session) P = P session
UnlessQueued (started.Queued waiting) P = Unit {0}
UnlessQueued (started.Refused session refusal) P = P session

-- P of the session that comes back, where it waits
abbrev pub IfQueued : {S W : Type 0} → Started S W → (W → Type 0) → Type 0
IfQueued (started.Granted session) P = Unit {0}
IfQueued (started.AlreadyHeld session) P = Unit {0}
IfQueued (started.Queued waiting) P = P waiting
IfQueued (started.Refused session refusal) P = Unit {0}

-- ---- what a session that waits finds when it looks

abbrev pub answer_polled : {S W : Type 0} → Polled S W → Looked
answer_polled (polled.Granted session) = looked.Granted
answer_polled (polled.Still waiting) = looked.Still
answer_polled (polled.CancelAsked waiting) = looked.CancelAsked

-- the board of the session that comes back from a look, whether it waits still or not
abbrev pub board_polled : {B : Type 0} → Polled (SessionView B) (WaitingView B) → B
board_polled (polled.Granted session) = session.board
board_polled (polled.Still waiting) = waiting.board
board_polled (polled.CancelAsked waiting) = waiting.board

-- the session whose wait was granted, or the one that waits still, with whether it was asked to cancel
abbrev pub parts_polled : {S W : Type 0} → Polled S W → Result S (W × Bool)
parts_polled (polled.Granted session) = Ok session
parts_polled (polled.Still waiting) = Err (waiting, false)
parts_polled (polled.CancelAsked waiting) = Err (waiting, true)

-- P of the session that comes back, where its wait was granted
abbrev pub IfGranted : {S W : Type 0} → Polled S W → (S → Type 0) → Type 0
IfGranted (polled.Granted session) P = P session
IfGranted (polled.Still waiting) P = Unit {0}
IfGranted (polled.CancelAsked waiting) P = Unit {0}

-- P of the session that comes back, where it still waits
abbrev pub UnlessGranted : {S W : Type 0} → Polled S W → (W → Type 0) → Type 0
UnlessGranted (polled.Granted session) P = Unit {0}
UnlessGranted (polled.Still waiting) P = P waiting
UnlessGranted (polled.CancelAsked waiting) P = P waiting

-- ---- how a wait ended

-- whether it had been granted before its session cancelled it
abbrev pub was_granted : {S : Type 0} → Cancelled S → Bool
was_granted (cancelled.Removed session) = false
was_granted (cancelled.WasGranted session) = true

-- the session that comes back once it has cancelled its wait
abbrev pub session_cancelled : {S : Type 0} → Cancelled S → S
session_cancelled (cancelled.Removed session) = session
session_cancelled (cancelled.WasGranted session) = session

-- what the acquire is answered whose wait ended so by its session's cancel
abbrev pub acquired_despite : Bool → Result Acquired Refusal
acquired_despite false = Err refusal_.Cancelled
acquired_despite true = Ok acquired.Granted

-- how a wait ended: with the mode, or refused
abbrev pub answer_waited : {S : Type 0} → Waited S → Result (Unit {0}) Refusal
answer_waited (waited.Granted session) = Ok tt
answer_waited (waited.Refused session refusal) = Err refusal

-- the session that comes back once its wait has ended
abbrev pub session_waited : {S : Type 0} → Waited S → S
session_waited (waited.Granted session) = session
session_waited (waited.Refused session refusal) = session

-- what the acquire is answered whose wait ended so
abbrev pub acquired_after : Result (Unit {0}) Refusal → Result Acquired Refusal
acquired_after (Ok done) = Ok acquired.Granted
acquired_after (Err refusal) = Err refusal

-- ---- an acquire that waits as long as it must

abbrev pub answer_locked : {S : Type 0} → Locked S → Result Acquired Refusal
answer_locked (locked.Granted session) = Ok acquired.Granted
answer_locked (locked.AlreadyHeld session) = Ok acquired.AlreadyHeld
answer_locked (locked.Refused session refusal) = Err refusal

-- the session that comes back from an acquire that waits as long as it must
abbrev pub session_locked : {S : Type 0} → Locked S → S
session_locked (locked.Granted session) = session
session_locked (locked.AlreadyHeld session) = session
session_locked (locked.Refused session refusal) = session

-- The request was queued, and its wait ended so.
pub record QueuesAndWaits (seat : Seated) (owned : Owned) (a : Account) (uses : UseCounts) (tag : Tag) (mode : Mode)
    (result : Result (Unit {0}) Refusal) (b : Account) (left : UseCounts) : Type 0 where
  pub queued : Account
  pub starts : Begins Waiting seat owned a uses tag mode (Ok begun.Queued) queued left
  pub waits : Waits seat.number queued.trace tag mode result b.trace

-- What joins the trace of an acquire that waits as long as it must, by its answer: it is answered at once as
-- one that may wait, or after its wait.
abbrev pub Locks :
    Seated → Owned → Account → UseCounts → Tag → Mode → Result Acquired Refusal → Account → UseCounts → Type 0
Locks seat owned a uses tag mode (Ok acquired.AlreadyHeld) b left =
    Begins Waiting seat owned a uses tag mode (Ok begun.AlreadyHeld) b left
Locks seat owned a uses tag mode (Ok acquired.Granted) b left =
    Begins Waiting seat owned a uses tag mode (Ok begun.Granted) b left
    ⊎ QueuesAndWaits seat owned a uses tag mode (Ok tt) b left
Locks seat owned a uses tag mode (Err refusal) b left =
    Begins Waiting seat owned a uses tag mode (Err refusal) b left
    ⊎ QueuesAndWaits seat owned a uses tag mode (Err refusal) b left

-- ---- sessions by what their boards show

module _ {B : Type 0} (seat : B → Seated) (view : B → Account) (stack : B → Stack) where
  -- The session waits, and is in no call.
  abbrev pub IsInQueue : WaitingView B → Type 0
  IsInQueue waiting =
      IsWaiting (seat waiting.board).groups (seat waiting.board).limit waiting.database waiting.uses
      (view waiting.board) (stack waiting.board) waiting.owned.entries waiting.tag waiting.mode

  -- The session is the same one, and has begun to wait for the mode on the object.
  pub record HasBegun (old : SessionView B) (tag : Tag) (mode : Mode) (owner : Owner) (new : WaitingView B) :
      Type 0 where
    pub seat_ : seat new.board ≡ seat old.board
    pub database : new.database ≡ old.database
    pub max_local : new.owned.max_local ≡ old.owned.max_local
    pub tag_ : new.tag ≡ tag
    pub mode_ : new.mode ≡ mode
    pub owner_ : new.owner ≡ owner
    pub waits : IsInQueue new

  -- The session is the same one in the same wait, and owns what it owned.
  pub record WaitsOn (old new : WaitingView B) : Type 0 where
    pub seat_ : seat new.board ≡ seat old.board
    pub database : new.database ≡ old.database
    pub uses : new.uses ≡ old.uses
    pub owned : new.owned ≡ old.owned
    pub tag_ : new.tag ≡ old.tag
    pub mode_ : new.mode ≡ old.mode
    pub owner_ : new.owner ≡ old.owner
    pub waits : IsInQueue new

  -- The session is the same one, whose wait is over, and which is in no call.
  pub record HasEnded (old : WaitingView B) (new : SessionView B) : Type 0 where
    pub seat_ : seat new.board ≡ seat old.board
    pub database : new.database ≡ old.database
    pub uses : new.uses ≡ old.uses
    pub max_local : new.owned.max_local ≡ old.owned.max_local
    pub levels : new.owned.outer ≡ old.owned.outer
    pub rest : IsResting seat view stack new
