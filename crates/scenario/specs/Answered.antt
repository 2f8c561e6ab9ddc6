use Rattle.std.specs.Prelude.{◌≡◌, ℕ, Option, Some, None, remove}
use Rattle.std.specs.List.{HoldsAt}
use Rattle.modes_core.specs.declared.sessions.Owner.{Owner}
use Rattle.modes_core.specs.declared.sessions.Owner.TheVariants as owner
use Rattle.local_locks.specs.Owned.{own_count_of}
use Rattle.lock_world.specs.Account.{Account}
use Rattle.shared_rule.specs.Boards.{Seated, Stack}
use Rattle.lock_manager.specs.declared.blocked.Blocked.{Blocked}
use Rattle.lock_manager.specs.declared.calls.Call.{Call}
use Rattle.lock_manager.specs.Sessions.{SessionView}
use Rattle.lock_manager.specs.WaitingSessions.{WaitingView}
use Rattle.lock_script.specs.declared.command.Target.{Target}
use Rattle.arrayvec.specs.declared.array_string.ArrayString.{ArrayString}
use Rattle.lock_script.specs.declared.sessions.Caller.{Caller}
use Rattle.lock_script.specs.declared.sessions.OpenSessions.{OpenSessions}
use Rattle.lock_script.specs.Lending.{with_session}
use Rattle.lock_script.specs.Names.{PutsIn}
use Rattle.scenario.specs.declared.answers.Answer.{Answer}
use Rattle.scenario.specs.declared.answers.Answer.TheVariants as answer
use Rattle.scenario.specs.declared.answers.Said.{Said}
use Rattle.scenario.specs.declared.answers.Said.TheVariants as said
use Rattle.scenario.specs.Made.{IsMade}
use Rattle.scenario.specs.Waits.{GoesOn, IsBegun, IsQueued, LooksAround, LooksOn, TellsBlocked}

-- What a command leaves of the sessions of a script, and what it is answered.

module _ {B : Type 0} (seat : B → Seated) (view : B → Account) (stack : B → Stack) (old new : OpenSessions (SessionView B) (WaitingView B)) where
  -- The session at its place has made the call, which may be about another one, and is answered under its
  -- name, and all others are as they were.
  pub record CallsAt (caller : Caller) (other : ArrayString 16) (call : Call) (it : Answer) : Type 0 where
    pub after : SessionView B
    pub made : HoldsAt (λ one. IsMade seat view stack one.session after caller.name other call it) old.resting caller.place
    pub there : new.resting ≡ with_session old.resting caller.place after
    pub waiting : new.waiting ≡ old.waiting

  -- The session at this place has looked at what others have, and all others are as they were.
  pub record LooksAroundAt (place : ℕ) : Type 0 where
    pub after : SessionView B
    pub looked : HoldsAt (λ one. LooksAround seat one.session after) old.resting place
    pub there : new.resting ≡ with_session old.resting place after
    pub waiting : new.waiting ≡ old.waiting

  -- The session at its place is told how often each owner of it has the lock, and all are as they were.
  pub record OwnsAt (target : Target) (it : Answer) : Type 0 where
    pub told :
        HoldsAt (λ one. it ≡ answer.Said target.caller.name (said.Owned
        (own_count_of one.session.owned target.tag target.mode owner.Transaction)
        (own_count_of one.session.owned target.tag target.mode owner.Session))) old.resting target.caller.place
    pub same : new ≡ old

  -- The session at its place has asked for a lock that it may wait for, is told what came of it, and doesn't
  -- wait.
  pub record AcquiresAt (target : Target) (owner : Owner) (it : Answer) : Type 0 where
    pub told : Said
    pub after : SessionView B
    pub begun : HoldsAt (λ one. IsBegun seat view stack one.session target.tag target.mode owner told after) old.resting target.caller.place
    pub answered : HoldsAt (λ one. it ≡ answer.Said one.name told) old.resting target.caller.place
    pub back :
        HoldsAt (λ one. PutsIn (remove old.resting target.caller.place) (record { name = one.name; session = after }) new.resting)
        old.resting target.caller.place
    pub waiting : new.waiting ≡ old.waiting

  -- The session at its place has asked for a lock, and waits from now on.
  pub record WaitsAt (target : Target) (owner : Owner) (it : Answer) : Type 0 where
    pub after : WaitingView B
    pub queued : HoldsAt (λ one. IsQueued seat view stack one.session target.tag target.mode owner after) old.resting target.caller.place
    pub answered : HoldsAt (λ one. it ≡ answer.Said one.name said.Waits) old.resting target.caller.place
    pub joins :
        HoldsAt (λ one. PutsIn old.waiting (record { name = one.name; session = after }) new.waiting) old.resting target.caller.place
    pub resting : new.resting ≡ remove old.resting target.caller.place

  -- A session is closed. All others are as they were.
  pub record ClosesAt (caller : Caller) (it : Answer) : Type 0 where
    pub answered : it ≡ answer.Said caller.name said.Closed
    pub resting : new.resting ≡ remove old.resting caller.place
    pub waiting : new.waiting ≡ old.waiting

  -- The session that waits at its place looks, goes on, and is told this.
  pub record GoesOnAt (place : ℕ) (name : ArrayString 16) (told : Said) : Type 0 where
    pub after : SessionView B
    pub goes_on : HoldsAt (λ one. GoesOn seat view stack one.session told after) old.waiting place
    pub called : HoldsAt (λ one. name ≡ one.name) old.waiting place
    pub rests : PutsIn old.resting (record { name = name; session = after }) new.resting
    pub waiting : new.waiting ≡ remove old.waiting place

  -- The session that waits at its place says who is in its way. All else is as it was.
  pub record TellsBlockedAt (place : ℕ) (told : Blocked) : Type 0 where
    pub after : WaitingView B
    pub tells : HoldsAt (λ one. TellsBlocked seat view stack one.session after told) old.waiting place
    pub there : new.waiting ≡ with_session old.waiting place after
    pub resting : new.resting ≡ old.resting

  -- The session that waits at its place looks, and waits on there.
  pub record WaitsOnAt (place : ℕ) : Type 0 where
    pub after : WaitingView B
    pub looks : HoldsAt (λ one. LooksOn seat view stack one.session after) old.waiting place
    pub there : new.waiting ≡ with_session old.waiting place after
    pub resting : new.resting ≡ old.resting

  -- The session that waits at its place is polled, and this is what it is told if it goes on.
  abbrev pub PollsAt : ℕ → Option (ArrayString 16 × Said) → Type 0
  PollsAt place (Some (name, told)) = GoesOnAt place name told
  PollsAt place None = WaitsOnAt place
