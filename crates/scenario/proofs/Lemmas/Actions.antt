-- What a command asks of the session that it names, where it is played.
use Rattle.std.specs.Prelude.{⊤}
use Rattle.std.proofs.Common.{ℕ, subst, sym}
use Rattle.lock_script.specs.declared.command.Command.{Command}
use Rattle.lock_script.specs.declared.command.Command.TheVariants as command
use Rattle.lock_script.specs.declared.sessions.OpenSessions.{OpenSessions}
use Rattle.lock_script.specs.Command.{Addresses, NamesCounter}
use Rattle.lock_script.specs.Sessions.{MayAct}
use Rattle.scenario.specs.declared.sessions.Action.{Action}
use Rattle.scenario.specs.declared.sessions.Action.TheVariants as action
use Rattle.scenario.specs.Calls.{IsActionOf, IsScripted}

module _ {S W : Type 0} where
  -- The session that does it stands among those that don't wait.
  abbrev pub MayDo : OpenSessions S W → Action → Type 0
  MayDo sessions (action.Open name database) = ⊤
  MayDo sessions (action.Name name tag) = ⊤
  MayDo sessions (action.Close caller) = MayAct sessions caller.place
  MayDo sessions (action.Lock target owner) = MayAct sessions target.caller.place
  MayDo sessions (action.Make caller other call) = MayAct sessions caller.place × IsScripted call
  MayDo sessions (action.Owned target) = MayAct sessions target.caller.place
  MayDo sessions (action.Hash tag) = ⊤

  pub may_do : (sessions : OpenSessions S W) (it : Command) (number : ℕ) (done : Action) → IsActionOf it number done → Addresses sessions it → NamesCounter it → MayDo sessions done
  may_do sessions (command.Session name database) number done is at counter = subst (MayDo sessions) (sym is) tt
  may_do sessions (command.Name name tag) number done is at counter = subst (MayDo sessions) (sym is) tt
  may_do sessions (command.Close caller) number done is at counter = subst (MayDo sessions) (sym is) at
  may_do sessions (command.Lock target owner) number done is at counter = subst (MayDo sessions) (sym is) at
  may_do sessions (command.Hash tag) number done is at counter = subst (MayDo sessions) (sym is) tt
  may_do sessions (command.Try target owner) number done is at counter = subst (MayDo sessions) (sym is) (at, tt)
  may_do sessions (command.Fast target owner) number done is at counter = subst (MayDo sessions) (sym is) (at, tt)
  may_do sessions (command.Unlock target owner) number done is at counter = subst (MayDo sessions) (sym is) (at, tt)
  may_do sessions (command.UnlockAll caller) number done is at counter = subst (MayDo sessions) (sym is) (at, tt)
  may_do sessions (command.Commit caller) number done is at counter = subst (MayDo sessions) (sym is) (at, tt)
  may_do sessions (command.Abort caller) number done is at counter = subst (MayDo sessions) (sym is) (at, tt)
  may_do sessions (command.Begin caller) number done is at counter = subst (MayDo sessions) (sym is) (at, tt)
  may_do sessions (command.SubCommit caller) number done is at counter = subst (MayDo sessions) (sym is) (at, tt)
  may_do sessions (command.SubAbort caller) number done is at counter = subst (MayDo sessions) (sym is) (at, tt)
  may_do sessions (command.Owned target) number done is at counter = subst (MayDo sessions) (sym is) at
  may_do sessions (command.Waiters target) number done is at counter = subst (MayDo sessions) (sym is) (at, tt)
  may_do sessions (command.Queue caller tag) number done is at counter = subst (MayDo sessions) (sym is) (at, tt)
  may_do sessions (command.List caller) number done is at counter = subst (MayDo sessions) (sym is) (at, tt)
  may_do sessions (command.Blockers by other tag) number done is at counter = subst (MayDo sessions) (sym is) (at.0, tt)
  may_do sessions (command.Cancel by other) number done is at counter = subst (MayDo sessions) (sym is) (at.0, tt)
  may_do sessions (command.Count caller index) number done is at counter = subst (MayDo sessions) (sym is) (at, counter)
