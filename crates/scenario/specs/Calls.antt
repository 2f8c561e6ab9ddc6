use Rattle.std.specs.Prelude.{◌≡◌, ℕ, ◌<◌, ⊤}
use Rattle.lock_manager.specs.declared.calls.Call.{Call}
use Rattle.lock_manager.specs.declared.calls.Call.TheVariants as call
use Rattle.lock_script.specs.declared.command.Command.{Command}
use Rattle.lock_script.specs.declared.command.Command.TheVariants as command
use Rattle.scenario.specs.declared.sessions.Action.{Action}
use Rattle.scenario.specs.declared.sessions.Action.TheVariants as action

-- What a command has a session do.

-- Scripts make this call, and the strong lock counter that it names is one of the 1,024.
abbrev pub IsScripted : Call → Type 0
IsScripted (call.Acquire tag mode owner) = ⊥
IsScripted (call.Held tag) = ⊥
IsScripted (call.OwnerCount tag mode owner) = ⊥
IsScripted call.Waits = ⊥
IsScripted (call.StrongCount index) = index < 1024
IsScripted _ = ⊤

-- the call that a command is, of the session that it names, where the other one that it names has this number
abbrev pub IsActionOf : Command → ℕ → Action → Type 0
IsActionOf (command.Session name database) number it = it ≡ action.Open name database
IsActionOf (command.Name name tag) number it = it ≡ action.Name name tag
IsActionOf (command.Close caller) number it = it ≡ action.Close caller
IsActionOf (command.Lock target owner) number it = it ≡ action.Lock target owner
IsActionOf (command.Hash tag) number it = it ≡ action.Hash tag
IsActionOf (command.Try target owner) number it = it ≡ action.Make target.caller target.caller.name (call.TryLock target.tag target.mode owner)
IsActionOf (command.Fast target owner) number it = it ≡ action.Make target.caller target.caller.name (call.TryFast target.tag target.mode owner)
IsActionOf (command.Unlock target owner) number it = it ≡ action.Make target.caller target.caller.name (call.Unlock target.tag target.mode owner)
IsActionOf (command.UnlockAll caller) number it = it ≡ action.Make caller caller.name call.UnlockAll
IsActionOf (command.Commit caller) number it = it ≡ action.Make caller caller.name call.Commit
IsActionOf (command.Abort caller) number it = it ≡ action.Make caller caller.name call.Abort
IsActionOf (command.Begin caller) number it = it ≡ action.Make caller caller.name call.BeginNested
IsActionOf (command.SubCommit caller) number it = it ≡ action.Make caller caller.name call.CommitNested
IsActionOf (command.SubAbort caller) number it = it ≡ action.Make caller caller.name call.AbortNested
IsActionOf (command.Owned target) number it = it ≡ action.Owned target
IsActionOf (command.Waiters target) number it = it ≡ action.Make target.caller target.caller.name (call.HasWaiters target.tag target.mode)
IsActionOf (command.Queue caller tag) number it = it ≡ action.Make caller caller.name (call.Queue tag)
IsActionOf (command.Blockers by other tag) number it = it ≡ action.Make by other.name (call.Blockers tag number)
IsActionOf (command.Cancel by other) number it = it ≡ action.Make by other.name (call.AskCancel number)
IsActionOf (command.List caller) number it = it ≡ action.Make caller caller.name call.List
IsActionOf (command.Count caller index) number it = it ≡ action.Make caller caller.name (call.StrongCount index)
