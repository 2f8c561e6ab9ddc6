use Rattle.std.specs.Prelude.{◌≡◌, ◌<◌, ℕ, true, List, None}
use Rattle.lock_script.specs.Names.{IsCalled}
use Rattle.lock_script.specs.Objects.{name_given, tag_called}
use Rattle.lock_script.specs.Sessions.{IsAt, MayAct, IsThere}
use Rattle.lock_script.specs.Words.{is_name}
use Rattle.lock_script.specs.declared.objects.NamedObject.{NamedObject}
use Rattle.lock_script.specs.declared.sessions.OpenSessions.{OpenSessions}
use Rattle.lock_script.specs.declared.sessions.Caller.{Caller}
use Rattle.lock_script.specs.declared.sessions.Opened.{Opened}
use Rattle.lock_script.specs.declared.command.Command.{Command}
use Rattle.lock_script.specs.declared.command.Command.TheVariants.{Session, Try, Fast, Lock, Unlock, UnlockAll, Commit, Abort, Begin, SubCommit, SubAbort, Owned, Waiters, Queue, Blockers, Cancel, Count, Hash, Close}
use Rattle.lock_script.specs.declared.command.Command.TheVariants as command

-- The strong lock counter that a command names is one of the 1,024.
abbrev pub NamesCounter : Command → Type 0
NamesCounter (Count caller index) = index < 1024
NamesCounter _ = Unit {0}

-- The name that a command gives is no object's, and the object has none.
abbrev pub NamesFree : List NamedObject → Command → Type 0
NamesFree objects (command.Name name tag) = (tag_called objects name.bytes ≡ None) × (name_given objects tag ≡ None)
NamesFree objects _ = Unit {0}

module _ {S W : Type 0} where
  -- The session that a command addresses stands among those that don't wait; the one that a cancel asks is
  -- open.
  abbrev pub Addresses : OpenSessions S W → Command → Type 0
  Addresses sessions (Session name database) = Unit {0}
  Addresses sessions (command.Name name tag) = Unit {0}
  Addresses sessions (Try target owner) = MayAct sessions target.caller.place
  Addresses sessions (Fast target owner) = MayAct sessions target.caller.place
  Addresses sessions (Lock target owner) = MayAct sessions target.caller.place
  Addresses sessions (Unlock target owner) = MayAct sessions target.caller.place
  Addresses sessions (UnlockAll caller) = MayAct sessions caller.place
  Addresses sessions (Commit caller) = MayAct sessions caller.place
  Addresses sessions (Abort caller) = MayAct sessions caller.place
  Addresses sessions (Begin caller) = MayAct sessions caller.place
  Addresses sessions (SubCommit caller) = MayAct sessions caller.place
  Addresses sessions (SubAbort caller) = MayAct sessions caller.place
  Addresses sessions (Owned target) = MayAct sessions target.caller.place
  Addresses sessions (Waiters target) = MayAct sessions target.caller.place
  Addresses sessions (Queue caller tag) = MayAct sessions caller.place
  Addresses sessions (Blockers by other tag) = MayAct sessions by.place × IsThere sessions other.place
  Addresses sessions (Cancel by other) = MayAct sessions by.place × IsThere sessions other.place
  Addresses sessions (command.List caller) = MayAct sessions caller.place
  Addresses sessions (Count caller index) = MayAct sessions caller.place
  Addresses sessions (Hash tag) = Unit {0}
  Addresses sessions (Close caller) = MayAct sessions caller.place

  -- The word is the name of an open session, which stands there.
  abbrev pub NamesOpen : OpenSessions S W → List ℕ → Opened → Type 0
  NamesOpen sessions word opened = (is_name word ≡ true) × IsAt sessions word opened.place × (opened.name.bytes ≡ word)

  -- The word is the name of a session that doesn't wait, and this is it.
  abbrev pub NamesCaller : OpenSessions S W → List ℕ → Caller → Type 0
  NamesCaller sessions word caller =
      (is_name word ≡ true) × IsCalled sessions.resting word caller.place × (caller.name.bytes ≡ word)
