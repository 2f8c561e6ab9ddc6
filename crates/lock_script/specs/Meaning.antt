use Rattle.std.specs.Prelude.{◌≡◌, ℕ, true, List, [], ◌∷◌, ⊤, Some, None, codes, slice_index_or}
use Rattle.arrayvec.specs.declared.array_string.ArrayString.{ArrayString}
use Rattle.modes_core.specs.declared.sessions.Owner.{Owner}
use Rattle.modes_core.specs.declared.sessions.Owner.TheVariants.{Transaction}
use Rattle.modes_core.specs.declared.tags.Tag.{Tag}
use Rattle.modes_core.specs.Mode.{name_of}
use Rattle.lock_script.specs.Command.{NamesOpen, NamesCaller}
use Rattle.lock_script.specs.Sessions.{IsUnknown}
use Rattle.lock_script.specs.Objects.{is_object_name, name_given, tag_called, tag_in}
use Rattle.lock_script.specs.Words.{is_name, number_in, strong_index_in, owner_of}
use Rattle.lock_script.specs.declared.objects.NamedObject.{NamedObject}
use Rattle.lock_script.specs.declared.sessions.OpenSessions.{OpenSessions}
use Rattle.lock_script.specs.declared.sessions.Caller.{Caller}
use Rattle.lock_script.specs.declared.sessions.Opened.{Opened}
use Rattle.lock_script.specs.declared.command.Target.{Target}
use Rattle.lock_script.specs.declared.command.Command.{Command}
use Rattle.lock_script.specs.declared.command.Command.TheVariants.{Session, Try, Fast, Lock, Unlock, UnlockAll, Commit, Abort, Begin, SubCommit, SubAbort, Owned, Waiters, Queue, Blockers, Cancel, Count, Hash, Close}
use Rattle.lock_script.specs.declared.command.Command.TheVariants as command

-- What the words of a line mean.

-- a line with no word, and a comment, whose first word begins with `#`
abbrev pub IsSilent : List (List ℕ) → Type 0
IsSilent [] = ⊤
IsSilent (verb ∷ words) = slice_index_or verb 0 0 ≡ 35

-- the word behind `hash`
abbrev pub NamesTag : List NamedObject → List (List ℕ) → Tag → Type 0
NamesTag objects (word ∷ []) tag = tag_in objects word ≡ Some tag
NamesTag objects _ tag = ⊥

-- the words behind `name`: a name that no object has, and an object that has none
abbrev pub NamesObject : List NamedObject → List (List ℕ) → ArrayString 63 → Tag → Type 0
NamesObject objects (word ∷ object ∷ []) name tag =
    (name.bytes ≡ word) × (is_object_name word ≡ true) × (tag_called objects word ≡ None)
    × (tag_in objects object ≡ Some tag) × (name_given objects tag ≡ None)
NamesObject objects _ name tag = ⊥

module _ {S W : Type 0} where
  -- the words behind `session`: a name that is free, and a database
  abbrev pub NamesNew : OpenSessions S W → List (List ℕ) → ArrayString 16 → ℕ → Type 0
  NamesNew sessions (word ∷ number ∷ []) name database =
      (name.bytes ≡ word) × (is_name word ≡ true) × IsUnknown sessions word × (number_in number ≡ Some database)
  NamesNew sessions _ name database = ⊥

  -- whose lock three words say, on what and in which mode
  abbrev pub NamesTarget : OpenSessions S W → List NamedObject → List ℕ → List ℕ → List ℕ → Target → Type 0
  NamesTarget sessions objects name tag mode target =
      NamesCaller sessions name target.caller × (tag_in objects tag ≡ Some target.tag) × (name_of target.mode ≡ mode)

  -- the words behind `owned` and `waiters`
  abbrev pub NamesLone : OpenSessions S W → List NamedObject → List (List ℕ) → Target → Type 0
  NamesLone sessions objects (name ∷ tag ∷ mode ∷ []) target = NamesTarget sessions objects name tag mode target
  NamesLone sessions objects _ target = ⊥

  -- the words behind `try`, `fast`, `lock` and `unlock`: with no fourth word the owner is the transaction
  abbrev pub NamesOwned : OpenSessions S W → List NamedObject → List (List ℕ) → Target → Owner → Type 0
  NamesOwned sessions objects (name ∷ tag ∷ mode ∷ []) target owner = NamesTarget sessions objects name tag mode target × (owner ≡ Transaction)
  NamesOwned sessions objects (name ∷ tag ∷ mode ∷ word ∷ []) target owner =
      NamesTarget sessions objects name tag mode target × (owner_of word ≡ Some owner)
  NamesOwned sessions objects _ target owner = ⊥

  -- the word behind a command that takes a session's name alone
  abbrev pub NamesActor : OpenSessions S W → List (List ℕ) → Caller → Type 0
  NamesActor sessions (name ∷ []) caller = NamesCaller sessions name caller
  NamesActor sessions _ caller = ⊥

  -- the words behind `cancel`: who asks, and who is asked
  abbrev pub NamesBoth : OpenSessions S W → List (List ℕ) → Caller → Opened → Type 0
  NamesBoth sessions (by ∷ other ∷ []) caller opened = NamesCaller sessions by caller × NamesOpen sessions other opened
  NamesBoth sessions _ caller opened = ⊥

  -- the words behind `queue`: who looks, and at the queue of which object
  abbrev pub NamesQueue : OpenSessions S W → List NamedObject → List (List ℕ) → Caller → Tag → Type 0
  NamesQueue sessions objects (name ∷ word ∷ []) caller tag = NamesCaller sessions name caller × (tag_in objects word ≡ Some tag)
  NamesQueue sessions objects _ caller tag = ⊥

  -- the words behind `blockers`: who looks, in whose way others stand, and on which object
  abbrev pub NamesBlocked : OpenSessions S W → List NamedObject → List (List ℕ) → Caller → Opened → Tag → Type 0
  NamesBlocked sessions objects (by ∷ other ∷ word ∷ []) caller opened tag =
      NamesCaller sessions by caller × NamesOpen sessions other opened × (tag_in objects word ≡ Some tag)
  NamesBlocked sessions objects _ caller opened tag = ⊥

  -- the words behind `count`: who looks, and at which strong lock counter
  abbrev pub NamesCount : OpenSessions S W → List (List ℕ) → Caller → ℕ → Type 0
  NamesCount sessions (name ∷ number ∷ []) caller index =
      NamesCaller sessions name caller × (strong_index_in number ≡ Some index)
  NamesCount sessions _ caller index = ⊥

  -- the command of this first word and the words behind it
  abbrev pub IsCommandOf : OpenSessions S W → List NamedObject → List ℕ → List (List ℕ) → Command → Type 0
  IsCommandOf sessions objects verb words (Session name database) = (verb ≡ codes "session") × NamesNew sessions words name database
  IsCommandOf sessions objects verb words (command.Name name tag) = (verb ≡ codes "name") × NamesObject objects words name tag
  IsCommandOf sessions objects verb words (Try target owner) = (verb ≡ codes "try") × NamesOwned sessions objects words target owner
  IsCommandOf sessions objects verb words (Fast target owner) = (verb ≡ codes "fast") × NamesOwned sessions objects words target owner
  IsCommandOf sessions objects verb words (Lock target owner) = (verb ≡ codes "lock") × NamesOwned sessions objects words target owner
  IsCommandOf sessions objects verb words (Unlock target owner) = (verb ≡ codes "unlock") × NamesOwned sessions objects words target owner
  IsCommandOf sessions objects verb words (UnlockAll caller) = (verb ≡ codes "unlock_all") × NamesActor sessions words caller
  IsCommandOf sessions objects verb words (Commit caller) = (verb ≡ codes "commit") × NamesActor sessions words caller
  IsCommandOf sessions objects verb words (Abort caller) = (verb ≡ codes "abort") × NamesActor sessions words caller
  IsCommandOf sessions objects verb words (Begin caller) = (verb ≡ codes "begin") × NamesActor sessions words caller
  IsCommandOf sessions objects verb words (SubCommit caller) = (verb ≡ codes "subcommit") × NamesActor sessions words caller
  IsCommandOf sessions objects verb words (SubAbort caller) = (verb ≡ codes "subabort") × NamesActor sessions words caller
  IsCommandOf sessions objects verb words (Owned target) = (verb ≡ codes "owned") × NamesLone sessions objects words target
  IsCommandOf sessions objects verb words (Waiters target) = (verb ≡ codes "waiters") × NamesLone sessions objects words target
  IsCommandOf sessions objects verb words (Queue caller tag) = (verb ≡ codes "queue") × NamesQueue sessions objects words caller tag
  IsCommandOf sessions objects verb words (Blockers by other tag) = (verb ≡ codes "blockers") × NamesBlocked sessions objects words by other tag
  IsCommandOf sessions objects verb words (Cancel by other) = (verb ≡ codes "cancel") × NamesBoth sessions words by other
  IsCommandOf sessions objects verb words (command.List caller) = (verb ≡ codes "list") × NamesActor sessions words caller
  IsCommandOf sessions objects verb words (Count caller index) = (verb ≡ codes "count") × NamesCount sessions words caller index
  IsCommandOf sessions objects verb words (Hash tag) = (verb ≡ codes "hash") × NamesTag objects words tag
  IsCommandOf sessions objects verb words (Close caller) = (verb ≡ codes "close") × NamesActor sessions words caller

  -- the command that the words of a line are
  abbrev pub Means : OpenSessions S W → List NamedObject → List (List ℕ) → Command → Type 0
  Means sessions objects [] command = ⊥
  Means sessions objects (verb ∷ words) command = IsCommandOf sessions objects verb words command
