-- What follows from a command's meaning.
use Rattle.std.proofs.Common.{◌≡◌, ℕ, ◌<◌, Bool, true, false, List, [], ◌∷◌, Option, Some, None, refl, subst, sym, arith}
use Rattle.std.specs.Prelude.{nat_lt, if◌then◌else◌}
use Rattle.std.proofs.lemmas.Bool.Decides.{nat_tests}
use Rattle.modes_core.specs.declared.sessions.Owner.{Owner}
use Rattle.modes_core.specs.declared.tags.Tag.{Tag}
use Rattle.lock_script.specs.Command.{Addresses, NamesCounter, NamesFree}
use Rattle.lock_script.specs.Sessions.{IsAt, IsThere, MayAct}
use Rattle.lock_script.specs.Meaning.{IsCommandOf, NamesActor, NamesBlocked, NamesBoth, NamesCount, NamesLone, NamesObject, NamesOwned, NamesQueue}
use Rattle.lock_script.specs.Objects.{name_given, tag_called}
use Rattle.lock_script.specs.Words.{number_in, strong_index}
use Rattle.lock_script.specs.declared.command.Command.{Command}
use Rattle.lock_script.specs.declared.command.Command.TheVariants.{Session, Try, Fast, Lock, Unlock, UnlockAll, Commit, Abort, Begin, SubCommit, SubAbort, Owned, Waiters, Queue, Blockers, Cancel, Count, Hash, Close}
use Rattle.lock_script.specs.declared.command.Command.TheVariants as command
use Rattle.lock_script.specs.declared.command.Target.{Target}
use Rattle.lock_script.specs.declared.objects.NamedObject.{NamedObject}
use Rattle.lock_script.specs.declared.sessions.OpenSessions.{OpenSessions}
use Rattle.arrayvec.specs.declared.array_string.ArrayString.{ArrayString}
use Rattle.lock_script.specs.declared.sessions.Opened.{Opened}
use Rattle.lock_script.specs.declared.sessions.Place.{Place}
use Rattle.lock_script.specs.declared.sessions.Place.TheVariants.{Resting, Waiting}
use Rattle.lock_script.specs.declared.sessions.Caller.{Caller}

-- the index of a strong lock counter is below their number
index-below : (number : Option ℕ) (index : ℕ) → strong_index number ≡ Some index → index < 1024
index-below None index e = let never : ⊥ = cc in absurd never
index-below (Some n) index e = go (nat_lt n 1024) refl e where
  go : (b : Bool) → nat_lt n 1024 ≡ b → (if b then Some n else None) ≡ Some index → index < 1024
  go true below is =
      let same : n ≡ index = cc in
      let lower : n < 1024 = grind (arith, nat_tests) in
      omega arith
  go false above is = let never : ⊥ = cc in absurd never

object-free : (objects : List NamedObject) (words : List (List ℕ)) (name : ArrayString 63) (tag : Tag) → NamesObject objects words name tag → (tag_called objects name.bytes ≡ None) × (name_given objects tag ≡ None)
object-free objects [] name tag h = absurd h
object-free objects (word ∷ []) name tag h = absurd h
object-free objects (word ∷ object ∷ []) name tag h = (subst (λ (w : List ℕ). tag_called objects w ≡ None) (sym h.0) h.2, h.4)
object-free objects (word ∷ object ∷ more ∷ words) name tag h = absurd h

module _ {S W : Type 0} where
  -- who may act, and who is there
  actor-may_act : (sessions : OpenSessions S W) (words : List (List ℕ)) (caller : Caller) → NamesActor sessions words caller → MayAct sessions caller.place
  actor-may_act sessions [] caller h = absurd h
  actor-may_act sessions (name ∷ []) caller h = h.1.0
  actor-may_act sessions (name ∷ other ∷ words) caller h = absurd h

  lone-may_act : (sessions : OpenSessions S W) (objects : List NamedObject) (words : List (List ℕ)) (target : Target) → NamesLone sessions objects words target → MayAct sessions target.caller.place
  lone-may_act sessions objects [] target h = absurd h
  lone-may_act sessions objects (name ∷ []) target h = absurd h
  lone-may_act sessions objects (name ∷ tag ∷ []) target h = absurd h
  lone-may_act sessions objects (name ∷ tag ∷ mode ∷ []) target h = h.0.1.0
  lone-may_act sessions objects (name ∷ tag ∷ mode ∷ other ∷ words) target h = absurd h

  owned-may_act : (sessions : OpenSessions S W) (objects : List NamedObject) (words : List (List ℕ)) (target : Target) (owner : Owner) → NamesOwned sessions objects words target owner → MayAct sessions target.caller.place
  owned-may_act sessions objects [] target owner h = absurd h
  owned-may_act sessions objects (name ∷ []) target owner h = absurd h
  owned-may_act sessions objects (name ∷ tag ∷ []) target owner h = absurd h
  owned-may_act sessions objects (name ∷ tag ∷ mode ∷ []) target owner h = h.0.0.1.0
  owned-may_act sessions objects (name ∷ tag ∷ mode ∷ word ∷ []) target owner h = h.0.0.1.0
  owned-may_act sessions objects (name ∷ tag ∷ mode ∷ word ∷ other ∷ words) target owner h = absurd h

  is_there : (sessions : OpenSessions S W) (name : List ℕ) (place : Place) → IsAt sessions name place → IsThere sessions place
  is_there sessions name (Resting place) h = h.0
  is_there sessions name (Waiting place) h = h.1.0

  both-there : (sessions : OpenSessions S W) (words : List (List ℕ)) (by : Caller) (other : Opened) → NamesBoth sessions words by other → MayAct sessions by.place × IsThere sessions other.place
  both-there sessions [] by other h = absurd h
  both-there sessions (name ∷ []) by other h = absurd h
  both-there sessions (name ∷ word ∷ []) by other h = (h.0.1.0, is_there sessions word other.place h.1.1)
  both-there sessions (name ∷ word ∷ more ∷ words) by other h = absurd h

  queue-may_act : (sessions : OpenSessions S W) (objects : List NamedObject) (words : List (List ℕ)) (caller : Caller) (tag : Tag) → NamesQueue sessions objects words caller tag → MayAct sessions caller.place
  queue-may_act sessions objects [] caller tag h = absurd h
  queue-may_act sessions objects (name ∷ []) caller tag h = absurd h
  queue-may_act sessions objects (name ∷ word ∷ []) caller tag h = h.0.1.0
  queue-may_act sessions objects (name ∷ word ∷ more ∷ words) caller tag h = absurd h

  blocked-there : (sessions : OpenSessions S W) (objects : List NamedObject) (words : List (List ℕ)) (by : Caller) (other : Opened) (tag : Tag) → NamesBlocked sessions objects words by other tag → MayAct sessions by.place × IsThere sessions other.place
  blocked-there sessions objects [] by other tag h = absurd h
  blocked-there sessions objects (name ∷ []) by other tag h = absurd h
  blocked-there sessions objects (name ∷ word ∷ []) by other tag h = absurd h
  blocked-there sessions objects (name ∷ word ∷ object ∷ []) by other tag h = (h.0.1.0, is_there sessions word other.place h.1.1)
  blocked-there sessions objects (name ∷ word ∷ object ∷ more ∷ words) by other tag h = absurd h

  count-below : (sessions : OpenSessions S W) (words : List (List ℕ)) (caller : Caller) (index : ℕ) → NamesCount sessions words caller index → MayAct sessions caller.place × (index < 1024)
  count-below sessions [] caller index h = absurd h
  count-below sessions (name ∷ []) caller index h = absurd h
  count-below sessions (name ∷ number ∷ []) caller index h = (h.0.1.0, index-below (number_in number) index h.1)
  count-below sessions (name ∷ number ∷ more ∷ words) caller index h = absurd h

  -- a command of these words addresses who it may
  pub command-Addresses : (sessions : OpenSessions S W) (objects : List NamedObject) (verb : List ℕ) (words : List (List ℕ)) (its : Command) → IsCommandOf sessions objects verb words its → Addresses sessions its
  command-Addresses sessions objects verb words (Session name database) h = tt
  command-Addresses sessions objects verb words (command.Name name tag) h = tt
  command-Addresses sessions objects verb words (Try target owner) h = owned-may_act sessions objects words target owner h.1
  command-Addresses sessions objects verb words (Fast target owner) h = owned-may_act sessions objects words target owner h.1
  command-Addresses sessions objects verb words (Lock target owner) h = owned-may_act sessions objects words target owner h.1
  command-Addresses sessions objects verb words (Unlock target owner) h = owned-may_act sessions objects words target owner h.1
  command-Addresses sessions objects verb words (UnlockAll caller) h = actor-may_act sessions words caller h.1
  command-Addresses sessions objects verb words (Commit caller) h = actor-may_act sessions words caller h.1
  command-Addresses sessions objects verb words (Abort caller) h = actor-may_act sessions words caller h.1
  command-Addresses sessions objects verb words (Begin caller) h = actor-may_act sessions words caller h.1
  command-Addresses sessions objects verb words (SubCommit caller) h = actor-may_act sessions words caller h.1
  command-Addresses sessions objects verb words (SubAbort caller) h = actor-may_act sessions words caller h.1
  command-Addresses sessions objects verb words (Owned target) h = lone-may_act sessions objects words target h.1
  command-Addresses sessions objects verb words (Waiters target) h = lone-may_act sessions objects words target h.1
  command-Addresses sessions objects verb words (Queue caller tag) h = queue-may_act sessions objects words caller tag h.1
  command-Addresses sessions objects verb words (Blockers by other tag) h = blocked-there sessions objects words by other tag h.1
  command-Addresses sessions objects verb words (Cancel by other) h = both-there sessions words by other h.1
  command-Addresses sessions objects verb words (command.List caller) h = actor-may_act sessions words caller h.1
  command-Addresses sessions objects verb words (Count caller index) h = (count-below sessions words caller index h.1).0
  command-Addresses sessions objects verb words (Hash tag) h = tt
  command-Addresses sessions objects verb words (Close caller) h = actor-may_act sessions words caller h.1

  -- and names a counter that there is
  pub command-NamesCounter : (sessions : OpenSessions S W) (objects : List NamedObject) (verb : List ℕ) (words : List (List ℕ)) (its : Command) → IsCommandOf sessions objects verb words its → NamesCounter its
  command-NamesCounter sessions objects verb words (Count caller index) h = (count-below sessions words caller index h.1).1
  command-NamesCounter sessions objects verb words its h = tt

  -- and gives no name that is given, and to no object that has one
  pub command-NamesFree : (sessions : OpenSessions S W) (objects : List NamedObject) (verb : List ℕ) (words : List (List ℕ)) (its : Command) → IsCommandOf sessions objects verb words its → NamesFree objects its
  command-NamesFree sessions objects verb words (command.Name name tag) h = object-free objects words name tag h.1
  command-NamesFree sessions objects verb words its h = tt
