use Rattle.std.specs.Prelude.{ℕ, ◌<◌, List, length}
use Rattle.lock_script.specs.declared.sessions.OpenSessions.{OpenSessions}
use Rattle.lock_script.specs.declared.sessions.Place.{Place}
use Rattle.lock_script.specs.declared.sessions.Place.TheVariants.{Resting, Waiting}
use Rattle.lock_script.specs.Names.{IsCalled, IsFree}

-- Where open sessions stand.

-- The open session of this name stands there. Who waits is looked for only where nobody else has the name.
abbrev pub IsAt : {S W : Type 0} → OpenSessions S W → List ℕ → Place → Type 0
IsAt sessions name (Resting place) = IsCalled sessions.resting name place
IsAt sessions name (Waiting place) = IsFree sessions.resting name × IsCalled sessions.waiting name place

-- no open session has the name
abbrev pub IsUnknown : {S W : Type 0} → OpenSessions S W → List ℕ → Type 0
IsUnknown sessions name = IsFree sessions.resting name × IsFree sessions.waiting name

-- a session that doesn't wait stands there
abbrev pub MayAct : {S W : Type 0} → OpenSessions S W → ℕ → Type 0
MayAct sessions place = place < length sessions.resting

-- an open session stands there
abbrev pub IsThere : {S W : Type 0} → OpenSessions S W → Place → Type 0
IsThere sessions (Resting place) = place < length sessions.resting
IsThere sessions (Waiting place) = place < length sessions.waiting
