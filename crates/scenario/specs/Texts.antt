use Rattle.std.specs.Prelude.{ℕ, ◌==◌, if◌then◌else◌, Bool, List, [], ◌++◌, flat_map, true, false, codes, slice_get, Option, Some, None}
use Rattle.std.specs.Fmt.{decimal}
use Rattle.arrayvec.specs.declared.array_string.ArrayString.{ArrayString}
use Rattle.lock_script.specs.declared.names.Names.{Names}
use Rattle.lock_script.specs.Objects.{name_given}
use Rattle.modes_core.specs.declared.refusals.How.{How}
use Rattle.modes_core.specs.declared.refusals.How.TheVariants as how
use Rattle.modes_core.specs.declared.refusals.Refusal.{Refusal}
use Rattle.modes_core.specs.declared.refusals.Refusal.TheVariants.{Conflict, NoMemory, LocalFull, CountFull, SimpleDeadlock, Cancelled, NotHeld, Busy, SlotsFull, StrongCounted, NotEligible, NoMoreSessions, BadConfig, TooDeep, NoNested}
use Rattle.modes_core.specs.Mode.{name_of}
use Rattle.modes_core.specs.Refusal.{refusal_number}
use Rattle.local_locks.specs.declared.answers.Acquired.TheVariants as acquired
use Rattle.local_locks.specs.declared.answers.Unlocked.TheVariants as unlocked
use Rattle.modes_core.specs.declared.tags.Tag.{Tag}
use Rattle.modes_core.specs.Tag.{hash_of, partition_of, index_of}
use Rattle.modes_core.specs.TagText.{tag_text}
use Rattle.scenario.specs.declared.answers.Row.{Row}
use Rattle.scenario.specs.declared.answers.Row.TheVariants as row
use Rattle.scenario.specs.declared.answers.Said.{Said}
use Rattle.scenario.specs.declared.answers.Said.TheVariants as said

-- What is printed of an answer. A session is called by the name under which it was opened.

abbrev pub bytes_of : Option (ArrayString 16) → List ℕ
bytes_of None = []
bytes_of (Some name) = name.bytes

-- the name under which the session with this number was opened
abbrev pub name_in : Names → ℕ → List ℕ
name_in names number = bytes_of (slice_get names.sessions number)

-- what a session does with the mode that stands in the way
abbrev pub how_text : How → List ℕ
how_text how.Held = codes "held"
how_text how.Awaited = codes "awaited"

-- why a call was refused
abbrev pub refusal_text : Refusal → List ℕ
refusal_text (Conflict session mode how) = codes "conflict"
refusal_text NoMemory = codes "no memory"
refusal_text LocalFull = codes "local table full"
refusal_text CountFull = codes "count full"
refusal_text (SimpleDeadlock session) = codes "simple deadlock"
refusal_text Cancelled = codes "cancelled"
refusal_text NotHeld = codes "not held"
refusal_text Busy = codes "busy"
refusal_text SlotsFull = codes "slots full"
refusal_text StrongCounted = codes "strong lock counted"
refusal_text NotEligible = codes "not eligible"
refusal_text NoMoreSessions = codes "no more sessions"
refusal_text BadConfig = codes "bad config"
refusal_text TooDeep = codes "too deep"
refusal_text NoNested = codes "no nested transaction"

-- whom, and what, a refusal names
abbrev pub refused_of : Names → Refusal → List ℕ
refused_of names (Conflict session mode how) =
    codes " " ++ name_in names session ++ codes " " ++ name_of mode ++ codes " " ++ how_text how
refused_of names (SimpleDeadlock session) = codes " " ++ name_in names session
refused_of names _ = []

-- the text of a refusal, with its number and what it names
abbrev pub refused_text : Names → Refusal → List ℕ
refused_text names refusal =
    codes "refused " ++ decimal (refusal_number refusal) ++ codes " " ++ refusal_text refusal ++ refused_of names refusal

-- what a session is told in words alone
abbrev pub plain_text : Said → List ℕ
plain_text (said.Acquired acquired.Granted) = codes "granted"
plain_text (said.Acquired acquired.AlreadyHeld) = codes "already held"
plain_text said.Waits = codes "waits"
plain_text said.GrantedAfterWaiting = codes "granted after waiting"
plain_text said.Cancelled = codes "cancelled"
plain_text (said.Waiters true) = codes "waiters yes"
plain_text (said.Waiters false) = codes "waiters no"
plain_text (said.Unlocked unlocked.Released) = codes "released"
plain_text (said.Unlocked unlocked.StillHeld) = codes "still held"
plain_text said.Committed = codes "committed"
plain_text said.Aborted = codes "aborted"
plain_text said.Closed = codes "closed"
plain_text _ = []

-- what a session is told, behind its name
abbrev pub said_text : Names → Said → List ℕ
said_text names (said.Opened session database) = codes "session " ++ decimal session ++ codes " database " ++ decimal database
said_text names (said.Asked other) = codes "asked " ++ other.bytes
said_text names (said.UnlockedAll released) = codes "released " ++ decimal released
said_text names (said.Level level) = codes "level " ++ decimal level
said_text names (said.Owned of_transaction of_session) =
    codes "transaction " ++ decimal of_transaction ++ codes " session " ++ decimal of_session
said_text names (said.NotOwned mode) = codes "you don't own a lock of type " ++ name_of mode
said_text names (said.Refused refusal) = refused_text names refusal
said_text names plain = plain_text plain

-- the hash of an object, with its partition and its strong lock counter
abbrev pub hash_text : Tag → List ℕ
hash_text tag =
    codes "hash " ++ decimal (hash_of tag) ++ codes " partition " ++ decimal (partition_of tag) ++ codes " strong " ++ decimal (index_of tag)

-- whether the session of a row has the lock
abbrev pub standing_text : Bool → List ℕ
standing_text true = codes "granted"
standing_text false = codes "awaited"

-- a name, or else this text
abbrev pub named_or : Option (ArrayString 63) → List ℕ → List ℕ
named_or None text = text
named_or (Some name) text = name.bytes

-- an object: the name that the script gave it, or else its tag
abbrev pub object_text : Names → Tag → List ℕ
object_text names tag = named_or (name_given names.objects tag) (tag_text tag)

-- a row
abbrev pub row_text : Names → Row → List ℕ
row_text names (row.Slot it) =
    codes "fast " ++ name_in names it.session ++ codes " " ++ decimal it.slot ++ codes " " ++ object_text names it.tag ++ codes " " ++ name_of it.mode
row_text names (row.Table it) =
    codes "table " ++ name_in names it.session ++ codes " " ++ object_text names it.tag ++ codes " " ++ name_of it.mode ++ codes " "
    ++ standing_text it.granted
row_text names (row.Rows rows) = codes "rows " ++ decimal rows
row_text names (row.Wait it) = codes "queue " ++ name_in names it.session ++ codes " " ++ name_of it.mode
row_text names (row.Waits waits) = codes "waits " ++ decimal waits
row_text names (row.InTheWay name it) =
    name.bytes ++ codes " waits for " ++ name_in names it.session ++ codes " " ++ name_of it.mode ++ codes " " ++ how_text it.how
row_text names (row.NotWaiting name) = name.bytes ++ codes " isn't waiting"
row_text names (row.Counter index shown) = codes "strong " ++ decimal index ++ codes " " ++ decimal shown
row_text names (row.Hash tag) = hash_text tag
row_text names (row.Named it) = codes "name " ++ it.name.bytes ++ codes " " ++ tag_text it.tag

-- how many lines were not reached, where some were not
abbrev pub not_reached_text : ℕ → List ℕ
not_reached_text lines =
    if lines == 0 then []
    else if lines == 1 then codes "; not reached: 1 line"
    else (codes "; not reached: " ++ decimal lines) ++ codes " lines"

-- who is left waiting at the end of a script, and how many of its lines were not reached
abbrev pub left_text : ArrayString 16 → List (ArrayString 16) → ℕ → List ℕ
left_text first others lines =
    ((codes "left waiting: " ++ first.bytes) ++ flat_map (λ name. codes ", " ++ name.bytes) others) ++ not_reached_text lines
