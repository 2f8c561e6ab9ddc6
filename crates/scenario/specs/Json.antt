use Rattle.std.specs.Prelude.{ℕ, List, [], ◌∷◌, ◌++◌, Option, Some, None, codes, map}
use Rattle.arrayvec.specs.declared.array_string.ArrayString.{ArrayString}
use Rattle.lock_script.specs.declared.names.Names.{Names}
use Rattle.lock_script.specs.Objects.{name_given}
use Rattle.serde_json.specs.View.{items_of}
use Rattle.serde_json.specs.Data.{Data, array, boolean, number, unsigned, string, object, Members, no_members, put}
use Rattle.modes_core.specs.Mode.{name_of}
use Rattle.modes_core.specs.Refusal.{refusal_number}
use Rattle.modes_core.specs.Tag.{hash_of, partition_of, index_of}
use Rattle.modes_core.specs.TagText.{tag_text}
use Rattle.modes_core.specs.declared.refusals.Refusal.{Refusal}
use Rattle.modes_core.specs.declared.refusals.Refusal.TheVariants.{Conflict, SimpleDeadlock}
use Rattle.wait_queue.specs.declared.queues.Blocker.{Blocker}
use Rattle.scenario.specs.Texts.{how_text, name_in, plain_text, refusal_text}
use Rattle.scenario.specs.declared.answers.Row.{Row}
use Rattle.scenario.specs.declared.answers.Row.TheVariants as row
use Rattle.scenario.specs.declared.answers.Said.{Said}
use Rattle.scenario.specs.declared.answers.Said.TheVariants as said

-- What is printed of an answer as JSON: an object for each line of text.

abbrev pub count : ℕ → Data
count n = number (unsigned n)

-- the members with these keys
abbrev pub members : List (List ℕ × Data) → Members
members [] = no_members
members ((key, value) ∷ fields) = put key value (members fields)

-- an object that answers this line of the script
abbrev pub line_object : ℕ → List (List ℕ × Data) → Data
line_object line fields = object (members ((codes "line", count line) ∷ fields))

-- a line of the script
abbrev pub line_data : ℕ → List ℕ → Data
line_data line text = line_object line ((codes "echo", string text) ∷ [])

-- a picture of who waits for whom, in the language `drawing`
abbrev pub picture_data : ℕ → List ℕ → List ℕ → Data
picture_data line drawing text = line_object line ((codes "graph", string drawing) ∷ (codes "text", string text) ∷ [])

-- what a session is told
abbrev pub told_data : ℕ → ArrayString 16 → List ℕ → List (List ℕ × Data) → Data
told_data line name answer fields = line_object line ((codes "session", string name.bytes) ∷ (codes "answer", string answer) ∷ fields)

-- a refusal with this number and text
abbrev pub refused_with : ℕ → ArrayString 16 → ℕ → List ℕ → List (List ℕ × Data) → Data
refused_with line name number_ text fields =
    told_data line name (codes "refused") ((codes "number", count number_) ∷ (codes "refusal", string text) ∷ fields)

-- whom, and what, a refusal names
abbrev pub refused_fields : Names → Refusal → List (List ℕ × Data)
refused_fields names (Conflict session mode how) =
    (codes "other", string (name_in names session)) ∷ (codes "mode", string (name_of mode)) ∷ (codes "how", string (how_text how)) ∷ []
refused_fields names (SimpleDeadlock session) = (codes "other", string (name_in names session)) ∷ []
refused_fields names _ = []

-- the refusal of a session's call
abbrev pub refused_data : ℕ → Names → ArrayString 16 → Refusal → Data
refused_data line names name refusal =
    refused_with line name (refusal_number refusal) (refusal_text refusal) (refused_fields names refusal)

-- the session doesn't own the lock, in the mode of this name, that it gives back
abbrev pub not_owned_data : ℕ → ArrayString 16 → List ℕ → Data
not_owned_data line name mode = told_data line name (codes "not owned") ((codes "mode", string mode) ∷ [])

-- all advisory locks of the session were released, this number of holds
abbrev pub unlocked_all_data : ℕ → ArrayString 16 → ℕ → Data
unlocked_all_data line name released = told_data line name (codes "released all") ((codes "released", count released) ∷ [])

-- what a session is told
abbrev pub said_data : ℕ → Names → ArrayString 16 → Said → Data
said_data line names name (said.Opened session database) =
    told_data line name (codes "opened") ((codes "number", count session) ∷ (codes "database", count database) ∷ [])
said_data line names name (said.Asked other) = told_data line name (codes "asked") ((codes "other", string other.bytes) ∷ [])
said_data line names name (said.UnlockedAll released) = unlocked_all_data line name released
said_data line names name (said.Level level) = told_data line name (codes "at a level") ((codes "level", count level) ∷ [])
said_data line names name (said.Owned of_transaction of_session) =
    told_data line name (codes "owned")
    ((codes "of_transaction", count of_transaction) ∷ (codes "of_session", count of_session) ∷ [])
said_data line names name (said.NotOwned mode) = not_owned_data line name (name_of mode)
said_data line names name (said.Refused refusal) = refused_data line names name refusal
said_data line names name plain = told_data line name (plain_text plain) []

-- one that is in the way of the session of this name
abbrev pub in_the_way_data : ℕ → Names → ArrayString 16 → Blocker → Data
in_the_way_data line names name it =
    line_object line
    ((codes "row", string (codes "blocker")) ∷ (codes "session", string name.bytes) ∷ (codes "waits_for", string (name_in names it.session))
    ∷ (codes "mode", string (name_of it.mode)) ∷ (codes "how", string (how_text it.how)) ∷ [])

-- the name of an object, where the script gave it one
abbrev pub name_fields : Option (ArrayString 63) → List (List ℕ × Data)
name_fields None = []
name_fields (Some name) = (codes "name", string name.bytes) ∷ []

-- a row, but for a wait in a queue, with the modes held at joining it, of which nothing is said
abbrev pub row_data : ℕ → Names → Row → Option Data
row_data line names (row.Slot it) =
    Some (line_object line
    ((codes "row", string (codes "fast")) ∷ (codes "session", string (name_in names it.session)) ∷ (codes "slot", count it.slot)
    ∷ (codes "tag", string (tag_text it.tag)) ∷ name_fields (name_given names.objects it.tag) ++ (codes "mode", string (name_of it.mode)) ∷ []))
row_data line names (row.Table it) =
    Some (line_object line
    ((codes "row", string (codes "table")) ∷ (codes "session", string (name_in names it.session)) ∷ (codes "tag", string (tag_text it.tag))
    ∷ name_fields (name_given names.objects it.tag) ++ (codes "mode", string (name_of it.mode)) ∷ (codes "granted", boolean it.granted) ∷ []))
row_data line names (row.Rows rows) = Some (line_object line ((codes "rows", count rows) ∷ []))
row_data line names (row.Wait it) = None
row_data line names (row.Waits waits) = Some (line_object line ((codes "waits", count waits) ∷ []))
row_data line names (row.InTheWay name it) = Some (in_the_way_data line names name it)
row_data line names (row.NotWaiting name) = Some (told_data line name (codes "isn't waiting") [])
row_data line names (row.Counter index shown) = Some (line_object line ((codes "strong", count index) ∷ (codes "value", count shown) ∷ []))
row_data line names (row.Hash tag) =
    Some (line_object line ((codes "hash", count (hash_of tag)) ∷ (codes "partition", count (partition_of tag)) ∷ (codes "strong", count (index_of tag)) ∷ []))
row_data line names (row.Named it) = Some (line_object line ((codes "name", string it.name.bytes) ∷ (codes "tag", string (tag_text it.tag)) ∷ []))

-- who is left waiting at the end of a script, and how many of its lines were not reached
abbrev pub left_data : List (ArrayString 16) → ℕ → Data
left_data waiting lines =
    object (members ((codes "left_waiting", array (items_of (map (λ name. string name.bytes) waiting))) ∷ (codes "not_reached", count lines) ∷ []))
