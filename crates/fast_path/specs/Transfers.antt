use Rattle.std.specs.Prelude.{◌≡◌, ◌≢◌, ◌⊎◌, ℕ, ◌<◌, nat_lt, zero, suc, ◌==◌, ◌&&◌, ◌||◌, true}
use Rattle.std.specs.Prelude.{List, [], ◌∷◌, ◌++◌, Result, Ok, Err}
use Rattle.modes_core.specs.declared.modes.Mode.{Mode}
use Rattle.modes_core.specs.declared.tags.Tag.{Tag}
use Rattle.modes_core.specs.Mode.{number_of}
use Rattle.modes_core.specs.Tag.{tag_eq, database_of, partition_of}
use Rattle.lw_word.specs.SlotWord.{has_mode}
use Rattle.lock_table.specs.declared.no_memory.NoMemory.{NoMemory}
use Rattle.lock_table.specs.Content.{Content}
use Rattle.lock_world.specs.declared.events.Word.TheVariants.{Database}
use Rattle.lock_world.specs.SlotHolds.{slot_count, relation_of, is_slot_of, ShowsNoMore}
use Rattle.lock_world.specs.Counted.{Counted, passing}
use Rattle.lock_world.specs.World.{TraceEntry, Took, Episode, Loaded}
use Rattle.lock_world.specs.Account.{Account}
use Rattle.fast_path.specs.Slots.{IsOfGroup, group_of_tag, group_loads, NoneInGroup}

-- The transfer of fast-path locks into the lock table, as the trace of the session that makes it has it.

-- the content with the owner's modes of a slot's word as holds on the object, those with numbers below this
-- one
abbrev pub adopting : Content → ℕ → Tag → ℕ → ℕ → Content
adopting content owner tag word below = record {
  holds = λ session object mode.
      content.holds session object mode
      || (session == owner) && (tag_eq object tag && (has_mode word mode && nat_lt (number_of mode) below));
  waits = content.waits;
}

-- the loads by which a session finds out what another one's slots show of the object, in the tag's database
abbrev pub finding : ℕ → ℕ → Tag → (ℕ → ℕ) → List TraceEntry
finding groups owner tag word =
    Loaded (Database owner) (database_of tag) ∷ group_loads owner (group_of_tag groups tag) word

-- A turn that goes past a session of another database, whose slots aren't looked at.
pub record SkipsSession (owner : ℕ) (tag : Tag) (steps : List TraceEntry) : Type 0 where
  pub shown : ℕ
  pub elsewhere : shown ≢ database_of tag
  pub loads : steps ≡ Loaded (Database owner) shown ∷ []

-- A turn that goes past a session that has no slot of the relation, in the relation's group.
pub record FindsNothing (groups owner : ℕ) (tag : Tag) (steps : List TraceEntry) : Type 0 where
  pub word : ℕ → ℕ
  pub none : NoneInGroup (group_of_tag groups tag) word (relation_of tag)
  pub loads : steps ≡ finding groups owner tag word

-- A turn in which the modes of the slot that the relation has, which shows this word, become holds in the
-- table by one episode, as far as their numbers are below this one.
pub record Adopts (groups owner : ℕ) (tag : Tag) (shown below : ℕ) (steps : List TraceEntry) : Type 0 where
  pub word : ℕ → ℕ
  pub slot : ℕ
  pub within : slot < slot_count
  pub its_group : IsOfGroup (group_of_tag groups tag) slot
  pub is_shown : shown ≡ word slot
  pub its : is_slot_of shown (relation_of tag) ≡ true
  pub taken : Content
  pub joined :
      steps ≡ finding groups owner tag word ++ Took (partition_of tag) taken
      ∷ Episode (partition_of tag) taken (adopting taken owner tag shown below) ∷ []

-- A session's turn: all modes of its slot of the relation are in the table then, if it has one.
abbrev pub IsTurn : ℕ → ℕ → Tag → List TraceEntry → Type 0
IsTurn groups owner tag steps =
    SkipsSession owner tag steps
    ⊎ (FindsNothing groups owner tag steps ⊎ ((shown : ℕ) × Adopts groups owner tag shown 4 steps))

-- A turn that is cut short: there was no memory for this mode of the slot.
pub record StopsTurn (groups owner : ℕ) (tag : Tag) (steps : List TraceEntry) : Type 0 where
  pub shown : ℕ
  pub refused : Mode
  pub in_slot : has_mode shown refused ≡ true
  pub adopts : Adopts groups owner tag shown (number_of refused) steps

-- The turns of the sessions with numbers below this one, in rising order.
abbrev pub AreTurns : ℕ → ℕ → Tag → List TraceEntry → Type 0
AreTurns groups zero tag steps = steps ≡ []
AreTurns groups (suc owner) tag steps =
    (before : List TraceEntry) × (turn : List TraceEntry) × AreTurns groups owner tag before × IsTurn groups owner tag turn
    × (steps ≡ before ++ turn)

-- The turns of some sessions, in rising order, the last of which is cut short.
pub record CutsShort (groups limit : ℕ) (tag : Tag) (steps : List TraceEntry) : Type 0 where
  pub owner : ℕ
  pub exists : owner < limit
  pub before : List TraceEntry
  pub turn : List TraceEntry
  pub turns : AreTurns groups owner tag before
  pub stops : StopsTurn groups owner tag turn
  pub joined : steps ≡ before ++ turn

-- What of the account is another than before: what is counted, what it remembers of its own slots, which is
-- no more than before, and the trace.
pub record IsAfterScan (a : Account) (counted : List Counted) (steps : List TraceEntry) (b : Account) : Type 0 where
  pub no_more : ShowsNoMore b.fast.remembered a.fast.remembered
  pub account : b ≡ record a {
    fast = record (a.fast) { remembered = b.fast.remembered; counted = counted };
    trace = a.trace ++ steps;
  }

-- The strong lock is counted, and past every session.
pub record Transfers (groups limit : ℕ) (a : Account) (tag : Tag) (mode : Mode) (b : Account) : Type 0 where
  pub steps : List TraceEntry
  pub turns : AreTurns groups limit tag steps
  pub after : IsAfterScan a (a.fast.counted ++ record { tag = tag; mode = mode; position = limit } ∷ []) steps b

-- Memory ran out: the strong lock is counted no more. What was moved until then stays moved.
pub record IsCutShort (groups limit : ℕ) (a : Account) (tag : Tag) (b : Account) : Type 0 where
  pub steps : List TraceEntry
  pub cut : CutsShort groups limit tag steps
  pub after : IsAfterScan a a.fast.counted steps b

-- What a transfer comes to by its result: the strong lock is past every session, or the transfer was cut
-- short.
abbrev pub TransfersOrNot : ℕ → ℕ → Account → Tag → Mode → Result (Unit {0}) NoMemory → Account → Type 0
TransfersOrNot groups limit a tag mode (Ok done) b = Transfers groups limit a tag mode b
TransfersOrNot groups limit a tag mode (Err refusal) b = IsCutShort groups limit a tag b

-- One turn of a transfer: the strong lock is past this session too.
pub record Passes (groups : ℕ) (a : Account) (owner : ℕ) (tag : Tag) (mode : Mode) (b : Account) : Type 0 where
  pub steps : List TraceEntry
  pub turn : IsTurn groups owner tag steps
  pub after : IsAfterScan a (passing a.fast.counted tag mode owner) steps b

-- Memory ran out in the turn of this session. What was moved until then stays moved.
pub record StopsAt (groups : ℕ) (a : Account) (owner : ℕ) (tag : Tag) (b : Account) : Type 0 where
  pub steps : List TraceEntry
  pub turn : StopsTurn groups owner tag steps
  pub after : IsAfterScan a a.fast.counted steps b

-- What a turn of a transfer comes to by its result: the strong lock is past the session, or the turn stopped.
abbrev pub PassesOrNot : ℕ → Account → ℕ → Tag → Mode → Result (Unit {0}) NoMemory → Account → Type 0
PassesOrNot groups a owner tag mode (Ok done) b = Passes groups a owner tag mode b
PassesOrNot groups a owner tag mode (Err refusal) b = StopsAt groups a owner tag b
