use Rattle.std.specs.Prelude.{◌≡◌, ℕ, ◌+◌, ◌*◌, ◌<◌, ◌≤◌, List, [], ◌∷◌, ◌++◌, length, count_by, sum, sum_by, Some, Result, OnOk, IfOk}
use Rattle.lock_table.specs.declared.no_memory.NoMemory.{NoMemory}
use Rattle.lock_table.specs.declared.rows.TableRow.{TableRow}
use Rattle.lock_table.specs.Content.{Content}
use Rattle.lock_table.specs.Listing.{row_eq, HasEachRow}
use Rattle.lock_table.specs.Total.{total}
use Rattle.lock_table.specs.WholeContent.{whole_of, content_at, times_had, AreOfPartitions}
use Rattle.lock_world.specs.declared.events.Word.TheVariants.{Slot, Strong}
use Rattle.lock_world.specs.Account.{Account, InHand}
use Rattle.lock_world.specs.SlotHolds.{group_size}
use Rattle.lock_world.specs.Tallies.{joined, shown_in_slots, modes_shown, AreSoMany, OwnStand, ShowsLeft}
use Rattle.lock_world.specs.World.{TraceEntry, Took, Episode, Loaded}
use Rattle.shared_rule.specs.declared.audits.Audit.{Audit}
use Rattle.shared_rule.specs.declared.history.View.{View}
use Rattle.shared_rule.specs.declared.history.History.{History}
use Rattle.shared_rule.specs.History.{told, first_account, first_number}
use Rattle.shared_rule.specs.Openers.{OpenerState}
use Rattle.shared_rule.specs.Quiet.{first_quiet, quiet_told}
use Rattle.shared_rule.specs.Seats.{behind_of}
use Rattle.shared_rule.specs.Plays.{HasSession}
use Rattle.shared_rule.specs.Owed.{first_owed}
use Rattle.shared_rule.specs.Todos.{first_todo, nothing_to_do}
use Rattle.shared_rule.specs.Gatherings.{most_shown, Gathered, counted_at, account_among, AreDistinct, NoneWaits, HasAllInHand, AreAll, gathered_in}

-- What an audit does and finds.

-- the account after steps that only join the trace
abbrev pub account_after : Account → List TraceEntry → Account
account_after a steps = record a { trace = a.trace ++ steps }

-- the loads of all strong lock counters, which show this
abbrev pub counter_loads : ℕ → (ℕ → ℕ) → List TraceEntry
counter_loads count shown = joined count (λ index. Loaded (Strong index) (shown index) ∷ [])

-- the loads of a session's slots, of as many as `count` says from the first one on, which show these words
abbrev pub slot_loads_of : ℕ → ℕ → (ℕ → ℕ) → List TraceEntry
slot_loads_of owner count word = joined count (λ slot. Loaded (Slot owner slot) (word slot) ∷ [])

-- the loads of all slots of all sessions below the limit, each with this number of groups of slots, which
-- show these words
abbrev pub all_slot_loads : ℕ → ℕ → (ℕ → ℕ → ℕ) → List TraceEntry
all_slot_loads limit groups word = joined limit (λ owner. slot_loads_of owner (group_size * groups) (word owner))

-- the steps of taking the partitions from this one on, in rising order, and of putting them back as they
-- were, in the opposite order, with these steps between
abbrev pub holding_steps : ℕ → List Content → List TraceEntry → List TraceEntry
holding_steps partition [] inner = inner
holding_steps partition (content ∷ contents) inner =
    Took partition content ∷ holding_steps (partition + 1) contents inner ++ Episode partition content content ∷ []

-- the steps of an audit: all counters are loaded, and then, with all partitions in hand, all slots
abbrev pub audit_steps : ℕ → ℕ → (ℕ → ℕ) → (ℕ → ℕ → ℕ) → List Content → List TraceEntry
audit_steps limit groups counters word contents = counter_loads 1024 counters ++ holding_steps 0 contents (all_slot_loads limit groups word)

-- How the view of a seat changes by steps of its first session.
module _ {T : Type 0} where
  -- The later view is that of the same seat after steps of its first session, none of which is quiet.
  pub record IsFurther (before after : View T) : Type 0 where
    pub next : after.next ≡ before.next
    pub closed : after.closed ≡ before.closed
    pub behind : behind_of after.sessions ≡ behind_of before.sessions
    pub number : first_number after.sessions ≡ first_number before.sessions
    pub quiet : first_quiet after.sessions ≡ first_quiet before.sessions
    pub some : HasSession after
    -- a session that had nothing to do for those who wait has nothing to do still
    pub free : first_todo before.sessions ≡ nothing_to_do → first_todo after.sessions ≡ nothing_to_do
    -- and whom it has to wake it has to wake still
    pub owed : first_owed after.sessions ≡ first_owed before.sessions

-- The session has this partition in hand, with this content.
abbrev pub HasPartInHand : Account → ℕ → Content → Type 0
HasPartInHand a partition content = (mine : InHand) × (a.hand partition ≡ Some mine) × (mine.now ≡ content)

module _ {T : Type 0} (content : T → Content) where
  -- The first `count` counters were loaded, and show what those gathered have counted.
  pub record CountersSeen (count : ℕ) (before after : View T) (sum : ℕ) : Type 0 where
    pub further : IsFurther before after
    pub account :
        first_account content after.sessions
        ≡ account_after (first_account content before.sessions)
        (counter_loads count (λ index. counted_at index (gathered_in content before.sessions)))
    pub sum_ : sum ≡ total count (λ index. counted_at index (gathered_in content before.sessions))
    pub few : sum ≤ most_shown * count

  -- The words of the first `count` slots of a session were loaded, and show, with all partitions in hand,
  -- what is left to them.
  pub record SeesSlots (owner count : ℕ) (before after : View T) (sum : ℕ) : Type 0 where
    pub word : ℕ → ℕ
    pub further : IsFurther before after
    pub account :
        first_account content after.sessions
        ≡ account_after (first_account content before.sessions) (slot_loads_of owner count word)
    pub sum_ : sum ≡ total count (λ slot. modes_shown (word slot))
    pub left :
        (issued : ℕ) → AreAll issued before → (contents : ℕ → Content) → HasAllInHand (first_account content before.sessions) contents
        → (slot : ℕ) → slot < count
        → ShowsLeft owner (account_among (gathered_in content before.sessions) owner) contents slot (word slot)

  -- The words of all slots of the sessions below a number were loaded, and show, with all partitions in hand,
  -- what is left to them.
  pub record SeesAllSlots (groups limit : ℕ) (before after : View T) (sum : ℕ) : Type 0 where
    pub word : ℕ → ℕ → ℕ
    pub further : IsFurther before after
    pub account :
        first_account content after.sessions
        ≡ account_after (first_account content before.sessions) (all_slot_loads limit groups word)
    pub sum_ : sum ≡ shown_in_slots limit groups word
    pub left :
        (issued : ℕ) → AreAll issued before → (contents : ℕ → Content) → HasAllInHand (first_account content before.sessions) contents
        → (owner slot : ℕ) → owner < limit → slot < group_size * groups
        → ShowsLeft owner (account_among (gathered_in content before.sessions) owner) contents slot (word owner slot)

  -- What was found of all, as the partitions have these contents.
  pub record Finds (groups issued limit : ℕ) (view : View T) (contents : ℕ → Content) (word : ℕ → ℕ → ℕ) : Type 0 where
    pub distinct : AreDistinct issued (gathered_in content view.sessions)
    pub stand :
        NoneWaits (gathered_in content view.sessions) → (number : ℕ)
        → OwnStand groups number (account_among (gathered_in content view.sessions) number) contents
    pub left :
        (owner slot : ℕ) → owner < limit → slot < group_size * groups
        → ShowsLeft owner (account_among (gathered_in content view.sessions) owner) contents slot (word owner slot)

  -- The partitions from one on were taken and put back, and all slots were loaded with all in hand.
  pub record CountsFrom (groups partition limit : ℕ) (before : View T) (old : List TableRow)
      (result : Result (Unit {0}) NoMemory) (fast : ℕ) (after : View T) (new : List TableRow) : Type 0 where
    pub contents : List Content
    pub last : partition + length contents ≡ 16
    pub of_partitions : AreOfPartitions partition contents
    pub word : ℕ → ℕ → ℕ
    pub further : IsFurther before after
    pub account :
        first_account content after.sessions
        ≡ account_after (first_account content before.sessions) (holding_steps partition contents (all_slot_loads limit groups word))
    pub fast_ : fast ≡ shown_in_slots limit groups word
    pub rows : OnOk result ((row : TableRow) → count_by (row_eq row) new ≡ count_by (row_eq row) old + times_had contents row)
    pub finds :
        (issued : ℕ) → AreAll issued before → (all : ℕ → Content)
        → ((p : ℕ) → p < partition → HasPartInHand (first_account content before.sessions) p (all p))
        → ((k : ℕ) → k < length contents → all (partition + k) ≡ content_at contents k)
        → Finds groups issued limit before all word

-- Each of the gathered sessions owns as many modes as the list says.
abbrev pub OwnSoMany : List Gathered → List ℕ → Type 0
OwnSoMany [] [] = Unit {0}
OwnSoMany [] (many ∷ others) = ⊥
OwnSoMany (one ∷ rest) [] = ⊥
OwnSoMany (one ∷ rest) (many ∷ others) = AreSoMany one.account.own many × OwnSoMany rest others

-- What was counted: the modes in what the slot loads show, the granted rows of the contents taken together,
-- and what the counter loads show.
pub record CountsTo (limit groups : ℕ) (counters : ℕ → ℕ) (word : ℕ → ℕ → ℕ) (contents : List Content) (audit : Audit) : Type 0 where
  pub fast : audit.fast ≡ shown_in_slots limit groups word
  pub rows : List TableRow
  pub each_once : HasEachRow (whole_of (content_at contents)) rows
  pub table : audit.table ≡ count_by (λ (row : TableRow). row.granted) rows
  pub strong : audit.strong ≡ total 1024 counters

-- An audit of those gathered, by the trace of the first. Where memory runs out for the rows it counts
-- nothing, and has made the same steps.
pub record Counts {E : Type 0} (limit groups : ℕ) (before : List TraceEntry) (result : Result Audit E)
    (after : List TraceEntry) : Type 0 where
  pub counters : ℕ → ℕ
  pub word : ℕ → ℕ → ℕ
  pub contents : List Content
  pub sixteen : length contents ≡ 16
  pub trace : after ≡ before ++ audit_steps limit groups counters word contents
  pub counted : IfOk result (CountsTo limit groups counters word contents)

-- What was counted adds up: modes in slots and rows to what those gathered own, however that is listed, and
-- counters to what they have counted.
pub record AddsUp (gathered : List Gathered) (audit : Audit) : Type 0 where
  pub held : (many : List ℕ) → OwnSoMany gathered many → audit.fast + audit.table ≡ sum many
  pub strong : audit.strong ≡ sum_by (λ one. length one.account.fast.counted) gathered

-- The opener's seat counts what stands, with all sessions gathered there: the first one makes the steps, none
-- of which is quiet, and all else is as before.
pub record CountsAll {T : Type 0} (content : T → Content) (old new : OpenerState T) (result : Result Audit NoMemory) : Type 0 where
  pub counts : Counts old.limit old.groups (first_account content old.gathered).trace result (first_account content new.gathered).trace
  pub adds_up : IfOk result (AddsUp (gathered_in content old.gathered))
  pub opener : new ≡ record old { gathered = new.gathered }
  pub first : History T
  pub gathered : new.gathered ≡ first ∷ behind_of old.gathered
  pub number : first.number ≡ first_number old.gathered
  pub quiet : quiet_told first.marks ≡ first_quiet old.gathered
  pub account :
      told content first.number first.marks
      ≡ record (first_account content old.gathered) { trace = (first_account content new.gathered).trace }
