use Rattle.std.specs.Prelude.{◌≡◌, ℕ, ◌+◌, ◌<◌, List, Option, is_some, count_by}
use Rattle.modes_core.specs.declared.modes.Mode.{Mode}
use Rattle.lock_table.specs.Content.{Content}
use Rattle.lock_table.specs.Capacity.{Capacity}
use Rattle.lock_table.specs.declared.request.Request.{Request}
use Rattle.lock_records.specs.Holders.{holds_in}
use Rattle.lock_records.specs.Queues.{queue_on, waiting_in}
use Rattle.lock_records.specs.declared.locks.LockRecord.{LockRecord}
use Rattle.lock_records.specs.declared.holders.HolderRecord.{HolderRecord}
use Rattle.lock_records.specs.declared.wait_queues.QueueRecord.{QueueRecord}

-- what contracts see of a `RecordPart` and of its records: its lock records with the place of the next one,
-- its holder records, its queue records, whom the last wakeup granted, the request that is begun, the one
-- that room was made for last, for how many waits there is room in the queue that the next new queue record
-- takes, and for how many entries there is room
pub record RecordView : Type 0 where
  pub locks : List (Option LockRecord)
  pub next_lock : ℕ
  pub holders : List (Option HolderRecord)
  pub queues : List (Option QueueRecord)
  pub woken : List (ℕ × Mode)
  pub begun : Option Request
  pub prepared : Option Request
  pub spare : ℕ
  pub capacity : Capacity

-- the content that the part stands for
abbrev pub content_of : RecordView → Content
content_of part = record { holds = holds_in part.holders; waits = queue_on part.queues }

-- A part with records grows only where it is full: of its records, where there are as many as there is room
-- for, with one holder record for each wait, of its list of those woken, where each who waits has a name in
-- it, and of its index, where the next lock record's place can't be noted.
pub record GrowsWhereFull (old new : RecordView) : Type 0 where
  pub locks : count_by is_some old.locks < old.capacity.locks → new.capacity.locks ≡ old.capacity.locks
  pub holders : count_by is_some old.holders + waiting_in old.queues < old.capacity.holders → new.capacity.holders ≡ old.capacity.holders
  pub queues : count_by is_some old.queues < old.capacity.queues → new.capacity.queues ≡ old.capacity.queues
  pub spare : 0 < old.spare → new.spare ≡ old.spare
  pub woken : waiting_in old.queues < old.capacity.woken → new.capacity.woken ≡ old.capacity.woken
  pub places : old.next_lock < old.capacity.places → new.capacity.places ≡ old.capacity.places
