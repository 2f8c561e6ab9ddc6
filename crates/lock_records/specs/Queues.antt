use Rattle.std.specs.Prelude.{◌≡◌, ◌≢◌, ℕ, ◌+◌, ◌<◌, ◌≤◌, Bool, false, List, [], ◌∷◌, ◌++◌, length, map, Option, Some, None, slice_index_or, is_some, count_by, vec_len, vec_capacity, if◌then◌else◌}
use Rattle.modes_core.specs.declared.tags.Tag.{Tag}
use Rattle.modes_core.specs.Tag.{tag_eq}
use Rattle.lock_table.specs.Content.{Wait}
use Rattle.lock_table.specs.Waiter.{shown_wait}
use Rattle.lock_records.specs.declared.wait_queues.QueueRecord.{QueueRecord}

-- The queue records of a partition, by their places.

-- the record at a place
abbrev pub queue_at : List (Option QueueRecord) → ℕ → Option QueueRecord
queue_at slots place = slice_index_or slots place None

-- whether a place has a record of the object
abbrev pub is_queue_of : Tag → Option QueueRecord → Bool
is_queue_of tag None = false
is_queue_of tag (Some queue) = tag_eq tag queue.tag

-- the waits for the object that a place has
abbrev pub waits_at : Tag → Option QueueRecord → List Wait
waits_at tag None = []
waits_at tag (Some queue) = if tag_eq tag queue.tag then map shown_wait queue.waiters.items else []

-- the queue of an object: the waits that its record has
unfoldable pub queue_on : List (Option QueueRecord) → Tag → List Wait
queue_on [] tag = []
queue_on (slot ∷ slots) tag = waits_at tag slot ++ queue_on slots tag

-- how many waits a place has
abbrev pub waits_of : Option QueueRecord → ℕ
waits_of None = 0
waits_of (Some queue) = length queue.waiters.items

-- for how many waits the record at a place has room
abbrev pub room_of : Option QueueRecord → ℕ
room_of None = 0
room_of (Some queue) = vec_capacity queue.waiters

-- what all places have together, by what one has
unfoldable pub total_of : (Option QueueRecord → ℕ) → List (Option QueueRecord) → ℕ
total_of one [] = 0
total_of one (slot ∷ slots) = one slot + total_of one slots

-- how many waits there are
abbrev pub waiting_in : List (Option QueueRecord) → ℕ
waiting_in slots = total_of waits_of slots

-- for how many waits the records have room together
abbrev pub room_in : List (Option QueueRecord) → ℕ
room_in slots = total_of room_of slots

-- The record at the place is the object's.
pub record IsQueueAt (slots : List (Option QueueRecord)) (tag : Tag) (place : ℕ) : Type 0 where
  pub queue : QueueRecord
  pub there : queue_at slots place ≡ Some queue
  pub on : queue.tag ≡ tag

-- An object has one record at most, and each record has a wait.
pub record AreQueues (slots : List (Option QueueRecord)) : Type 0 where
  pub once : (tag : Tag) (k j : ℕ) → IsQueueAt slots tag k → IsQueueAt slots tag j → k ≡ j
  pub some : (tag : Tag) (place : ℕ) (i : IsQueueAt slots tag place) → i.queue.waiters.items ≢ []

-- what contracts see of the queue records: the records by their places, for how many there is room, and for
-- how many waits there is room in the queue that the next new record takes
pub record QueuesView : Type 0 where
  pub slots : List (Option QueueRecord)
  pub capacity : ℕ
  pub spare : ℕ

-- There is room for as many records and waits as before, in queues and in the spare one together.
pub record HasSameRoom (old new : QueuesView) : Type 0 where
  pub records : new.capacity ≡ old.capacity
  pub waits : new.spare + room_in new.slots ≡ old.spare + room_in old.slots

-- There is room for as many records as before, and for no more waits than before, in queues and in the spare
-- one together.
pub record HasNoMoreRoom (old new : QueuesView) : Type 0 where
  pub records : new.capacity ≡ old.capacity
  pub waits : new.spare + room_in new.slots ≤ old.spare + room_in old.slots

-- There is room for one more record, and for a wait in it.
pub record HasRoomForQueue (queues : QueuesView) : Type 0 where
  pub slot : count_by is_some queues.slots < queues.capacity
  pub wait : 0 < queues.spare

-- Where somebody awaits the object, there is room in its queue for one more.
abbrev pub HasRoomInQueue : List (Option QueueRecord) → Tag → Type 0
HasRoomInQueue slots tag =
    queue_on slots tag ≢ [] → (place : ℕ) (i : IsQueueAt slots tag place) → vec_len i.queue.waiters < vec_capacity i.queue.waiters

-- Two views of queues have the same waits, as many records, and room for as many.
pub record HasSameQueues (old new : QueuesView) : Type 0 where
  pub waits : queue_on new.slots ≡ queue_on old.slots
  pub total : waiting_in new.slots ≡ waiting_in old.slots
  pub count : count_by is_some new.slots ≡ count_by is_some old.slots
  pub capacity : new.capacity ≡ old.capacity
  pub spare : new.spare ≡ old.spare
