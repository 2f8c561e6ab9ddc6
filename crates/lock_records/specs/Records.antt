use Rattle.std.specs.Prelude.{◌≡◌, ◌+◌, ◌≤◌, ◌<◌, true, false, vec_capacity}
use Rattle.std.specs.Option.{ForSome}
use Rattle.lock_table.specs.Queue.{awaits_mode}
use Rattle.slab.specs.Slab.{slab_len}
use Rattle.lock_records.specs.Holders.{holds_in}
use Rattle.lock_records.specs.Locks.{AreNoted, HasNoLock, IsLockAt}
use Rattle.lock_records.specs.Queues.{HasRoomInQueue, queue_on, waiting_in, room_in}
use Rattle.lock_records.specs.Objects.{AreObjects, HasRoom}
use Rattle.lock_records.specs.View.{RecordView}
use Rattle.lock_records.specs.declared.records.Records.TheInside.{Inside}

-- What contracts see of a part with records.
abbrev pub view_of : Inside → RecordView
view_of part = record {
  locks = part.locks.slots;
  next_lock = part.locks.vacant_key;
  holders = part.holders.slots;
  queues = part.queues.slots;
  woken = part.woken.items;
  begun = part.begun.request;
  prepared = part.prepared.request;
  spare = part.queues.spare;
  capacity = record {
    locks = part.locks.capacity;
    holders = part.holders.capacity;
    queues = part.queues.capacity;
    waits = part.queues.spare + room_in part.queues.slots;
    woken = vec_capacity part.woken;
    places = part.index.places;
  };
}

-- The records of each object are right, the index finds the lock records, and there is room for the hold that
-- each wait becomes, and for the name of each who waits among those woken; a begun request is new, and has
-- room. Where it is noted so, its object has no record, or its record stands at the hint.
pub record AreRecords (part : Inside) : Type 0 where
  pub objects : AreObjects part.locks.slots part.holders.slots part.queues.slots
  pub noted : AreNoted part.locks.slots part.index
  pub room : slab_len part.holders + waiting_in part.queues.slots ≤ part.holders.capacity
  pub woken_room : waiting_in part.queues.slots ≤ vec_capacity part.woken
  pub begun_new : ForSome part.begun.request (λ request. holds_in part.holders.slots request.session request.tag request.mode ≡ false)
  pub begun_not_awaited : ForSome part.begun.request
      (λ request. awaits_mode (queue_on part.queues.slots request.tag) request.session request.mode ≡ false)
  pub begun_room : ForSome part.begun.request (λ request. HasRoom part.locks part.holders part.queues part.index)
  pub begun_queue : ForSome part.begun.request (λ request. HasRoomInQueue part.queues.slots request.tag)
  pub begun_woken : ForSome part.begun.request (λ request. waiting_in part.queues.slots < vec_capacity part.woken)
  pub absent : part.absent ≡ true → ForSome part.begun.request (λ request. HasNoLock part.locks.slots request.tag)
  pub known : part.known ≡ true → ForSome part.begun.request (λ request. IsLockAt part.locks.slots request.tag part.hint)
