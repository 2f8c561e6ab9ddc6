use Rattle.std.proofs.Common.{◌≡◌, ◌<◌, ◌+◌, vec_capacity, false, ap, ◌∙◌, arith}
use Rattle.lock_table.specs.declared.request.Request.{Request}
use Rattle.lock_table.specs.Queue.{awaits_mode}
use Rattle.lock_records.specs.Queues.{HasRoomInQueue, queue_on, waiting_in, room_in}
use Rattle.lock_records.specs.Holders.{holds_in}
use Rattle.lock_records.specs.Objects.{HasRoom}
use Rattle.lock_records.specs.View.{RecordView}
use Rattle.lock_records.proofs.Lemmas.Changes.{objects-granted}
use Rattle.lock_records.proofs.Lemmas.Indexes.{noted-relocked}
use Rattle.lock_records.proofs.Lemmas.Parts.{nothing-said, made-held}
use Rattle.lock_records.proofs.records.RecordsPartTable.grant.Goals as goal

pub add_hold-requires-clause-held : goal.add_hold-requires-clause-held
add_hold-requires-clause-held c = λ i.
    (made-held c.self.inside.locks.slots c.find_or_make_lock-place.new.locks.slots c.self.inside.holders.slots c.self.inside.queues.slots c.args.tag.now c.find_or_make_lock-place.result
    c.self.invariant.objects c.find_or_make_lock-place.ensures.made i).held

pub add_hold-requires-clause-new : goal.add_hold-requires-clause-new
add_hold-requires-clause-new c = c.self.invariant.begun_new _ (ap (λ (part : RecordView). part.begun) c.self.view_is ∙ c.requires.begun)

pub invariant_of-self : goal.invariant_of-self
invariant_of-self c =
    let begun = ap (λ (part : RecordView). part.begun) c.self.view_is ∙ c.requires.begun in
    let lock = c.add_hold.ensures.lock in
    let room = c.self.invariant.begun_room _ begun in
    record {
      objects =
          objects-granted c.self.inside.locks.slots c.find_or_make_lock-place.new.locks.slots c.add_hold.new.locks.slots c.self.inside.holders.slots c.add_hold.new.holders.slots c.self.inside.queues.slots
          c.args.session c.args.tag.now c.args.mode c.find_or_make_lock-place.result c.find_or_make_lock-place.new.index c.self.invariant.objects c.find_or_make_lock-place.ensures.made c.find_or_make_lock-place.ensures.noted
          lock.0 lock.1 lock.2 c.add_hold.ensures.set (c.self.invariant.begun_not_awaited _ begun);
      noted =
          noted-relocked c.find_or_make_lock-place.new.locks.slots c.add_hold.new.locks.slots c.find_or_make_lock-place.new.index c.args.tag.now c.find_or_make_lock-place.result lock.0 c.find_or_make_lock-place.ensures.noted;
      room = omega (arith, room.holder, c.add_hold.ensures.len, c.add_hold.ensures.capacity);
      woken_room = c.self.invariant.woken_room;
      begun_new = nothing-said (λ (request : Request). holds_in c.add_hold.new.holders.slots request.session request.tag request.mode ≡ false) _ c.nothing-self-inside.ensures;
      begun_not_awaited = nothing-said (λ (request : Request). awaits_mode (queue_on c.self.inside.queues.slots request.tag) request.session request.mode ≡ false) _ c.nothing-self-inside.ensures;
      begun_room = nothing-said (λ (request : Request). HasRoom c.add_hold.new.locks c.add_hold.new.holders c.self.inside.queues c.find_or_make_lock-place.new.index) _ c.nothing-self-inside.ensures;
      begun_queue = nothing-said (λ (request : Request). HasRoomInQueue c.self.inside.queues.slots request.tag) _ c.nothing-self-inside.ensures;
      begun_woken = nothing-said (λ (request : Request). waiting_in c.self.inside.queues.slots < vec_capacity c.self.inside.woken) _ c.nothing-self-inside.ensures;
      absent = λ there. let no_way : ⊥ = cc in absurd no_way;
      known = λ there. let no_way : ⊥ = cc in absurd no_way;
    }

pub find_or_make_lock-place-requires-clause-absent : goal.find_or_make_lock-place-requires-clause-absent
find_or_make_lock-place-requires-clause-absent c absent =
    let begun = ap (λ (part : RecordView). part.begun) c.self.view_is ∙ c.requires.begun in
    c.self.invariant.absent absent _ begun

pub returns-clause-capacity : goal.returns-clause-capacity
returns-clause-capacity c =
    rw (← c.self.view_is)
    (λ i. record {
      locks = (c.add_hold.ensures.locks_capacity ∙ c.find_or_make_lock-place.ensures.capacity.0) i;
      holders = c.add_hold.ensures.capacity i;
      queues = c.self.inside.queues.capacity;
      waits = c.self.inside.queues.spare + room_in c.self.inside.queues.slots;
      woken = vec_capacity c.self.inside.woken;
      places = c.find_or_make_lock-place.ensures.capacity.1 i;
    })
