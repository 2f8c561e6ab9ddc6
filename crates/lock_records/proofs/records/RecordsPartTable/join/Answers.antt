use Rattle.std.proofs.Common.{◌≡◌, ◌<◌, vec_capacity, false, ap, ◌∙◌, arith}
use Rattle.modes_core.specs.ModeSet.{set_has}
use Rattle.lock_table.specs.Content.{Wait}
use Rattle.lock_table.specs.Queue.{awaits_mode, waits_there}
use Rattle.lock_table.specs.declared.request.Request.{Request}
use Rattle.lock_records.specs.Holders.{holds_in}
use Rattle.lock_records.specs.Objects.{HasRoom}
use Rattle.lock_records.specs.Queues.{HasRoomInQueue, queue_on, waiting_in}
use Rattle.lock_records.specs.View.{RecordView}
use Rattle.lock_records.proofs.Lemmas.Changes.{objects-joined}
use Rattle.lock_records.proofs.Lemmas.Indexes.{noted-relocked}
use Rattle.lock_records.proofs.Lemmas.Parts.{nothing-said, counts-few}
use Rattle.lock_records.proofs.records.RecordsPartTable.join.Goals as goal
use Rattle.lock_records.proofs.records.RecordsPartTable.join.Goals.{After-capacity-most}
use Rattle.modes_core.specs.Sessions.{most_sessions}

abbrev its : (c : After-capacity-most) → Wait
its c = record { session = c.args.session; mode = c.args.mode; held = set_has c.held-held.result }

small : (c : After-capacity-most) → c.args.session < most_sessions
small c = omega (arith, c.number-number.ensures.within, c.number-number.ensures.value)

absent : (c : After-capacity-most) → waits_there (queue_on c.self.inside.queues.slots c.args.tag.now) c.args.session ≡ false
absent c = ap (λ (part : RecordView). waits_there (queue_on part.queues c.args.tag.now) c.args.session) c.self.view_is ∙ c.requires.no_wait

pub find_or_make_lock-at-requires-clause-absent : goal.find_or_make_lock-at-requires-clause-absent
find_or_make_lock-at-requires-clause-absent c absent =
    let begun = ap (λ (part : RecordView). part.begun) c.self.view_is ∙ c.requires.begun in
    c.self.invariant.absent absent _ begun

pub queue_up-queue-requires-clause-room : goal.queue_up-queue-requires-clause-room
queue_up-queue-requires-clause-room c =
    let begun = ap (λ (part : RecordView). part.begun) c.self.view_is ∙ c.requires.begun in
    (c.self.invariant.begun_room _ begun).queue

pub queue_up-queue-requires-clause-in_queue : goal.queue_up-queue-requires-clause-in_queue
queue_up-queue-requires-clause-in_queue c =
    let begun = ap (λ (part : RecordView). part.begun) c.self.view_is ∙ c.requires.begun in
    c.self.invariant.begun_queue _ begun

pub raise_awaited-requires-clause-few : goal.raise_awaited-requires-clause-few
raise_awaited-requires-clause-few c =
    counts-few c.self.inside.locks.slots c.find_or_make_lock-at.new.locks.slots c.self.inside.holders.slots c.self.inside.queues.slots c.args.tag.now c.args.mode c.find_or_make_lock-at.result
    c.self.invariant.objects c.find_or_make_lock-at.ensures.made

pub invariant_of-self : goal.invariant_of-self
invariant_of-self c =
    let at = (goal.at.invariant_of-self c).After-capacity-most in
    let begun = ap (λ (part : RecordView). part.begun) c.self.view_is ∙ c.requires.begun in
    let lock = c.raise_awaited.ensures.lock in
    let room = c.self.invariant.begun_room _ begun in
    record {
      objects =
          objects-joined c.self.inside.locks.slots c.find_or_make_lock-at.new.locks.slots c.raise_awaited.new.locks.slots c.self.inside.holders.slots c.self.inside.queues.slots c.queue_up-queue.new.queues.slots
          (its at) c.args.tag.now c.args.place c.find_or_make_lock-at.result c.find_or_make_lock-at.new.index c.self.invariant.objects c.find_or_make_lock-at.ensures.made c.find_or_make_lock-at.ensures.noted
          lock.0 lock.1 lock.2 lock.3 c.queue_up-queue.ensures.waits (small at) (absent at) (c.self.invariant.begun_new _ begun);
      noted =
          noted-relocked c.find_or_make_lock-at.new.locks.slots c.raise_awaited.new.locks.slots c.find_or_make_lock-at.new.index c.args.tag.now c.find_or_make_lock-at.result lock.0 c.find_or_make_lock-at.ensures.noted;
      room = omega (arith, room.holder, c.queue_up-queue.ensures.one_more);
      woken_room = omega (arith, c.self.invariant.begun_woken _ begun, c.queue_up-queue.ensures.one_more);
      begun_new = nothing-said (λ (request : Request). holds_in c.self.inside.holders.slots request.session request.tag request.mode ≡ false) _ c.nothing-self-inside.ensures;
      begun_not_awaited = nothing-said (λ (request : Request). awaits_mode (queue_on c.queue_up-queue.new.queues.slots request.tag) request.session request.mode ≡ false) _ c.nothing-self-inside.ensures;
      begun_room = nothing-said (λ (request : Request). HasRoom c.raise_awaited.new.locks c.self.inside.holders c.queue_up-queue.new.queues c.find_or_make_lock-at.new.index) _ c.nothing-self-inside.ensures;
      begun_queue = nothing-said (λ (request : Request). HasRoomInQueue c.queue_up-queue.new.queues.slots request.tag) _ c.nothing-self-inside.ensures;
      begun_woken = nothing-said (λ (request : Request). waiting_in c.queue_up-queue.new.queues.slots < vec_capacity c.self.inside.woken) _ c.nothing-self-inside.ensures;
      absent = λ there. let no_way : ⊥ = cc in absurd no_way;
      known = λ there. let no_way : ⊥ = cc in absurd no_way;
    }

pub returns-clause-capacity : goal.returns-clause-capacity
returns-clause-capacity c =
    rw (← c.self.view_is)
    (λ i. record {
      locks = (c.raise_awaited.ensures.locks_capacity ∙ c.find_or_make_lock-at.ensures.capacity.0) i;
      holders = c.self.inside.holders.capacity;
      queues = c.queue_up-queue.ensures.capacity.records i;
      waits = c.queue_up-queue.ensures.capacity.waits i;
      woken = vec_capacity c.self.inside.woken;
      places = c.find_or_make_lock-at.ensures.capacity.1 i;
    })
