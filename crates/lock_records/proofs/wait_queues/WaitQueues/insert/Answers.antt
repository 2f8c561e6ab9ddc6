use Rattle.std.proofs.Common.{◌≡◌, ◌≢◌, ◌+◌, ◌<◌, ◌≤◌, [], refl, length, vec_len, vec_capacity, map, Some, sym, ap, ◌∙◌, subst, arith}
use Rattle.std.proofs.Math.ListN.{set}
use Rattle.std.proofs.lemmas.List.{length-map}
use Rattle.lock_table.specs.Queue.{joined}
use Rattle.lock_table.specs.Waiter.{shown_wait}
use Rattle.lock_records.specs.declared.wait_queues.QueueRecord.{QueueRecord}
use Rattle.lock_records.specs.Queues.{QueuesView, queue_on, waiting_in, IsQueueAt, HasRoomInQueue}
use Rattle.lock_records.proofs.Lemmas.QueueRecords.{requeued-are, requeued-queue, requeued-total, shown-joined}
use Rattle.lock_records.proofs.Lemmas.QueueWrites.{queue-record, queue-is, somebody-there, set-here, set-else, room-rewritten}
use Rattle.lock_records.proofs.wait_queues.WaitQueues.insert.Goals as goal
use Rattle.lock_records.proofs.wait_queues.WaitQueues.insert.Goals.{After-index_mut, In-Ok}

on : (c : After-index_mut) → c.index_mut.result.now.tag ≡ c.args.tag.now
on c =
    let i = subst (λ (view : QueuesView). IsQueueAt view.slots c.args.tag.now c.args.at) (sym c.self.view_is) c.requires.there in
    ap (λ (q : QueueRecord). q.tag) (queue-record c.self.inside.slots.slots c.args.at _ _ c.index_mut.ensures.value i.there) ∙ i.on

shown : (c : After-index_mut) → queue_on c.args.self.now.slots c.args.tag.now ≡ map shown_wait c.index_mut.result.now.waiters.items
shown c =
    rw (← c.self.view_is)
    (queue-is c.self.inside.slots.slots c.args.tag.now c.args.at c.self.invariant.0 (record { queue = c.index_mut.result.now; there = c.index_mut.ensures.value; on = on c }))

long : (c : After-index_mut) → length (queue_on c.args.self.now.slots c.args.tag.now) ≡ length c.index_mut.result.now.waiters.items
long c = ap length (shown c) ∙ length-map c.index_mut.result.now.waiters.items shown_wait

-- one more waits
longer : (c : In-Ok) → length c.insert.new.self.items ≡ length c.index_mut.result.now.waiters.items + 1
longer c = omega (arith, c.in-Ok.ensures.len, c.insert.new.self.ok.0, c.index_mut.result.now.waiters.ok.0)

filled : (c : In-Ok) → c.insert.new.self.items ≢ []
filled c none =
    let empty : length c.insert.new.self.items ≡ 0 = ap length none in
    let more : length c.insert.new.self.items ≡ length c.index_mut.result.now.waiters.items + 1 = longer c in
    omega arith

abbrev now : (c : In-Ok) → QueueRecord
now c = record { tag = c.index_mut.result.now.tag; waiters = c.insert.new.self }

pub insert-requires : goal.insert-requires
insert-requires c =
    let same = long (goal.at.insert-requires c).After-index_mut in
    omega (arith, same, c.requires.place, c.index_mut.result.now.waiters.ok.0)

-- there is room for it in the queue
less : (c : After-index_mut) → vec_len c.index_mut.result.now.waiters < vec_capacity c.index_mut.result.now.waiters
less c =
    let its : IsQueueAt c.self.inside.slots.slots c.args.tag.now c.args.at = record { queue = c.index_mut.result.now; there = c.index_mut.ensures.value; on = on c } in
    let room = subst (λ (view : QueuesView). HasRoomInQueue view.slots c.args.tag.now) (sym c.self.view_is) c.requires.room in
    room (somebody-there c.self.inside.slots.slots c.args.tag.now c.args.at c.self.invariant.0 its) c.args.at its

pub unreachable-requires : goal.unreachable-requires
unreachable-requires c = omega (arith, less (goal.at.unreachable-requires c).After-index_mut, c.in-Err.ensures.full)

pub invariant_of-self : goal.invariant_of-self
invariant_of-self c =
    let at = (goal.at.invariant_of-self c).After-index_mut in
    let after = (goal.at.invariant_of-self c).In-Ok in
    let old = c.self.inside.slots.slots in
    let here = set-here old c.args.at c.index_mut.result.now (now after) c.index_mut.ensures.value in
    let total = requeued-total old _ c.args.tag.now c.args.at c.index_mut.result.now (now after) c.self.invariant.0 c.index_mut.ensures.value (on at) (set-else old c.args.at (now after)) here (on at) (filled after) in (
      requeued-are old _ c.args.tag.now c.args.at c.index_mut.result.now (now after) c.self.invariant.0 c.index_mut.ensures.value (on at) (set-else old c.args.at (now after)) here (on at) (filled after),
      omega (arith, total, longer after, c.self.invariant.1),
      c.self.invariant.2,
    )

pub returns-clause-waits : goal.returns-clause-waits
returns-clause-waits c =
    let at = (goal.at.returns-clause-waits c).After-index_mut in
    let after = (goal.at.returns-clause-waits c).In-Ok in
    let old = c.self.inside.slots.slots in
    let here = set-here old c.args.at c.index_mut.result.now (now after) c.index_mut.ensures.value in
    let was : queue_on old c.args.tag.now ≡ map shown_wait c.index_mut.result.now.waiters.items =
    ap (λ (view : QueuesView). queue_on view.slots c.args.tag.now) c.self.view_is ∙ shown at in
    rw (← c.self.view_is)
    (requeued-queue old _ c.args.tag.now c.args.at c.index_mut.result.now (now after) c.self.invariant.0 c.index_mut.ensures.value (on at) (set-else old c.args.at (now after)) here (on at) (filled after)
    (joined c.args.place (shown_wait c.args.waiter) (queue_on old c.args.tag.now))
    (ap (map shown_wait) c.in-Ok.ensures.items ∙ shown-joined c.index_mut.result.now.waiters.items c.args.place c.args.waiter ∙ ap (joined c.args.place (shown_wait c.args.waiter)) (sym was)))

pub returns-clause-one_more : goal.returns-clause-one_more
returns-clause-one_more c =
    let at = (goal.at.returns-clause-one_more c).After-index_mut in
    let after = (goal.at.returns-clause-one_more c).In-Ok in
    let old = c.self.inside.slots.slots in
    let here = set-here old c.args.at c.index_mut.result.now (now after) c.index_mut.ensures.value in
    let total = requeued-total old _ c.args.tag.now c.args.at c.index_mut.result.now (now after) c.self.invariant.0 c.index_mut.ensures.value (on at) (set-else old c.args.at (now after)) here (on at) (filled after) in
    rw (← c.self.view_is) (let sum : waiting_in (set old c.args.at (Some (now after))) ≡ waiting_in old + 1 = omega (arith, total, longer after) in sum)

pub returns-clause-capacity : goal.returns-clause-capacity
returns-clause-capacity c =
    let at = (goal.at.returns-clause-capacity c).After-index_mut in
    let after = (goal.at.returns-clause-capacity c).In-Ok in
    let old = c.self.inside.slots.slots in
    let room = room-rewritten old (set old c.args.at (Some (now after))) c.args.at (set-else old c.args.at (now after)) c.index_mut.result.now (now after) c.index_mut.ensures.value
    (set-here old c.args.at c.index_mut.result.now (now after) c.index_mut.ensures.value)
    (c.in-Ok.ensures.in_place (less at)).1.0 in
    rw (← c.self.view_is) (record { records = refl; waits = omega (arith, room) })
