use Rattle.std.proofs.Common.{refl, ◌≡◌, ◌≢◌, ◌<◌, [], List, Option, length, vec_len, vec_capacity, Some, sym, ap, ◌∙◌, subst, arith}
use Rattle.std.proofs.Math.ListN.{set}
use Rattle.lock_records.specs.declared.wait_queues.QueueRecord.{QueueRecord}
use Rattle.lock_records.specs.Queues.{QueuesView, HasSameQueues, queue_at, waiting_in, IsQueueAt}
use Rattle.lock_records.proofs.Lemmas.QueueRecords.{requeued-are, requeued-has-room, requeued-total}
use Rattle.lock_records.proofs.Lemmas.QueueWrites.{queue-record, waits-same, count-set, set-here, set-else}
use Rattle.lock_records.proofs.wait_queues.WaitQueues.reserve_in.Goals as goal
use Rattle.lock_records.proofs.wait_queues.WaitQueues.reserve_in.Goals.{After-reserve}

its : (c : After-reserve) → IsQueueAt c.self.inside.slots.slots c.args.tag.now c.args.at
its c = subst (λ (view : QueuesView). IsQueueAt view.slots c.args.tag.now c.args.at) (sym c.self.view_is) c.requires

on : (c : After-reserve) → c.index_mut.result.now.tag ≡ c.args.tag.now
on c = ap (λ (q : QueueRecord). q.tag) (queue-record c.self.inside.slots.slots c.args.at _ _ c.index_mut.ensures.value (its c).there) ∙ (its c).on

abbrev now : (c : After-reserve) → QueueRecord
now c = record { tag = c.index_mut.result.now.tag; waiters = c.reserve.new.self }

abbrev new : (c : After-reserve) → List (Option QueueRecord)
new c = set c.self.inside.slots.slots c.args.at (Some (now c))

here : (c : After-reserve) → queue_at (new c) c.args.at ≡ Some (now c)
here c = set-here c.self.inside.slots.slots c.args.at c.index_mut.result.now (now c) c.index_mut.ensures.value

filled : (c : After-reserve) → c.reserve.new.self.items ≢ []
filled c none =
    c.self.invariant.0.some c.args.tag.now c.args.at (record { queue = c.index_mut.result.now; there = c.index_mut.ensures.value; on = on c }) (sym c.reserve.ensures.items ∙ none)

total : (c : After-reserve) → waiting_in (new c) ≡ waiting_in c.self.inside.slots.slots
total c =
    let old = c.self.inside.slots.slots in
    let sum = requeued-total old (new c) c.args.tag.now c.args.at c.index_mut.result.now (now c) c.self.invariant.0 c.index_mut.ensures.value (on c) (set-else old c.args.at (now c)) (here c) (on c) (filled c) in
    omega (arith, sum, ap length c.reserve.ensures.items)

pub invariant_of-self : goal.invariant_of-self
invariant_of-self c =
    let at = (goal.at.invariant_of-self c).After-reserve in
    let old = c.self.inside.slots.slots in (
      requeued-are old (new at) c.args.tag.now c.args.at c.index_mut.result.now (now at) c.self.invariant.0 c.index_mut.ensures.value (on at) (set-else old c.args.at (now at)) (here at) (on at) (filled at),
      c.self.invariant.1 ∙ sym (total at),
      c.self.invariant.2,
    )

pub invariant_of-self-2 : goal.invariant_of-self-2
invariant_of-self-2 c =
    let at = (goal.at.invariant_of-self-2 c).After-reserve in
    let old = c.self.inside.slots.slots in (
      requeued-are old (new at) c.args.tag.now c.args.at c.index_mut.result.now (now at) c.self.invariant.0 c.index_mut.ensures.value (on at) (set-else old c.args.at (now at)) (here at) (on at) (filled at),
      c.self.invariant.1 ∙ sym (total at),
      c.self.invariant.2,
    )

same : (c : After-reserve) → HasSameQueues (record { slots = c.self.inside.slots.slots; capacity = c.self.inside.slots.capacity; spare = vec_capacity c.self.inside.spare })
    (record { slots = new c; capacity = c.self.inside.slots.capacity; spare = vec_capacity c.self.inside.spare })
same c =
    let old = c.self.inside.slots.slots in
    record {
      waits = waits-same old c.args.at c.index_mut.result.now (now c) c.index_mut.ensures.value refl c.reserve.ensures.items;
      total = total c;
      count = count-set old c.args.at c.index_mut.result.now (now c) c.index_mut.ensures.value;
      capacity = refl;
      spare = refl;
    }

pub returns-in_err-reserve-clause-same : goal.returns-in_err-reserve-clause-same
returns-in_err-reserve-clause-same c = rw (← c.self.view_is) (same (goal.at.returns-in_err-reserve-clause-same c).After-reserve)

pub returns-clause-same : goal.returns-clause-same
returns-clause-same c = rw (← c.self.view_is) (same (goal.at.returns-clause-same c).After-reserve)

pub returns-clause-room : goal.returns-clause-room
returns-clause-room c =
    let at = (goal.at.returns-clause-room c).After-reserve in
    let old = c.self.inside.slots.slots in
    requeued-has-room old (new at) c.args.tag.now c.args.at c.index_mut.result.now (now at) c.self.invariant.0 c.index_mut.ensures.value (on at) (set-else old c.args.at (now at)) (here at) (on at) (filled at)
    (let fits : vec_len c.reserve.new.self < vec_capacity c.reserve.new.self = omega (arith, c.in_ok-reserve.ensures.ok) in fits)
