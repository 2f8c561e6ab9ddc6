use Rattle.std.specs.Prelude.{count_by, is_some}
use Rattle.std.proofs.Common.{◌≡◌, ◌≢◌, ◌<◌, vec_len, vec_capacity, sym, subst, ◌+◌, ◌∷◌, ◌++◌, List, [], length, map, refl, ap, ◌∙◌, arith}
use Rattle.lock_table.specs.Waiter.{shown_wait}
use Rattle.lock_table.specs.declared.waits.Waiter.{Waiter}
use Rattle.lock_records.specs.Queues.{QueuesView, queue_on, waiting_in}
use Rattle.lock_records.proofs.Lemmas.QueueRecords.{started-are, started-queue, started-total}
use Rattle.lock_records.proofs.Lemmas.QueueWrites.{room-started}
use Rattle.lock_records.proofs.wait_queues.WaitQueues.start.Goals as goal
use Rattle.lock_records.proofs.wait_queues.WaitQueues.start.Goals.{After-insert_reserved}

items : (c : After-insert_reserved) → c.push_reserved.new.self.items ≡ c.args.waiter ∷ []
items c =
    let none : c.replace-waiters.result.items ≡ [] = rw c.replace-waiters.ensures.value c.self.invariant.2 in
    c.push_reserved.ensures.items ∙ ap (λ (ws : List Waiter). ws ++ c.args.waiter ∷ []) none

filled : (c : After-insert_reserved) → c.push_reserved.new.self.items ≢ []
filled c none = let one : length c.push_reserved.new.self.items ≡ 1 = ap length (items c) in let empty : length c.push_reserved.new.self.items ≡ 0 = ap length none in omega arith

none : (c : After-insert_reserved) → queue_on c.self.inside.slots.slots c.args.tag.now ≡ []
none c = ap (λ (view : QueuesView). queue_on view.slots c.args.tag.now) c.self.view_is ∙ c.requires.none

total : (c : After-insert_reserved) → waiting_in c.insert_reserved.new.self.slots ≡ waiting_in c.self.inside.slots.slots + 1
total c =
    let all = started-total c.self.inside.slots.slots c.insert_reserved.new.self.slots c.args.tag.now c.insert_reserved.result (record { tag = c.args.tag.now; waiters = c.push_reserved.new.self }) c.self.invariant.0
    (none c) c.insert_reserved.ensures.was_vacant c.insert_reserved.ensures.updates.changed refl (filled c) c.insert_reserved.ensures.updates.others in
    let one : length c.push_reserved.new.self.items ≡ 1 = ap length (items c) in
    omega (arith, all)

pub push_reserved-requires : goal.push_reserved-requires
push_reserved-requires c =
    let empty : vec_len c.self.inside.spare ≡ 0 = omega (arith, ap length c.self.invariant.2, c.self.inside.spare.ok.0) in
    let room = subst (λ (view : QueuesView). 0 < view.spare) (sym c.self.view_is) c.requires.room.wait in
    rw c.replace-waiters.ensures.value (let fits : vec_len c.self.inside.spare < vec_capacity c.self.inside.spare = omega arith in fits)

pub insert_reserved-requires : goal.insert_reserved-requires
insert_reserved-requires c =
    let room : count_by is_some c.self.inside.slots.slots < c.self.inside.slots.capacity = subst (λ (view : QueuesView). count_by is_some view.slots < view.capacity) (sym c.self.view_is) c.requires.room.slot in
    omega (arith, room)

pub invariant_of-self : goal.invariant_of-self
invariant_of-self c =
    let at = (goal.at.invariant_of-self c).After-insert_reserved in (
      started-are c.self.inside.slots.slots c.insert_reserved.new.self.slots c.args.tag.now c.insert_reserved.result (record { tag = c.args.tag.now; waiters = c.push_reserved.new.self }) c.self.invariant.0
          (none at) c.insert_reserved.ensures.was_vacant c.insert_reserved.ensures.updates.changed refl (filled at) c.insert_reserved.ensures.updates.others,
      omega (arith, total at, c.self.invariant.1),
      rw c.replace-waiters.ensures.after c.new.ensures.items,
    )

pub returns-clause-waits : goal.returns-clause-waits
returns-clause-waits c =
    let at = (goal.at.returns-clause-waits c).After-insert_reserved in
    rw (← c.self.view_is)
    (started-queue c.self.inside.slots.slots c.insert_reserved.new.self.slots c.args.tag.now c.insert_reserved.result (record { tag = c.args.tag.now; waiters = c.push_reserved.new.self }) c.self.invariant.0
    (none at) c.insert_reserved.ensures.was_vacant c.insert_reserved.ensures.updates.changed refl (filled at) c.insert_reserved.ensures.updates.others
    (shown_wait c.args.waiter ∷ []) (ap (map shown_wait) (items at)))

pub returns-clause-one_more : goal.returns-clause-one_more
returns-clause-one_more c = rw (← c.self.view_is) (total (goal.at.returns-clause-one_more c).After-insert_reserved)

pub returns-clause-capacity : goal.returns-clause-capacity
returns-clause-capacity c =
    let room = room-started c.self.inside.slots.slots c.insert_reserved.new.self.slots c.insert_reserved.result c.insert_reserved.ensures.updates.others
    (record { tag = c.args.tag.now; waiters = c.push_reserved.new.self }) c.insert_reserved.ensures.was_vacant c.insert_reserved.ensures.updates.changed in
    let spare : vec_capacity c.replace-waiters.new.dest ≡ 0 = rw c.replace-waiters.ensures.after c.new.ensures.capacity in
    let taken : vec_capacity c.replace-waiters.result ≡ vec_capacity c.self.inside.spare = ap vec_capacity c.replace-waiters.ensures.value in
    rw (← c.self.view_is) (record { records = c.insert_reserved.ensures.capacity; waits = omega (arith, room, spare, taken, c.push_reserved.ensures.capacity) })
