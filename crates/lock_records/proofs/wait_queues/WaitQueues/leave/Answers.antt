use Rattle.std.proofs.Common.{◌≡◌, ◌≢◌, ℕ, ◌+◌, ◌<◌, ◌≤◌, vec_len, vec_capacity, Bool, true, false, ◌==◌, Option, None, List, [], ◌∷◌, length, map, Some, refl, sym, ap, ◌∙◌, subst, arith}
use Rattle.std.proofs.Math.ListN.{set}
use Rattle.std.proofs.lemmas.Bool.{eqb-true, eqb-false}
use Rattle.std.specs.List.{HoldsAt}
use Rattle.std.specs.Prelude.{count_by, is_some}
use Rattle.modes_core.specs.declared.tags.Tag.{Tag}
use Rattle.modes_core.specs.Tag.{tag_eq}
use Rattle.lock_table.specs.Put.{put}
use Rattle.lock_table.specs.Content.{Wait}
use Rattle.lock_table.specs.Queue.{waits_there, queue_without}
use Rattle.lock_table.specs.Waiter.{shown_wait}
use Rattle.lock_table.specs.declared.waits.Waiter.{Waiter}
use Rattle.lock_records.specs.declared.wait_queues.QueueRecord.{QueueRecord}
use Rattle.lock_records.specs.Queues.{QueuesView, queue_at, queue_on, waiting_in, room_in, IsQueueAt, AreQueues}
use Rattle.lock_records.proofs.Lemmas.QueueRecords.{requeued-are, requeued-queue, counted-at, requeued-room, dropped-room, dropped-are, dropped-queue, dropped-total, left-shown, shown-any}
use Rattle.lock_records.proofs.Lemmas.QueueWrites.{queue-record, queue-is, waiting-written, count-set, set-here, set-else, room-rewritten, room-dropped}
use Rattle.lock_records.proofs.wait_queues.WaitQueues.leave.Goals as goal
use Rattle.lock_records.proofs.wait_queues.WaitQueues.leave.Goals.{After-index, After-remove}

on : (c : After-index) → c.index.result.now.tag ≡ c.args.tag.now
on c =
    let i = subst (λ (view : QueuesView). IsQueueAt view.slots c.args.tag.now c.args.at) (sym c.self.view_is) c.requires.there in
    ap (λ (q : QueueRecord). q.tag) (queue-record c.self.inside.slots.slots c.args.at _ _ c.index.ensures i.there) ∙ i.on

shown : (c : After-index) → queue_on c.self.inside.slots.slots c.args.tag.now ≡ map shown_wait c.index.result.now.waiters.items
shown c = queue-is c.self.inside.slots.slots c.args.tag.now c.args.at c.self.invariant.0 (record { queue = c.index.result.now; there = c.index.ensures; on = on c })

pub place_of-place-requires : goal.place_of-place-requires
place_of-place-requires c =
    let at = (goal.at.place_of-place-requires c).After-index in
    rw c.as_slice.ensures.value
    (sym (shown-any c.index.result.now.waiters.items c.args.session) ∙ ap (λ (queue : List Wait). waits_there queue c.args.session) (sym (shown at))
    ∙ ap (λ (view : QueuesView). waits_there (queue_on view.slots c.args.tag.now) c.args.session) c.self.view_is ∙ c.requires.waits)

-- the record that is written is the one that was looked at
same : (c : After-remove) → c.index_mut.result.now ≡ c.index.result.now
same c = queue-record c.self.inside.slots.slots c.args.at _ _ c.index_mut.ensures.value c.index.ensures

tagged : (c : After-remove) → (at : After-index) → c.index.result.now.tag ≡ c.args.tag.now → c.index_mut.result.now.tag ≡ c.args.tag.now
tagged c at is = ap (λ (q : QueueRecord). q.tag) (same c) ∙ is

abbrev left : (c : After-remove) → QueueRecord
left c = record { tag = c.index_mut.result.now.tag; waiters = c.remove.new.self }

abbrev mid : (c : After-remove) → List (Option QueueRecord)
mid c = set c.self.inside.slots.slots c.args.at (Some (left c))

here : (c : After-remove) → queue_at (mid c) c.args.at ≡ Some (left c)
here c = set-here c.self.inside.slots.slots c.args.at c.index_mut.result.now (left c) c.index_mut.ensures.value

without : (c : After-remove) → c.index_mut.result.now.tag ≡ c.args.tag.now → map shown_wait c.remove.new.self.items ≡ queue_without (queue_on c.self.inside.slots.slots c.args.tag.now) c.args.session
without c is =
    let items : c.as_slice.result.now ≡ c.index_mut.result.now.waiters.items = c.as_slice.ensures.value ∙ ap (λ (q : QueueRecord). q.waiters.items) (sym (same c)) in
    left-shown c.self.inside.slots.slots c.args.tag.now c.args.at c.index_mut.result.now c.remove.new.self.items c.args.session c.place_of-place.result c.self.invariant.0 c.index_mut.ensures.value is
    c.remove.ensures.items (subst (λ (ws : List Waiter). c.place_of-place.result < length ws) items c.place_of-place.ensures.within)
    (subst (λ (ws : List Waiter). HoldsAt (λ w. (w.session == c.args.session) ≡ true) ws c.place_of-place.result) items c.place_of-place.ensures.its)
    (subst (λ (view : QueuesView). count_by (λ wait. wait.session == c.args.session) (queue_on view.slots c.args.tag.now) ≤ 1) (sym c.self.view_is) c.requires.once)

-- one less waits
shorter : (c : After-remove) → length c.remove.new.self.items + 1 ≡ length c.index_mut.result.now.waiters.items
shorter c = omega (arith, c.remove.ensures.len, c.remove.new.self.ok.0, c.index_mut.result.now.waiters.ok.0)

-- as many records are there
same-count : (c : After-remove) → count_by is_some (mid c) ≡ count_by is_some c.self.inside.slots.slots
same-count c = count-set c.self.inside.slots.slots c.args.at c.index_mut.result.now (left c) c.index_mut.ensures.value

mid-total : (c : After-remove) → waiting_in (mid c) + 1 ≡ waiting_in c.self.inside.slots.slots
mid-total c =
    let old = c.self.inside.slots.slots in
    let sum = waiting-written old (mid c) c.args.at (set-else old c.args.at (left c)) in
    let was = counted-at old c.args.at c.index_mut.result.now c.index_mut.ensures.value in
    let now = counted-at (mid c) c.args.at (left c) (here c) in
    omega (arith, shorter c)

pub overflow_sub-self : goal.overflow_sub-self
overflow_sub-self c = omega (arith, mid-total (goal.at.overflow_sub-self c).After-remove, c.self.invariant.1)

none-left : (ws : List Waiter) → length ws ≡ 0 → ws ≡ []
none-left [] none = refl
none-left (w ∷ ws) none = absurd (omega arith)

-- what the look at the record that is left tells
nobody : (slots : List (Option QueueRecord)) (k : ℕ) (q r : QueueRecord) (result : Bool) → queue_at slots k ≡ Some q → queue_at slots k ≡ Some r → result ≡ (length q.waiters.items == 0) → result ≡ true → r.waiters.items ≡ []
nobody slots k q r result there here is empty =
    let none : length q.waiters.items ≡ 0 = eqb-true _ _ (sym is ∙ empty) in
    none-left r.waiters.items (ap (λ (x : QueueRecord). length x.waiters.items) (queue-record slots k r q here there) ∙ none)

somebody : (slots : List (Option QueueRecord)) (k : ℕ) (q r : QueueRecord) (result : Bool) → queue_at slots k ≡ Some q → queue_at slots k ≡ Some r → result ≡ (length q.waiters.items == 0) → result ≡ false → r.waiters.items ≢ []
somebody slots k q r result there here is some none =
    let more : length q.waiters.items ≢ 0 = eqb-false _ _ (sym is ∙ some) in
    more (ap (λ (x : QueueRecord). length x.waiters.items) (queue-record slots k q r there here) ∙ ap length none)

gone-total :
    (old new : List (Option QueueRecord)) (t : Tag) (k : ℕ) (q r : QueueRecord) → AreQueues old → queue_at old k ≡ Some q → q.tag ≡ t → ((j : ℕ) → j ≢ k → queue_at new j ≡ queue_at old j) → queue_at new k ≡ None →
    r.waiters.items ≡ [] → length r.waiters.items + 1 ≡ length q.waiters.items → waiting_in new + 1 ≡ waiting_in old
gone-total old new t k q r are there on others gone none one =
    let total = dropped-total old new t k q r are there on others gone in
    let empty : length r.waiters.items ≡ 0 = ap length none in
    omega arith

pub invariant_of-self : goal.invariant_of-self
invariant_of-self c =
    let first = (goal.at.invariant_of-self c).After-index in
    let at = (goal.at.invariant_of-self c).After-remove in
    let is = tagged at first (on first) in
    let none = nobody (mid at) c.args.at c.index-2.result.now (left at) c.is_empty.result c.index-2.ensures (here at) (c.is_empty.ensures ∙ ap (λ n. n == 0) c.index-2.result.now.waiters.ok.0) c.if-is_empty.true in (
      dropped-are c.self.inside.slots.slots c.remove-gone.new.self.slots c.args.tag.now c.args.at c.index_mut.result.now (left at) c.self.invariant.0 c.index_mut.ensures.value is (λ j apart. c.remove-gone.ensures.updates.others j apart ∙ set-else c.self.inside.slots.slots c.args.at (left at) j apart) c.remove-gone.ensures.updates.changed,
      omega (arith, gone-total c.self.inside.slots.slots c.remove-gone.new.self.slots c.args.tag.now c.args.at c.index_mut.result.now (left at) c.self.invariant.0 c.index_mut.ensures.value is (λ j apart. c.remove-gone.ensures.updates.others j apart ∙ set-else c.self.inside.slots.slots c.args.at (left at) j apart) c.remove-gone.ensures.updates.changed none (shorter at), c.self.invariant.1),
      c.keep_larger.ensures.empty,
    )

pub returns-then-is_empty-clause-waits : goal.returns-then-is_empty-clause-waits
returns-then-is_empty-clause-waits c =
    let first = (goal.at.returns-then-is_empty-clause-waits c).After-index in
    let at = (goal.at.returns-then-is_empty-clause-waits c).After-remove in
    let is = tagged at first (on first) in
    let none = nobody (mid at) c.args.at c.index-2.result.now (left at) c.is_empty.result c.index-2.ensures (here at) (c.is_empty.ensures ∙ ap (λ n. n == 0) c.index-2.result.now.waiters.ok.0) c.if-is_empty.true in
    let old = c.self.inside.slots.slots in
    rw (← c.self.view_is)
    (dropped-queue old c.remove-gone.new.self.slots c.args.tag.now c.args.at c.index_mut.result.now (left at) c.self.invariant.0 c.index_mut.ensures.value is (λ j apart. c.remove-gone.ensures.updates.others j apart ∙ set-else c.self.inside.slots.slots c.args.at (left at) j apart) c.remove-gone.ensures.updates.changed
    ∙ ap (put tag_eq (queue_on old) c.args.tag.now) (sym (ap (map shown_wait) none) ∙ without at is))

pub returns-then-is_empty-clause-one_less : goal.returns-then-is_empty-clause-one_less
returns-then-is_empty-clause-one_less c =
    let first = (goal.at.returns-then-is_empty-clause-one_less c).After-index in
    let at = (goal.at.returns-then-is_empty-clause-one_less c).After-remove in
    let none = nobody (mid at) c.args.at c.index-2.result.now (left at) c.is_empty.result c.index-2.ensures (here at) (c.is_empty.ensures ∙ ap (λ n. n == 0) c.index-2.result.now.waiters.ok.0) c.if-is_empty.true in
    rw (← c.self.view_is)
    (gone-total c.self.inside.slots.slots c.remove-gone.new.self.slots c.args.tag.now c.args.at c.index_mut.result.now (left at) c.self.invariant.0 c.index_mut.ensures.value (tagged at first (on first)) (λ j apart. c.remove-gone.ensures.updates.others j apart ∙ set-else c.self.inside.slots.slots c.args.at (left at) j apart) c.remove-gone.ensures.updates.changed none (shorter at))

pub invariant_of-self-else-is_empty : goal.invariant_of-self-else-is_empty
invariant_of-self-else-is_empty c =
    let first = (goal.at.invariant_of-self-else-is_empty c).After-index in
    let at = (goal.at.invariant_of-self-else-is_empty c).After-remove in
    let is = tagged at first (on first) in
    let some = somebody (mid at) c.args.at c.index-2.result.now (left at) c.is_empty.result c.index-2.ensures (here at) (c.is_empty.ensures ∙ ap (λ n. n == 0) c.index-2.result.now.waiters.ok.0) c.if-is_empty.false in
    let old = c.self.inside.slots.slots in (
      requeued-are old (mid at) c.args.tag.now c.args.at c.index_mut.result.now (left at) c.self.invariant.0 c.index_mut.ensures.value is (set-else old c.args.at (left at)) (here at) is some,
      omega (arith, mid-total at, c.self.invariant.1),
      c.self.invariant.2,
    )

pub returns-else-is_empty-clause-waits : goal.returns-else-is_empty-clause-waits
returns-else-is_empty-clause-waits c =
    let first = (goal.at.returns-else-is_empty-clause-waits c).After-index in
    let at = (goal.at.returns-else-is_empty-clause-waits c).After-remove in
    let is = tagged at first (on first) in
    let some = somebody (mid at) c.args.at c.index-2.result.now (left at) c.is_empty.result c.index-2.ensures (here at) (c.is_empty.ensures ∙ ap (λ n. n == 0) c.index-2.result.now.waiters.ok.0) c.if-is_empty.false in
    let old = c.self.inside.slots.slots in
    rw (← c.self.view_is)
    (requeued-queue old (mid at) c.args.tag.now c.args.at c.index_mut.result.now (left at) c.self.invariant.0 c.index_mut.ensures.value is (set-else old c.args.at (left at)) (here at) is some
    (queue_without (queue_on old c.args.tag.now) c.args.session) (without at is))

pub returns-else-is_empty-clause-one_less : goal.returns-else-is_empty-clause-one_less
returns-else-is_empty-clause-one_less c = rw (← c.self.view_is) (mid-total (goal.at.returns-else-is_empty-clause-one_less c).After-remove)

pub keep_larger-requires-clause-gone : goal.keep_larger-requires-clause-gone
keep_larger-requires-clause-gone c =
    let at = (goal.at.keep_larger-requires-clause-gone c).After-remove in
    let is = queue-record (mid at) c.args.at _ _ c.remove-gone.ensures.value (here at) in
    ap (λ (q : QueueRecord). q.waiters.items) is
    ∙ nobody (mid at) c.args.at c.index-2.result.now (left at) c.is_empty.result c.index-2.ensures (here at) (c.is_empty.ensures ∙ ap (λ n. n == 0) c.index-2.result.now.waiters.ok.0) c.if-is_empty.true

pub returns-then-is_empty-clause-room : goal.returns-then-is_empty-clause-room
returns-then-is_empty-clause-room c =
    let at = (goal.at.returns-then-is_empty-clause-room c).After-remove in
    rw (← c.self.view_is)
    (λ room. record {
      slot = let fits : count_by is_some c.remove-gone.new.self.slots < c.remove-gone.new.self.capacity = omega (arith, room.slot, same-count at, c.remove-gone.ensures.len, c.remove-gone.ensures.capacity) in fits;
      wait = omega (arith, room.wait, c.keep_larger.ensures.capacity);
    })

pub returns-else-is_empty-clause-room : goal.returns-else-is_empty-clause-room
returns-else-is_empty-clause-room c =
    let at = (goal.at.returns-else-is_empty-clause-room c).After-remove in
    rw (← c.self.view_is)
    (λ room. record { slot = let fits : count_by is_some (mid at) < c.self.inside.slots.capacity = omega (arith, room.slot, same-count at) in fits; wait = room.wait })

pub returns-then-is_empty-clause-in_queue : goal.returns-then-is_empty-clause-in_queue
returns-then-is_empty-clause-in_queue c =
    let first = (goal.at.returns-then-is_empty-clause-in_queue c).After-index in
    let at = (goal.at.returns-then-is_empty-clause-in_queue c).After-remove in
    let old = c.self.inside.slots.slots in
    rw (← c.self.view_is)
    (dropped-room old c.remove-gone.new.self.slots c.args.tag.now c.args.at c.index_mut.result.now (left at) c.self.invariant.0 c.index_mut.ensures.value (tagged at first (on first))
    (λ j apart. c.remove-gone.ensures.updates.others j apart ∙ set-else old c.args.at (left at) j apart) c.remove-gone.ensures.updates.changed)

pub returns-else-is_empty-clause-in_queue : goal.returns-else-is_empty-clause-in_queue
returns-else-is_empty-clause-in_queue c =
    let first = (goal.at.returns-else-is_empty-clause-in_queue c).After-index in
    let at = (goal.at.returns-else-is_empty-clause-in_queue c).After-remove in
    let is = tagged at first (on first) in
    let some = somebody (mid at) c.args.at c.index-2.result.now (left at) c.is_empty.result c.index-2.ensures (here at) (c.is_empty.ensures ∙ ap (λ n. n == 0) c.index-2.result.now.waiters.ok.0) c.if-is_empty.false in
    let old = c.self.inside.slots.slots in
    rw (← c.self.view_is)
    (requeued-room old (mid at) c.args.tag.now c.args.at c.index_mut.result.now (left at) c.self.invariant.0 c.index_mut.ensures.value is (set-else old c.args.at (left at)) (here at) is some
    c.remove.ensures.capacity (let fewer : vec_len c.remove.new.self ≤ vec_len c.index_mut.result.now.waiters = omega (arith, c.remove.ensures.len) in fewer))

-- the queue that is left has room for as many
mid-room : (c : After-remove) → room_in (mid c) ≡ room_in c.self.inside.slots.slots
mid-room c =
    let old = c.self.inside.slots.slots in
    room-rewritten old (mid c) c.args.at (set-else old c.args.at (left c)) c.index_mut.result.now (left c) c.index_mut.ensures.value (here c)
    c.remove.ensures.capacity

pub returns-then-is_empty-clause-no_memory_taken : goal.returns-then-is_empty-clause-no_memory_taken
returns-then-is_empty-clause-no_memory_taken c =
    let at = (goal.at.returns-then-is_empty-clause-no_memory_taken c).After-remove in
    let room = room-dropped (mid at) c.remove-gone.new.self.slots c.args.at c.remove-gone.ensures.updates.others (left at) (here at) c.remove-gone.ensures.updates.changed in
    let gone : vec_capacity c.remove-gone.result.waiters ≡ vec_capacity c.remove.new.self =
    ap (λ (q : QueueRecord). vec_capacity q.waiters) (queue-record (mid at) c.args.at _ _ c.remove-gone.ensures.value (here at)) in
    rw (← c.self.view_is) (record { records = c.remove-gone.ensures.capacity; waits = omega (arith, room, gone, mid-room at, c.keep_larger.ensures.no_memory_taken) })

pub returns-else-is_empty-clause-no_memory_taken : goal.returns-else-is_empty-clause-no_memory_taken
returns-else-is_empty-clause-no_memory_taken c =
    let at = (goal.at.returns-else-is_empty-clause-no_memory_taken c).After-remove in
    rw (← c.self.view_is) (record { records = refl; waits = omega (arith, mid-room at) })
