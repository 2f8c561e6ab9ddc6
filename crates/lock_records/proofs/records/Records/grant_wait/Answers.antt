use Rattle.std.proofs.Common.{◌≡◌, ℕ, true, List, sym, ap, ◌∙◌, subst, arith}
use Rattle.std.proofs.lemmas.Bool.{both_ways, false≢true}
use Rattle.modes_core.specs.declared.modes.Mode.{Mode}
use Rattle.modes_core.specs.declared.tags.Tag.{Tag}
use Rattle.lock_table.specs.Content.{Wait}
use Rattle.lock_table.specs.Queue.{awaits_mode}
use Rattle.lock_records.specs.Queues.{queue_on, IsQueueAt}
use Rattle.lock_records.specs.Holders.{holds_in}
use Rattle.lock_records.specs.Objects.{IsHeldLock}
use Rattle.lock_records.specs.View.{RecordView}
use Rattle.lock_records.proofs.Lemmas.Changes.{objects-woken, held-awaited}
use Rattle.lock_records.proofs.Lemmas.Indexes.{noted-relocked, same-lock}
use Rattle.lock_records.proofs.Lemmas.Parts.{awaited-has, not-held-more, not-awaited-left, counts-awaited}
use Rattle.lock_records.proofs.Lemmas.Queues.{awaits-there}
use Rattle.lock_records.proofs.records.Records.grant_wait.Goals as goal
use Rattle.lock_records.proofs.records.Records.grant_wait.Goals.{After-find_lock}

awaits : (c : After-find_lock) → awaits_mode (queue_on c.self.inside.queues.slots c.args.tag.now) c.args.session c.args.mode ≡ true
awaits c = ap (λ (part : RecordView). awaits_mode (queue_on part.queues c.args.tag.now) c.args.session c.args.mode) c.self.view_is ∙ c.requires

pub unreachable-requires : goal.unreachable-requires
unreachable-requires c = false≢true (ap (λ (queue : List Wait). awaits_mode queue c.args.session c.args.mode) (sym (c.in_default.ensures {u = tt}).absent) ∙ c.requires)

pub unreachable-requires-in_default-find_lock : goal.unreachable-requires-in_default-find_lock
unreachable-requires-in_default-find_lock c =
    awaited-has c.self.inside.locks.slots c.self.inside.holders.slots c.self.inside.queues.slots c.args.session c.args.tag.now c.args.mode c.self.invariant.objects
    (awaits (goal.at.unreachable-requires-in_default-find_lock c).After-find_lock) (c.in_default-find_lock.ensures {u = tt}).absent

pub leave-requires-clause-there : goal.leave-requires-clause-there
leave-requires-clause-there c = subst (λ (part : RecordView). IsQueueAt part.queues c.args.tag.now c.in-Some.at) (sym c.self.view_is) (c.in-Some.ensures {u = tt}).found

pub leave-requires-clause-waits : goal.leave-requires-clause-waits
leave-requires-clause-waits c =
    awaits-there (queue_on c.self.inside.queues.slots c.args.tag.now) c.args.session c.args.mode (awaits (goal.at.leave-requires-clause-waits c).After-find_lock)

pub leave-requires-clause-once : goal.leave-requires-clause-once
leave-requires-clause-once c = (c.self.invariant.objects c.args.tag.now).waiting.one_each c.args.session

pub lower_awaited-requires-clause-some : goal.lower_awaited-requires-clause-some
lower_awaited-requires-clause-some c =
    counts-awaited c.self.inside.locks.slots c.self.inside.holders.slots c.self.inside.queues.slots c.args.session c.args.tag.now c.args.mode c.in-Some-find_lock.place c.self.invariant.objects
    (awaits (goal.at.lower_awaited-requires-clause-some c).After-find_lock)

pub add_hold-requires-clause-held : goal.add_hold-requires-clause-held
add_hold-requires-clause-held c = λ i.
    let lock = c.lower_awaited.ensures.lock in
    let was = lock.0.was in
    subst (IsHeldLock c.self.inside.holders.slots c.args.tag.now) (same-lock c.lower_awaited.new.locks.slots c.in-Some-find_lock.place lock.0.is.lock i.lock lock.0.is.there i.there)
    (held-awaited c.self.inside.holders.slots c.args.tag.now was.lock lock.0.is.lock ((c.self.invariant.objects c.args.tag.now).lock c.in-Some-find_lock.place was).held lock.1 lock.2)

pub add_hold-requires-clause-there : goal.add_hold-requires-clause-there
add_hold-requires-clause-there c = c.lower_awaited.ensures.lock.0.is

pub add_hold-requires-clause-new : goal.add_hold-requires-clause-new
add_hold-requires-clause-new c = (c.self.invariant.objects c.args.tag.now).waiting.apart c.args.session c.args.mode (awaits (goal.at.add_hold-requires-clause-new c).After-find_lock)

pub add_hold-requires-clause-room : goal.add_hold-requires-clause-room
add_hold-requires-clause-room c = omega (arith, c.self.invariant.room, c.leave.ensures.one_less)

pub invariant_of-self : goal.invariant_of-self
invariant_of-self c =
    let there = awaits (goal.at.invariant_of-self c).After-find_lock in
    let lower = c.lower_awaited.ensures.lock in
    let add = c.add_hold.ensures.lock in
    record {
      objects =
          objects-woken c.self.inside.locks.slots c.lower_awaited.new.locks.slots c.add_hold.new.locks.slots c.self.inside.holders.slots c.add_hold.new.holders.slots
          c.self.inside.queues.slots c.leave.new.self.slots c.args.session c.args.mode c.args.tag.now c.in-Some-find_lock.place c.self.inside.index c.self.invariant.objects c.self.invariant.noted
          lower.0 lower.3 c.leave.ensures.waits there add.0 add.1 add.2 c.add_hold.ensures.set;
      noted =
          noted-relocked c.lower_awaited.new.locks.slots c.add_hold.new.locks.slots c.self.inside.index c.args.tag.now c.in-Some-find_lock.place add.0
          (noted-relocked c.self.inside.locks.slots c.lower_awaited.new.locks.slots c.self.inside.index c.args.tag.now c.in-Some-find_lock.place lower.0 c.self.invariant.noted);
      room = omega (arith, c.self.invariant.room, c.leave.ensures.one_less, c.add_hold.ensures.len, c.add_hold.ensures.capacity);
      woken_room = omega (arith, c.self.invariant.woken_room, c.leave.ensures.one_less);
      begun_new = λ request is.
          let none = c.self.invariant.begun_not_awaited request is in
          ap (λ holds. holds request.session request.tag request.mode) c.add_hold.ensures.set.holds
          ∙ not-held-more (holds_in c.self.inside.holders.slots) c.args.session c.args.tag.now c.args.mode request.session request.tag request.mode
          (λ same.
          both_ways _ none (ap (λ (s : ℕ). awaits_mode (queue_on c.self.inside.queues.slots request.tag) s request.mode) same.0
          ∙ ap (λ (t : Tag). awaits_mode (queue_on c.self.inside.queues.slots t) c.args.session request.mode) same.1
          ∙ ap (λ (m : Mode). awaits_mode (queue_on c.self.inside.queues.slots c.args.tag.now) c.args.session m) same.2 ∙ there))
          (c.self.invariant.begun_new request is);
      begun_not_awaited = λ request is.
          not-awaited-left c.self.inside.queues.slots c.leave.new.self.slots c.args.session c.args.tag.now c.leave.ensures.waits request.session request.tag request.mode (c.self.invariant.begun_not_awaited request is);
      begun_room = λ request is.
          let room = c.self.invariant.begun_room request is in
          record {
            lock = c.add_hold.ensures.room (c.lower_awaited.ensures.room room.lock);
            noted = omega (arith, room.noted, c.add_hold.ensures.key, c.lower_awaited.ensures.key);
            holder = omega (arith, room.holder, c.leave.ensures.one_less, c.add_hold.ensures.len, c.add_hold.ensures.capacity);
            queue = c.leave.ensures.room room.queue;
          };
      begun_queue = λ request is. c.leave.ensures.in_queue request.tag (c.self.invariant.begun_queue request is);
      begun_woken = λ request is. omega (arith, c.self.invariant.begun_woken request is, c.leave.ensures.one_less);
      absent = λ there. let no_way : ⊥ = cc in absurd no_way;
      known = λ there. let no_way : ⊥ = cc in absurd no_way;
    }

pub returns-clause-content : goal.returns-clause-content
returns-clause-content c = rw (← c.self.view_is) (λ i. record { holds = c.add_hold.ensures.set.holds i; waits = c.leave.ensures.waits i })

pub returns-clause-no_memory_taken : goal.returns-clause-no_memory_taken
returns-clause-no_memory_taken c =
    rw (← c.self.view_is)
    (record {
      locks = omega (arith, c.add_hold.ensures.locks_capacity, c.lower_awaited.ensures.locks_capacity);
      holders = omega (arith, c.add_hold.ensures.capacity);
      queues = omega (arith, c.leave.ensures.no_memory_taken.records);
      waits = c.leave.ensures.no_memory_taken.waits;
      woken = omega arith;
      places = omega arith;
    })
