use Rattle.std.proofs.Common.{◌≡◌, true, sym, ◌∙◌, subst, arith}
use Rattle.lock_table.specs.Queue.{awaits_mode}
use Rattle.lock_records.specs.Queues.{queue_on, IsQueueAt}
use Rattle.lock_records.specs.Holders.{holds_in}
use Rattle.lock_records.specs.View.{RecordView}
use Rattle.lock_records.proofs.Lemmas.Changes.{objects-left}
use Rattle.lock_records.proofs.Lemmas.Indexes.{noted-relocked}
use Rattle.lock_records.proofs.Lemmas.Parts.{awaited-has, not-awaited-left, counts-awaited, unchanged-left}
use Rattle.lock_records.proofs.Lemmas.Queues.{awaits-there, wait-mode}
use Rattle.lock_records.proofs.records.RecordsPartTable.leave.Goals as goal
use Rattle.lock_records.proofs.records.RecordsPartTable.leave.Goals.{In_ok-mode}

pub awaited_mode-requires : goal.awaited_mode-requires
awaited_mode-requires c = subst (λ (part : RecordView). IsQueueAt part.queues c.args.tag.now c.in_ok-at.at) (sym c.self.view_is) (c.in_ok-at.ensures {u = tt}).found

awaits : (c : In_ok-mode) → awaits_mode (queue_on c.self.inside.queues.slots c.args.tag.now) c.args.session c.in_ok-mode.mode ≡ true
awaits c = wait-mode (queue_on c.self.inside.queues.slots c.args.tag.now) c.args.session c.in_ok-mode.mode (sym c.awaited_mode.ensures ∙ c.in_ok-mode.was)

pub unreachable-requires : goal.unreachable-requires
unreachable-requires c =
    awaited-has c.self.inside.locks.slots c.self.inside.holders.slots c.self.inside.queues.slots c.args.session c.args.tag.now c.in_ok-mode.mode c.self.invariant.objects
    (awaits (goal.at.unreachable-requires c).In_ok-mode) (c.in_default.ensures {u = tt}).absent

pub leave-requires-clause-there : goal.leave-requires-clause-there
leave-requires-clause-there c = subst (λ (part : RecordView). IsQueueAt part.queues c.args.tag.now c.in_ok-at.at) (sym c.self.view_is) (c.in_ok-at.ensures {u = tt}).found

pub leave-requires-clause-waits : goal.leave-requires-clause-waits
leave-requires-clause-waits c =
    awaits-there (queue_on c.self.inside.queues.slots c.args.tag.now) c.args.session c.in_ok-mode.mode (awaits (goal.at.leave-requires-clause-waits c).In_ok-mode)

pub leave-requires-clause-once : goal.leave-requires-clause-once
leave-requires-clause-once c = (c.self.invariant.objects c.args.tag.now).waiting.one_each c.args.session

pub lower_awaited-requires-clause-some : goal.lower_awaited-requires-clause-some
lower_awaited-requires-clause-some c =
    counts-awaited c.self.inside.locks.slots c.self.inside.holders.slots c.self.inside.queues.slots c.args.session c.args.tag.now c.in_ok-mode.mode c.in-Some.place c.self.invariant.objects
    (awaits (goal.at.lower_awaited-requires-clause-some c).In_ok-mode)

pub drop_empty-requires-clause-noted : goal.drop_empty-requires-clause-noted
drop_empty-requires-clause-noted c =
    noted-relocked c.self.inside.locks.slots c.lower_awaited.new.locks.slots c.self.inside.index c.args.tag.now c.in-Some.place c.lower_awaited.ensures.lock.0 c.self.invariant.noted

pub drop_empty-requires-clause-there : goal.drop_empty-requires-clause-there
drop_empty-requires-clause-there c = c.lower_awaited.ensures.lock.0.is

pub invariant_of-self : goal.invariant_of-self
invariant_of-self c =
    let there = awaits (goal.at.invariant_of-self c).In_ok-mode in
    let lower = c.lower_awaited.ensures.lock in
    record {
      objects =
          objects-left c.self.inside.locks.slots c.lower_awaited.new.locks.slots c.drop_empty.new.locks.slots c.self.inside.holders.slots
          c.self.inside.queues.slots c.leave.new.self.slots c.args.session c.in_ok-mode.mode c.args.tag.now c.in-Some.place c.self.inside.index c.self.invariant.objects c.self.invariant.noted
          lower.0 lower.1 lower.2 lower.3 c.leave.ensures.waits there c.drop_empty.ensures.dropped;
      noted = c.drop_empty.ensures.noted;
      room = omega (arith, c.self.invariant.room, c.leave.ensures.one_less);
      woken_room = omega (arith, c.self.invariant.woken_room, c.leave.ensures.one_less);
      begun_new = c.self.invariant.begun_new;
      begun_not_awaited = λ request is.
          not-awaited-left c.self.inside.queues.slots c.leave.new.self.slots c.args.session c.args.tag.now c.leave.ensures.waits request.session request.tag request.mode (c.self.invariant.begun_not_awaited request is);
      begun_room = λ request is.
          let room = c.self.invariant.begun_room request is in
          record {
            lock = c.drop_empty.ensures.room (c.lower_awaited.ensures.room room.lock);
            noted = c.drop_empty.ensures.places (omega (arith, room.noted, c.lower_awaited.ensures.key));
            holder = omega (arith, room.holder, c.leave.ensures.one_less);
            queue = c.leave.ensures.room room.queue;
          };
      begun_queue = λ request is. c.leave.ensures.in_queue request.tag (c.self.invariant.begun_queue request is);
      begun_woken = λ request is. omega (arith, c.self.invariant.begun_woken request is, c.leave.ensures.one_less);
      absent = λ there. let no_way : ⊥ = cc in absurd no_way;
      known = λ there. let no_way : ⊥ = cc in absurd no_way;
    }

pub returns-clause-mode : goal.returns-clause-mode
returns-clause-mode c = rw (← c.self.view_is) (sym c.in_ok-mode.was ∙ c.awaited_mode.ensures)

pub returns-clause-content : goal.returns-clause-content
returns-clause-content c = rw (← c.self.view_is) (λ i. record { holds = holds_in c.self.inside.holders.slots; waits = c.leave.ensures.waits i })

pub returns-in_err-mode-clause-content : goal.returns-in_err-mode-clause-content
returns-in_err-mode-clause-content c =
    let none = sym c.awaited_mode.ensures ∙ c.in_err-mode.was in
    let same = unchanged-left c.self.inside.queues.slots c.args.session c.args.tag.now none in
    rw (← c.self.view_is) (λ i. record { holds = holds_in c.self.inside.holders.slots; waits = same i })

pub returns-clause-no_memory_taken : goal.returns-clause-no_memory_taken
returns-clause-no_memory_taken c =
    rw (← c.self.view_is)
    (record {
      locks = omega (arith, c.drop_empty.ensures.capacity.0, c.lower_awaited.ensures.locks_capacity);
      holders = omega arith;
      queues = omega (arith, c.leave.ensures.no_memory_taken.records);
      waits = c.leave.ensures.no_memory_taken.waits;
      woken = omega arith;
      places = omega (arith, c.drop_empty.ensures.capacity.1);
    })
