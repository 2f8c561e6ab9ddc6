use Rattle.std.proofs.Common.{◌≡◌, ◌<◌, ◌+◌, vec_capacity, sym, ap, ◌∙◌, arith, inl, inr}
use Rattle.std.proofs.lemmas.Bool.{cases_Bool}
use Rattle.modes_core.specs.declared.modes.Mode.{Mode}
use Rattle.lock_records.specs.declared.locks.LockRecord.{LockRecord}
use Rattle.lock_records.specs.Counting.{awaited_of}
use Rattle.lock_records.specs.Tally.{counts_in}
use Rattle.lock_records.specs.Queues.{queue_on, room_in}
use Rattle.lock_records.proofs.Lemmas.Queues.{some-awaits, none-awaits}
use Rattle.lock_records.specs.Holders.{holds_in}
use Rattle.lock_records.specs.View.{RecordView}
use Rattle.lock_records.proofs.Lemmas.Changes.{objects-ungranted}
use Rattle.lock_records.proofs.Lemmas.Indexes.{noted-relocked, same-lock}
use Rattle.lock_records.proofs.Lemmas.Parts.{held-has, not-held-less}
use Rattle.lock_records.proofs.records.RecordsPartTable.ungrant.Goals as goal

pub unreachable-requires : goal.unreachable-requires
unreachable-requires c =
    held-has c.self.inside.locks.slots c.self.inside.holders.slots c.self.inside.queues.slots c.args.session c.args.tag.now c.args.mode c.self.invariant.objects
    (ap (λ (part : RecordView). holds_in part.holders c.args.session c.args.tag.now c.args.mode) c.self.view_is ∙ c.requires.held) (c.in_default.ensures {u = tt}).absent

pub remove_hold-requires-clause-held : goal.remove_hold-requires-clause-held
remove_hold-requires-clause-held c = λ i. ((c.self.invariant.objects c.args.tag.now).lock c.in-Some.place i).held

pub drop_empty-requires-clause-noted : goal.drop_empty-requires-clause-noted
drop_empty-requires-clause-noted c =
    noted-relocked c.self.inside.locks.slots c.remove_hold.new.locks.slots c.self.inside.index c.args.tag.now c.in-Some.place c.remove_hold.ensures.lock.0 c.self.invariant.noted

pub drop_empty-requires-clause-there : goal.drop_empty-requires-clause-there
drop_empty-requires-clause-there c = c.remove_hold.ensures.lock.0.is

pub invariant_of-self : goal.invariant_of-self
invariant_of-self c =
    let lock = c.remove_hold.ensures.lock in
    record {
      objects =
          objects-ungranted c.self.inside.locks.slots c.remove_hold.new.locks.slots c.drop_empty.new.locks.slots c.self.inside.holders.slots c.remove_hold.new.holders.slots c.self.inside.queues.slots
          c.args.session c.args.tag.now c.args.mode c.in-Some.place c.self.inside.index c.self.invariant.objects c.self.invariant.noted lock.0 lock.1 lock.2 c.remove_hold.ensures.set c.drop_empty.ensures.dropped;
      noted = c.drop_empty.ensures.noted;
      room = omega (arith, c.self.invariant.room, c.remove_hold.ensures.len, c.remove_hold.ensures.capacity);
      woken_room = c.self.invariant.woken_room;
      begun_new = λ request is.
          ap (λ holds. holds request.session request.tag request.mode) c.remove_hold.ensures.set.holds
          ∙ not-held-less (holds_in c.self.inside.holders.slots) c.args.session c.args.tag.now c.args.mode request.session request.tag request.mode (c.self.invariant.begun_new request is);
      begun_not_awaited = c.self.invariant.begun_not_awaited;
      begun_room = λ request is.
          let room = c.self.invariant.begun_room request is in
          record {
            lock = c.drop_empty.ensures.room (c.remove_hold.ensures.room room.lock);
            noted = c.drop_empty.ensures.places (omega (arith, room.noted, c.remove_hold.ensures.key));
            holder = omega (arith, room.holder, c.remove_hold.ensures.len, c.remove_hold.ensures.capacity);
            queue = room.queue;
          };
      begun_queue = c.self.invariant.begun_queue;
      begun_woken = c.self.invariant.begun_woken;
      absent = λ there. let no_way : ⊥ = cc in absurd no_way;
      known = λ there. let no_way : ⊥ = cc in absurd no_way;
    }

pub returns-clause-awaited : goal.returns-clause-awaited
returns-clause-awaited c =
    let is = ((c.self.invariant.objects c.args.tag.now).lock c.in-Some.place (c.in-Some.ensures {u = tt}).found).awaited in
    let same = same-lock c.self.inside.locks.slots c.in-Some.place c.index.result.now (c.in-Some.ensures {u = tt}).found.lock c.index.ensures (c.in-Some.ensures {u = tt}).found.there in
    let counted : (mode : Mode) → counts_in c.index.result.now.awaited mode ≡ awaited_of (queue_on c.self.inside.queues.slots c.args.tag.now) mode =
    λ mode. ap (λ (l : LockRecord). counts_in l.awaited mode) same ∙ is mode in
    rw (← c.self.view_is)
    (elim (cases_Bool c.is_awaited-awaited.result) [
      | inl met ↦
          let some = c.is_awaited-awaited.ensures.some met in
          met ∙ sym (some-awaits (queue_on c.self.inside.queues.slots c.args.tag.now) c.args.mode some.0 some.1 (let more : 0 < awaited_of (queue_on c.self.inside.queues.slots c.args.tag.now) some.0 = omega (arith, counted some.0, some.2) in more))
      | inr none ↦
          none ∙ sym (none-awaits (queue_on c.self.inside.queues.slots c.args.tag.now) c.args.mode (λ its hit. sym (counted its) ∙ c.is_awaited-awaited.ensures.none none its hit))
    ])

pub returns-clause-capacity : goal.returns-clause-capacity
returns-clause-capacity c =
    rw (← c.self.view_is)
    (λ i. record {
      locks = (c.drop_empty.ensures.capacity.0 ∙ c.remove_hold.ensures.locks_capacity) i;
      holders = c.remove_hold.ensures.capacity i;
      queues = c.self.inside.queues.capacity;
      waits = c.self.inside.queues.spare + room_in c.self.inside.queues.slots;
      woken = vec_capacity c.self.inside.woken;
      places = c.drop_empty.ensures.capacity.1 i;
    })
