use Rattle.std.proofs.Common.{◌≡◌, subst, rules}
use Rattle.modes_core.specs.declared.modes.Mode.{Mode}
use Rattle.lock_records.specs.declared.locks.LockRecord.{LockRecord}
use Rattle.lock_records.specs.Counting.{awaited_of}
use Rattle.lock_records.specs.Tally.{counts_in}
use Rattle.lock_records.specs.Queues.{queue_on}
use Rattle.lock_records.proofs.Lemmas.Indexes.{same-lock}
use Rattle.lock_records.proofs.Lemmas.QueueWrites.{queues-unchanged}
use Rattle.lock_records.proofs.objects.make_room_in_queue.Goals as goal

pub index-requires : goal.index-requires
index-requires c =
    let its = c.requires.counted c.in-Some.place c.in-Some.is in
    rw its.at.there (search rules)

pub queue_place-requires : goal.queue_place-requires
queue_place-requires c =
    let its = c.requires.counted c.in-Some.place c.in-Some.is in
    subst (λ (l : LockRecord). (mode : Mode) → counts_in l.awaited mode ≡ awaited_of (queue_on c.args.queues.now.slots c.args.tag.now) mode)
    (same-lock c.args.locks.now.slots c.in-Some.place its.at.lock c.index.result.now its.at.there c.index.ensures) its.awaited

pub returns-in_default-clause-room : goal.returns-in_default-clause-room
returns-in_default-clause-room c = λ some. absurd (some (c.requires.absent c.in_default.is))

pub returns-in_default-clause-same : goal.returns-in_default-clause-same
returns-in_default-clause-same c = queues-unchanged c.args.queues.now
