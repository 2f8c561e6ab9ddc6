use Rattle.std.proofs.Common.{◌≡◌, subst}
use Rattle.modes_core.specs.declared.modes.Mode.{Mode}
use Rattle.lock_records.specs.declared.locks.LockRecord.{LockRecord}
use Rattle.lock_records.specs.Counting.{awaited_of}
use Rattle.lock_records.specs.Tally.{counts_in}
use Rattle.lock_records.specs.Queues.{queue_on}
use Rattle.lock_records.proofs.Lemmas.Indexes.{same-lock}
use Rattle.lock_records.proofs.Lemmas.Objects.{no-wait}
use Rattle.lock_records.proofs.records.Records.queue_of.Goals as goal

pub queue_place-requires : goal.queue_place-requires
queue_place-requires c =
    let i = (c.in-Some.ensures {u = tt}).found in
    subst (λ (l : LockRecord). (mode : Mode) → counts_in l.awaited mode ≡ awaited_of (queue_on c.self.inside.queues.slots c.args.tag.now) mode)
    (same-lock c.self.inside.locks.slots c.in-Some.place i.lock c.index.result.now i.there c.index.ensures) ((c.self.invariant.objects c.args.tag.now).lock c.in-Some.place i).awaited

pub returns-in-None-clause-absent : goal.returns-in-None-clause-absent
returns-in-None-clause-absent c =
    rw (← c.self.view_is)
    (no-wait c.self.inside.locks.slots c.self.inside.holders.slots (queue_on c.self.inside.queues.slots c.args.tag.now) c.args.tag.now (c.self.invariant.objects c.args.tag.now) (c.in-None.ensures {u = tt}).absent)
