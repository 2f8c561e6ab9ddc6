use Rattle.std.proofs.Common.{map, sym, ap, ◌∙◌, subst}
use Rattle.lock_table.specs.Waiter.{shown_wait}
use Rattle.lock_records.specs.declared.wait_queues.QueueRecord.{QueueRecord}
use Rattle.lock_records.specs.Queues.{QueuesView, IsQueueAt}
use Rattle.lock_records.proofs.Lemmas.QueueWrites.{queue-is, queue-record}
use Rattle.lock_records.proofs.wait_queues.WaitQueues.waiters.Goals as goal

pub returns : goal.returns
returns c =
    let i = subst (λ (view : QueuesView). IsQueueAt view.slots c.args.tag.now c.args.at) (sym c.self.view_is) c.requires in
    rw (← c.self.view_is)
    (ap (map shown_wait) (c.as_slice.ensures.value ∙ ap (λ (q : QueueRecord). q.waiters.items) (queue-record c.self.inside.slots.slots c.args.at _ _ c.index.ensures i.there))
    ∙ sym (queue-is c.self.inside.slots.slots c.args.tag.now c.args.at c.self.invariant.0 i))
