use Rattle.std.proofs.Common.{◌≡◌, List, Option, sym, subst}
use Rattle.lock_records.specs.declared.wait_queues.QueueRecord.{QueueRecord}
use Rattle.lock_records.specs.Queues.{AreQueues, waiting_in}
use Rattle.lock_records.proofs.Lemmas.QueueWrites.{queues-none, waiting-none}
use Rattle.lock_records.proofs.wait_queues.WaitQueues.new.Goals as goal

pub invariant_of-result : goal.invariant_of-result
invariant_of-result c = (
  subst (λ (slots : List (Option QueueRecord)). AreQueues slots) (sym c.new.ensures.empty) queues-none,
  subst (λ (slots : List (Option QueueRecord)). 0 ≡ waiting_in slots) (sym c.new.ensures.empty) (sym waiting-none),
  c.new-2.ensures.items,
)
