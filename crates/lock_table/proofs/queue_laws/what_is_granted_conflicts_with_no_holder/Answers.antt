use Rattle.lock_table.proofs.Lemmas.Queues.{granted-no_holder}
use Rattle.lock_table.proofs.queue_laws.what_is_granted_conflicts_with_no_holder.Goals as goal

pub returns : goal.returns
returns c = λ content s tag mode answer. granted-no_holder content s tag mode answer
