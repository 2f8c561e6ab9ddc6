use Rattle.lock_table.proofs.Lemmas.QueueLaws.{woken-split}
use Rattle.lock_table.proofs.queue_laws.a_wakeup_splits_the_queue.Goals as goal

pub returns : goal.returns
returns c = λ before after tag granted wakes. woken-split before tag granted after wakes
