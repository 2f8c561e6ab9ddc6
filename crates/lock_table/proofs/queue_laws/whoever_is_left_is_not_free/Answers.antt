use Rattle.lock_table.proofs.Lemmas.QueueLaws.{woken-none_free}
use Rattle.lock_table.proofs.queue_laws.whoever_is_left_is_not_free.Goals as goal

pub returns : goal.returns
returns c = λ before after tag granted wakes. woken-none_free before tag granted after wakes
