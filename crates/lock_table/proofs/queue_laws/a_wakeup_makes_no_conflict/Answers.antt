use Rattle.lock_table.proofs.Lemmas.QueueLaws.{woken-no_conflict}
use Rattle.lock_table.proofs.queue_laws.a_wakeup_makes_no_conflict.Goals as goal

pub returns : goal.returns
returns c = λ before after tag granted wakes apart. woken-no_conflict before tag granted after wakes apart
