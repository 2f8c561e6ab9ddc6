use Rattle.lock_table.proofs.Lemmas.QueueLaws.{one_wakes}
use Rattle.lock_table.proofs.queue_laws.there_is_one_wakeup.Goals as goal

pub returns : goal.returns
returns c = λ before after its tag granted other one two. one_wakes before tag granted other after its one two
