use Rattle.lock_table.proofs.Lemmas.QueueLaws.{release-not_own}
use Rattle.lock_table.proofs.queue_laws.a_release_wakes_none_of_its_own.Goals as goal

pub returns : goal.returns
returns c = λ before after s tag mode granted none wakes. release-not_own before after s tag mode granted none wakes
