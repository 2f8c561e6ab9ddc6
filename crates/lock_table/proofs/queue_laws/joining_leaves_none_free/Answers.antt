use Rattle.lock_table.proofs.Lemmas.QueueLaws.{joined-none_free}
use Rattle.lock_table.proofs.queue_laws.joining_leaves_none_free.Goals as goal

pub returns : goal.returns
returns c = λ content s tag mode place answer none. joined-none_free content s tag mode place (content.holds s tag) answer none
