use Rattle.lock_table.proofs.Lemmas.Queues.{no_clash-granted}
use Rattle.lock_table.proofs.queue_laws.what_is_granted_at_once_need_not_wait.Goals as goal

pub returns : goal.returns
returns c = no_clash-granted
