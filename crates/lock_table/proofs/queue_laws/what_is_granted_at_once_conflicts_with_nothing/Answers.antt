use Rattle.std.proofs.Common.{refl}
use Rattle.lock_table.specs.Clash.{first_waiter}
use Rattle.lock_table.proofs.Lemmas.QueueLaws.{no_clash-free}
use Rattle.lock_table.proofs.queue_laws.what_is_granted_at_once_conflicts_with_nothing.Goals as goal

pub returns : goal.returns
returns c = λ content s tag mode none. no_clash-free (first_waiter (content.waits tag) mode) content s tag mode refl none
