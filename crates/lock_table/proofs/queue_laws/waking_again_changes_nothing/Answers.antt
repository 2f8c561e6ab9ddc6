use Rattle.lock_table.proofs.Lemmas.QueueLaws.{woken-none_free, none_free-wakes}
use Rattle.lock_table.proofs.queue_laws.waking_again_changes_nothing.Goals as goal

pub returns : goal.returns
returns c = λ before after again tag granted more first second. none_free-wakes after tag more again (woken-none_free before tag granted after first) second
