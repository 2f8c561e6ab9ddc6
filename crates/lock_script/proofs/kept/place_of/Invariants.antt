use Rattle.std.proofs.Common.{◌≢◌, ℕ, ◌<◌, get_or}
use Rattle.lock_script.specs.declared.kept.KeptQueue.{KeptQueue}
use Rattle.lock_script.proofs.kept.place_of.Given as goal

abbrev pub invariant-loop-place : goal.invariant-loop-place
invariant-loop-place l = (k : ℕ) (d : KeptQueue) → k < l.place → (get_or l.queues k d).session.bytes ≢ l.session.bytes
