use Rattle.std.proofs.Common.{◌≡◌, ℕ, ◌<◌, false}
use Rattle.lock_records.specs.Queues.{queue_at, is_queue_of}
use Rattle.lock_records.proofs.wait_queues.WaitQueues.find.Given as goal

abbrev pub invariant-loop-place : goal.invariant-loop-place
invariant-loop-place l = (k : ℕ) → k < l.place → is_queue_of l.tag (queue_at l.self.slots k) ≡ false
