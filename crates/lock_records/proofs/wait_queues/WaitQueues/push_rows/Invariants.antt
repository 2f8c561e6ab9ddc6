use Rattle.lock_records.specs.Rows.{AppendsRows, awaited_below}
use Rattle.lock_records.proofs.wait_queues.WaitQueues.push_rows.Given as goal

abbrev pub invariant-loop-place : goal.invariant-loop-place
invariant-loop-place l = AppendsRows l.fn.rows.items l.rows.items (awaited_below l.self.slots l.place)
