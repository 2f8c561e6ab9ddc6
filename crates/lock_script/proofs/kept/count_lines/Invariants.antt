use Rattle.std.proofs.Common.{◌≡◌, ◌-◌, ◌^◌, min, take}
use Rattle.lock_script.specs.Kept.{kept_count}
use Rattle.lock_script.proofs.kept.count_lines.Given as goal

abbrev pub invariant-loop-queue : goal.invariant-loop-queue
invariant-loop-queue l = l.lines ≡ min (kept_count (take l.queue-index l.queues)) (2 ^ 64 - 1)
