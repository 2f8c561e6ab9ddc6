use Rattle.std.proofs.Common.{◌≡◌, take, ◌++◌}
use Rattle.std.specs.Prelude.{map}
use Rattle.lock_model.specs.PlainLists.{queued_of}
use Rattle.lock_model.proofs.machine.plain_lists.append_waits.Given as goal

abbrev pub invariant-loop-wait : goal.invariant-loop-wait
invariant-loop-wait l = l.list.items ≡ l.fn.list.items ++ map queued_of (take l.wait-index l.wait-items)
