use Rattle.std.proofs.Common.{◌≡◌, take, ◌++◌}
use Rattle.std.specs.Prelude.{map}
use Rattle.lock_model.specs.PlainLists.{table_hold_of}
use Rattle.lock_model.proofs.machine.plain_lists.append_holds.Given as goal

abbrev pub invariant-loop-hold : goal.invariant-loop-hold
invariant-loop-hold l = l.list.items ≡ l.fn.list.items ++ map table_hold_of (take l.hold-index l.hold-items)
