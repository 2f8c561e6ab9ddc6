use Rattle.std.proofs.Common.{◌≡◌, [], ◌++◌, get_or}
use Rattle.lock_model.specs.SlotRows.{lists_below, session_rows}
use Rattle.lock_model.proofs.machine.slot_rows.append_slot_holds.Given as goal

abbrev pub invariant-loop-number : goal.invariant-loop-number
invariant-loop-number l =
    l.list.items ≡ l.fn.list.items ++ lists_below l.number (λ session. session_rows session (get_or l.fast_path.databases session 0) (get_or l.fast_path.slots session []))
