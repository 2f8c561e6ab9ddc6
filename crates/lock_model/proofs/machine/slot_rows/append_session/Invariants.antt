use Rattle.std.proofs.Common.{◌≡◌, [], ◌++◌, get_or}
use Rattle.lock_model.specs.SlotRows.{lists_below, slot_rows}
use Rattle.lock_model.proofs.machine.slot_rows.append_session.Given as goal

abbrev pub invariant-loop-place : goal.invariant-loop-place
invariant-loop-place l = l.list.items ≡ l.fn.list.items ++ lists_below l.place (λ place. slot_rows l.session l.database place (get_or (get_or l.fast_path.slots l.session []) place 0))
