use Rattle.std.proofs.Common.{◌≡◌, ◌≤◌, false, length, drop}
use Rattle.std.specs.List.{list_any}
use Rattle.lock_table.specs.Request.{is_request_of}
use Rattle.lock_table.proofs.part_lists.index_of_hold.Given as goal

abbrev pub invariant-loop-left : goal.invariant-loop-left
invariant-loop-left l =
    record {
      within : l.left ≤ length l.holds;
      none_behind : list_any (λ hold. is_request_of hold l.session l.tag l.mode) (drop l.left l.holds) ≡ false;
    }

abbrev pub decreases-loop-left : goal.decreases-loop-left
decreases-loop-left l = l.left
