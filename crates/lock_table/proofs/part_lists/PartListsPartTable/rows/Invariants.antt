use Rattle.std.proofs.Common.{◌≡◌, ◌+◌, ◌-◌, ◌≤◌, take, ◌++◌, vec_len, vec_capacity, length}
use Rattle.std.specs.Prelude.{map}
use Rattle.lock_table.specs.PartView.{row_of}
use Rattle.lock_table.specs.PartWaits.{awaited_row_of}
use Rattle.lock_table.proofs.part_lists.PartListsPartTable.rows.Given as goal

abbrev pub invariant-loop-hold : goal.invariant-loop-hold
invariant-loop-hold l =
    record {
      appended : l.rows.items ≡ l.fn.rows.items ++ map row_of (take l.hold-index l.hold-items);
      room : vec_len l.rows + (length l.hold-items - l.hold-index) + length l.self.waits ≤ vec_capacity l.rows;
    }

abbrev pub invariant-loop-wait : goal.invariant-loop-wait
invariant-loop-wait l =
    record {
      appended : l.rows.items ≡ (l.fn.rows.items ++ map row_of l.self.holds) ++ map awaited_row_of (take l.wait-index l.wait-items);
      room : vec_len l.rows + (length l.wait-items - l.wait-index) ≤ vec_capacity l.rows;
    }
