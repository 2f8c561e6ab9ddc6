use Rattle.std.proofs.Common.{◌≡◌, take, vec_len, vec_capacity}
use Rattle.lock_table.proofs.part_lists.copy_of.Given as goal

abbrev pub invariant-loop-entry : goal.invariant-loop-entry
invariant-loop-entry g l = record {
  copied : l.copy.items ≡ take l.entry-index l.entry-items;
  number : vec_len l.copy ≡ l.entry-index;
  room : vec_capacity l.copy ≡ vec_capacity l.list;
}
