use Rattle.std.proofs.Common.{ℕ, ◌<◌, ◌≤◌, length, slice_index}
use Rattle.script_orders.proofs.merges.last_above.Given as goal

abbrev pub invariant-places : goal.invariant-places
invariant-places l = record {
  behind : l.place < l.found;
  within : l.found < length l.merge;
  above : slice_index l.merge l.place < slice_index l.merge l.found;
  last : (k : ℕ) → l.found < k → k < l.other → slice_index l.merge k ≤ slice_index l.merge l.place;
}
