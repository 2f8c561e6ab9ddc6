use Rattle.std.proofs.Common.{ℕ, ◌+◌, ◌<◌, ◌≤◌, length, slice_index, IfSome, IfNone}
use Rattle.script_orders.proofs.merges.last_ascent.Given as goal

abbrev pub invariant-places : goal.invariant-places
invariant-places l = record {
  ascent : IfSome l.found (λ place. (place + 1 < length l.merge)
      × (slice_index l.merge place < slice_index l.merge (place + 1)));
  descending : IfSome l.found (λ place. (k : ℕ) → place + 1 ≤ k → k < l.place →
      slice_index l.merge (k + 1) ≤ slice_index l.merge k);
  none : IfNone l.found ((k : ℕ) → k < l.place → slice_index l.merge (k + 1) ≤ slice_index l.merge k);
}
