use Rattle.std.proofs.Common.{◌≡◌, ◌<◌, true, length}
use Rattle.place_index.specs.Chains.{note_at, next_at, is_in, start_of}
use Rattle.place_index.proofs.chains.unlink_behind.Given as goal

abbrev pub invariant-loop-next : goal.invariant-loop-next
invariant-loop-next l = record {
  within : l.before < length l.links;
  behind : l.place < l.before;
  there : is_in (length l.heads) (start_of (length l.heads) l.hash) (note_at l.links l.before) ≡ true;
  next : l.next ≡ next_at l.links l.before;
}

abbrev pub decreases-loop-next : goal.decreases-loop-next
decreases-loop-next l = l.before
