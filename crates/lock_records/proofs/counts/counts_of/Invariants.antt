use Rattle.std.proofs.Common.{◌≡◌, ◌+◌, ◌<◌, ℕ, length, get_or}
use Rattle.lock_records.proofs.counts.counts_of.Given as goal

abbrev pub invariant-loop-number : goal.invariant-loop-number
invariant-loop-number l = record {
  nine : length l.requested ≡ 9;
  asked : (k : ℕ) → k < l.number → get_or l.requested k 0 ≡ get_or l.granted k 0 + get_or l.awaited k 0;
}
