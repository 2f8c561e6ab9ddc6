use Rattle.std.proofs.Common.{◌≡◌, ℕ, ◌+◌, ◌≤◌, true, false, cond, eqb, length}
use Rattle.place_index.specs.Chains.{end_of_chain, note_at, is_under, chain, start_of, IsLast}
use Rattle.place_index.proofs.chains.find.Given as goal

abbrev pub invariant-loop-at : goal.invariant-loop-at
invariant-loop-at g l =
    (n : ℕ) × (n ≤ length l.links) × IsLast (chain (length l.heads) (note_at l.links) (start_of (length l.heads) l.hash)) n l.at
    × ((p : ℕ) → n ≤ p → is_under l.hash (note_at l.links p) ≡ true → goal.F-post g l.is_it p false)

abbrev pub decreases-loop-at : goal.decreases-loop-at
decreases-loop-at g l = cond (eqb l.at end_of_chain) 0 (l.at + 1)
