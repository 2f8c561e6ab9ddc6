use Rattle.std.proofs.Common.{◌≡◌, ℕ, count_by}
use Rattle.place_index.specs.Chains.{is_noted, note_at, IsLinkedTo}
use Rattle.place_index.proofs.chains.link_all.Given as goal

abbrev pub invariant-loop-place : goal.invariant-loop-place
invariant-loop-place l = record {
  linked : IsLinkedTo l.heads l.links l.place;
  notes : (k : ℕ) → note_at l.links k ≡ note_at l.initial.links k;
  counted : count_by is_noted l.links ≡ count_by is_noted l.initial.links;
}
