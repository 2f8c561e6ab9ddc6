use Rattle.std.proofs.Common.{◌≡◌, ℕ, ◌<◌, ◌≤◌, List, length, slice_set, sym, ap, ◌∙◌, inl, inr, arith}
use Rattle.std.specs.Prelude.{slice_index_or}
use Rattle.std.proofs.lemmas.Bool.{cases_eq}
use Rattle.std.proofs.lemmas.List.{get_or-set_same, get_or-set_other}
use Rattle.lock_table.specs.Put.{set_at}
use Rattle.lock_table.proofs.Lemmas.Put.{set_at-here, set_at-else}
use Rattle.lock_world.specs.SlotHolds.{used_in, ShowsNoMore}
use Rattle.lock_world.proofs.Lemmas.Slots.Used.{used-fewer}
use Rattle.fast_path.specs.Slots.{AreCounted}

-- Use counts, group by group.

-- A list with one number set, as a function.
pub counts-set :
    (counts : List ℕ) (group count : ℕ) → group < length counts
    → (λ k. slice_index_or (slice_set counts group count) k 0) ≡ set_at (λ k. slice_index_or counts k 0) group count
counts-set counts group count below = λ i k. at k i where
  at : (k : ℕ) → slice_index_or (slice_set counts group count) k 0
      ≡ set_at (λ j. slice_index_or counts j 0) group count k
  at k = elim (cases_eq k group) [
    | inl same ↦
        ap (λ j. slice_index_or (slice_set counts group count) j 0) same ∙ get_or-set_same counts group count 0 below
        ∙ sym (set_at-here (λ j. slice_index_or counts j 0) group count k same)
    | inr other ↦
        get_or-set_other counts group k count 0 other
        ∙ sym (set_at-else (λ j. slice_index_or counts j 0) group count k other)
  ]

-- Of slots that show no more there are enough counted.
pub counted-fewer :
    (slot before counts : ℕ → ℕ) → ShowsNoMore slot before → AreCounted before counts → AreCounted slot counts
counted-fewer slot before counts fewer enough group below =
    let fewer_used : used_in group slot ≤ used_in group before = used-fewer group slot before below fewer in
    let was : used_in group before ≤ counts group = enough group below in
    omega (arith, fewer_used, was)
