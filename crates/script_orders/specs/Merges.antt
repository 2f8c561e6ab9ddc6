use Rattle.std.specs.Prelude.{◌≡◌, ℕ, ◌<◌, ◌≤◌, ◌+◌, List, length, slice_index}
use Rattle.std.specs.List.Sorted.{IsPermutation}

-- The first place at which two merges differ has the later session in the second one.
pub record ComesLater (old new : List ℕ) : Type 0 where
  pub place : ℕ
  pub within : place < length old
  pub front : (k : ℕ) → k < place → slice_index new k ≡ slice_index old k
  pub later : slice_index old place < slice_index new place

-- A merge of the same sessions lies between these two.
pub record LiesBetween (old new merge : List ℕ) : Type 0 where
  pub same : IsPermutation old merge
  pub behind : ComesLater old merge
  pub before : ComesLater merge new

-- From this place on no session comes before a later one.
abbrev pub IsDescendingFrom : ℕ → List ℕ → Type 0
IsDescendingFrom from merge = (k : ℕ) → from ≤ k → k + 1 < length merge →
    slice_index merge (k + 1) ≤ slice_index merge k

-- No session comes before a later one. So of all merges of these sessions this one is the last: none comes
-- later.
abbrev pub IsInDescendingOrder : List ℕ → Type 0
IsInDescendingOrder merge = (k : ℕ) → k + 1 < length merge → slice_index merge (k + 1) ≤ slice_index merge k
