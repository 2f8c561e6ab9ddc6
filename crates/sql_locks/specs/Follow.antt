use Rattle.std.specs.Prelude.{◌≡◌, ℕ, ◌≤◌, Bool, true, List, length, Contains, ◌⊎◌}
use Rattle.sql_locks.specs.declared.edges.Edge.{Edge}

-- The steps of one list were looked at, from the relations of the old list. The new list has those and the
-- ends of the steps that were taken; the rest are the steps that were not taken, since no relation of the
-- list is where they begin.
pub record IsFollowed (old : List ℕ) (seen : List Edge) (found : List ℕ) (rest : List Edge) : Type 0 where
  pub kept : (x : ℕ) → Contains old x → Contains found x
  pub taken : (edge : Edge) → Contains seen edge → Contains rest edge ⊎ Contains found edge.to
  pub sub : (edge : Edge) → Contains rest edge → Contains seen edge
  pub least : (is_in : ℕ → Bool) → ((x : ℕ) → Contains old x → is_in x ≡ true) →
      ((edge : Edge) → Contains seen edge → is_in edge.from ≡ true → is_in edge.to ≡ true) →
      (x : ℕ) → Contains found x → is_in x ≡ true
  pub shorter : length rest ≤ length seen
  pub stays : length rest ≡ length seen → (found ≡ old) × ((edge : Edge) → Contains seen edge → ¬ Contains old edge.from)
