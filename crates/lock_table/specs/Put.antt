use Rattle.std.specs.Prelude.{ℕ, Bool, ◌==◌, if◌then◌else◌}

-- A function changed at one argument: the one way in which a table of this repository changes. `same` tells
-- arguments apart.
abbrev pub put : {K A : Type 0} → (K → K → Bool) → (K → A) → K → A → K → A
put same f k a j = if same j k then a else f j

-- a function of numbers, changed at one of them
abbrev pub set_at : {A : Type 0} → (ℕ → A) → ℕ → A → ℕ → A
set_at f k a = put (λ i j. i == j) f k a
