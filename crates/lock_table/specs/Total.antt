use Rattle.std.specs.Prelude.{ℕ, ◌+◌, Bool, zero, suc, if◌then◌else◌}

-- the sum of what each number below the limit has
unfoldable pub total : ℕ → (ℕ → ℕ) → ℕ
total zero f = 0
total (suc limit) f = total limit f + f limit

-- how many numbers below the limit pass
abbrev pub how_many : ℕ → (ℕ → Bool) → ℕ
how_many limit test = total limit (λ k. if test k then 1 else 0)
