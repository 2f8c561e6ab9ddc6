use Rattle.std.specs.Prelude.{◌≡◌, ◌==◌, ℕ, List, length, map, slice_index}
use Rattle.std.specs.List.{filter, range_with_len}
use Rattle.script_orders.specs.declared.steps.Step.{Step}

-- the lines of a session among those that were run, by their places among its own, one after the other
abbrev pub lines_of : ℕ → List Step → List ℕ
lines_of session steps = map (λ (step : Step). step.line) (filter (λ (step : Step). step.session == session) steps)

-- Of each session its first lines were run, each once and in its own order.
abbrev pub IsInOwnOrder : List Step → Type 0
IsInOwnOrder steps = (session : ℕ) → lines_of session steps ≡ range_with_len 0 (length (lines_of session steps))

-- Of each session its first lines were run, as many as are counted for it, each once and in its own order.
abbrev pub KeepsOwnOrder : List Step → List ℕ → Type 0
KeepsOwnOrder steps taken = (session : ℕ) → lines_of session steps ≡ range_with_len 0 (slice_index taken session)
