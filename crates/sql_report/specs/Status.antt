use Rattle.std.specs.Prelude.{ℕ, List, [], ◌∷◌}
use Rattle.sql_report.specs.declared.options.FailOn.{FailOn}
use Rattle.sql_report.specs.declared.options.FailOn.TheVariants.{Nothing, Reads, Writes}

-- The status of what was said of all statements: 4 where one keeps those waiting whom the words name, else 0.
-- The lines are those of the statements that keep reads and writes waiting.
abbrev pub status_for : FailOn → List ℕ → List ℕ → ℕ
status_for Nothing reads writes = 0
status_for Reads [] writes = 0
status_for Reads (line ∷ lines) writes = 4
status_for Writes reads [] = 0
status_for Writes reads (line ∷ lines) = 4
