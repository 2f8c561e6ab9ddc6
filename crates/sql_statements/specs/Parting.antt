use Rattle.std.specs.Prelude.{ℕ, List, ◌++◌}
use Rattle.sql_statements.specs.Statements.{kept_of, kept_of_all}
use Rattle.sql_statements.specs.declared.statements.Parted.{Parted}

-- what was read so far: the words of the statements that have ended, and those of the one that is being
-- gathered
abbrev pub gathered : Parted → List (ℕ × List ℕ)
gathered parted = kept_of_all parted.statements.items ++ kept_of parted.words.items
