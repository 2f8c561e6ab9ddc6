use Rattle.std.specs.Prelude.{ℕ, Bool, List, [], ◌∷◌, Option, Some, None, if◌then◌else◌}
use Rattle.std.specs.Str.{bytes_eq}
use Rattle.lock_script.specs.declared.commands.WordKind.{WordKind}
use Rattle.lock_script.specs.declared.commands.CommandRow.{CommandRow}

-- The table of commands, as the program has it.

-- what has to stand behind the command of this name by the first of these rows that has it, if one has
abbrev pub kinds_in : List ℕ → List CommandRow → Option (List WordKind)
kinds_in verb [] = None
kinds_in verb (row ∷ rows) = if bytes_eq verb row.verb.now then Some row.kinds.now else kinds_in verb rows

-- whether the first of these rows with this command's name says that the command only looks
abbrev pub looks_in : List ℕ → List CommandRow → Option Bool
looks_in verb [] = None
looks_in verb (row ∷ rows) = if bytes_eq verb row.verb.now then Some row.looks else looks_in verb rows
