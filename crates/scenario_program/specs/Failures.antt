use Rattle.std.specs.Prelude.{ℕ, List, [], ◌∷◌, ◌++◌, Option, Some, None, String, string_bytes}
use Rattle.lock_script.specs.Fault.{fault_text}
use Rattle.lock_script.specs.declared.faults.Fault.{Fault}
use Rattle.scenario_program.specs.declared.failures.Failure.{Failure}

-- What is said of a failure.

-- the line of a fault, to the letter, or what is told in its place
abbrev pub first_line : {A : Type 0} → Fault → Option (String A) → List ℕ
first_line fault None = fault_text fault ++ 10 ∷ []
first_line fault (Some told) = string_bytes told

-- what may help a person, or nothing
abbrev pub hint_lines : {A : Type 0} → Option (String A) → List ℕ
hint_lines None = []
hint_lines (Some hint) = string_bytes hint

-- the first line, and behind it the hint
abbrev pub failure_text : Failure → List ℕ
failure_text failure = first_line failure.fault failure.told ++ hint_lines failure.hint
