use Rattle.std.specs.Prelude.{ℕ, List, [], ◌∷◌, ◌++◌, Bool, Option, Some, None}
use Rattle.scenario.specs.Heard.{Heard}
use Rattle.scenario.specs.Printed.{line_at, text_heard}
use Rattle.scenario.specs.declared.style.Form.{Form}

-- What is written of all that is heard.

-- a part and the others, where both are known
abbrev pub joined : Option (List ℕ) → Option (List ℕ) → Option (List ℕ)
joined None later = None
joined (Some first) None = None
joined (Some first) (Some later) = Some (first ++ later)

-- the text of all that is heard, one after another
abbrev pub text_of_all : Form → Bool → ℕ → List Heard → Option (List ℕ)
text_of_all form is_echoing line [] = Some []
text_of_all form is_echoing line (first ∷ others) =
    joined (text_heard form is_echoing line first) (text_of_all form is_echoing (line_at line first) others)
