use Rattle.std.specs.Prelude.{◌≡◌, ℕ, Bool, false, List, Option, None, Some}
use Rattle.sql_script.specs.Known.{Known}
use Rattle.sql_script.specs.Lines.{IsHeardOf}
use Rattle.sql_script.specs.declared.lines.Heard.{Heard}
use Rattle.sql_script.specs.declared.lines.Heard.TheVariants.{Plain}

-- What is heard of a line, where a script speaks SQL and this is known of it, or speaks none.
abbrev pub IsHeardBy : Option Known → List ℕ → Heard → Type 0
IsHeardBy None line heard = heard ≡ Plain
IsHeardBy (Some known) line heard = IsHeardOf known line heard

-- A line says this, by what is known of the script's SQL by then, which is nothing where the script speaks
-- none.
abbrev pub IsSaid : Bool → List ℕ → Heard → Type 0
IsSaid speaks line heard = (known : Option Known) × (speaks ≡ false → known ≡ None) × IsHeardBy known line heard
