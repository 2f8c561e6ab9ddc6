use Rattle.std.specs.Prelude.{◌≡◌, ℕ, ⊤, List, [], ◌∷◌, ◌++◌, Bool, true, false, if◌then◌else◌, Option, Some, None, IfSome, codes, option_map}
use Rattle.std.specs.Io.KnownBytes.{Appends}
use Rattle.serde_json.specs.Data.{Data}
use Rattle.serde_json.specs.Written.{compact_text}
use Rattle.scenario.specs.Heard.{Heard, Line, Told, Listed, Behind, Drawn, Helped, Done, Kept, Ended, Left}
use Rattle.scenario.specs.Json.{left_data, line_data, row_data, said_data}
use Rattle.scenario.specs.Texts.{left_text, row_text, said_text}
use Rattle.scenario.specs.declared.output.Output.{Output}
use Rattle.scenario.specs.declared.style.Form.{Form}
use Rattle.scenario.specs.declared.style.Form.TheVariants.{Text, Json}

-- What is printed of what is heard.

-- the line that is answered, once this is heard
abbrev pub line_at : ℕ → Heard → ℕ
line_at line (Line number text) = number
line_at line _ = line

-- a line of the output: the text, and a line feed
abbrev pub text_line : List ℕ → List ℕ
text_line text = text ++ 10 ∷ []

-- a line of the output: an object of JSON, and a line feed
abbrev pub data_line : Data → List ℕ
data_line shown = compact_text shown ++ 10 ∷ []

-- the form of a run that is to print JSON, or text
abbrev pub IsFormOf : Bool → Form → Type 0
IsFormOf true Text = ⊥
IsFormOf true (Json alloc) = ⊤
IsFormOf false Text = ⊤
IsFormOf false (Json alloc) = ⊥

-- The text of what is heard, in this form, with the lines of the script or without, where this line is
-- answered. Of a picture nothing is said, and in JSON of a few rows.
abbrev pub text_heard : Form → Bool → ℕ → Heard → Option (List ℕ)
text_heard Text is_echoing line (Line number text) = Some (if is_echoing then text_line (codes "> " ++ text) else [])
text_heard (Json alloc) is_echoing line (Line number text) = Some (if is_echoing then data_line (line_data number text) else [])
text_heard Text is_echoing line (Told names name said) = Some (text_line (name.bytes ++ codes ": " ++ said_text names said))
text_heard (Json alloc) is_echoing line (Told names name said) = Some (data_line (said_data line names name said))
text_heard Text is_echoing line (Listed names row) = Some (text_line (row_text names row))
text_heard (Json alloc) is_echoing line (Listed names row) = option_map data_line (row_data line names row)
text_heard form is_echoing line (Behind names told) = Some []
text_heard form is_echoing line Drawn = None
text_heard form is_echoing line (Helped text) = Some text
text_heard form is_echoing line Done = Some []
text_heard form is_echoing line (Kept number text) = Some []
text_heard form is_echoing line Ended = Some []
text_heard form is_echoing line (Left [] lines) = Some []
text_heard Text is_echoing line (Left (first ∷ others) lines) = Some (text_line (left_text first others lines))
text_heard (Json alloc) is_echoing line (Left (first ∷ others) lines) = Some (data_line (left_data (first ∷ others) lines))

-- An output hears this: its text is written, where it is known.
pub record Prints {W : Type 0} (contents : W → Option (List ℕ)) (old : Output W) (heard : Heard) (new : Output W) : Type 0 where
  pub text : IfSome (text_heard old.form old.is_echoing old.line heard) (Appends (contents old.writer) (contents new.writer))
  pub line : new.line ≡ line_at old.line heard
  pub form : new.form ≡ old.form
  pub is_echoing : new.is_echoing ≡ old.is_echoing
