use Rattle.std.specs.Prelude.{◌≡◌, ℕ, ◌+◌, ◌<◌, List, [], ◌∷◌, ◌++◌, ⊤, ◌⊎◌, length, string_bytes}
use Rattle.std.specs.List.{HoldsAt}
use Rattle.script_orders.specs.declared.orders.Orders.{Orders}
use Rattle.script_orders.specs.declared.orders.Instruction.{Instruction}
use Rattle.script_orders.specs.declared.orders.Instruction.TheVariants.{Line, Anew, End}
use Rattle.script_orders.specs.declared.steps.Step.{Step}
use Rattle.script_orders.specs.declared.script_lines.Actor.{Actor}
use Rattle.script_orders.specs.declared.script_lines.ScriptLines.{ScriptLines}
use Rattle.script_orders.specs.declared.script_lines.ScriptLine.{ScriptLine}

-- the lines that were run of the order that is played, one after the other
abbrev pub steps_of : Orders → List Step
steps_of orders = orders.order.steps.items

-- This line of a session is that one of the script.
abbrev pub IsLineAt : ScriptLines → Step → ScriptLine → Type 0
IsLineAt script_lines step line =
    (actor : Actor) × (step.session < length script_lines.actors.items) × (step.line < length actor.lines.items)
    × HoldsAt (λ its. actor ≡ its) script_lines.actors.items step.session × HoldsAt (λ its. line ≡ its) actor.lines.items step.line

-- The next of the lines that come before all orders is given.
abbrev pub GivesOpening : Orders → Orders → List ℕ → Type 0
GivesOpening old new text =
    (line : ScriptLine) × (old.opened < length old.script_lines.now.opening.items)
    × HoldsAt (λ its. line ≡ its) old.script_lines.now.opening.items old.opened
    × (text ≡ string_bytes line.text) × (new.opened ≡ old.opened + 1) × (steps_of new ≡ steps_of old)

-- A line of a session is given, and with that counts as run.
abbrev pub GivesStep : Orders → Orders → List ℕ → Type 0
GivesStep old new text =
    (step : Step) × (line : ScriptLine) × IsLineAt old.script_lines.now step line
    × (text ≡ string_bytes line.text) × (steps_of new ≡ steps_of old ++ step ∷ [])

-- What a turn does to the order that is played: it has one line more, or is as it was, or a new one begins
-- with no line.
abbrev pub Goes : Orders → Orders → Instruction → Type 0
Goes old new (Line text) = GivesOpening old new text.now ⊎ GivesStep old new text.now
Goes old new Anew = steps_of new ≡ []
Goes old new End = ⊤

-- Another order begins with no line, or with another lock manager.
abbrev pub Begins : Orders → Instruction → Type 0
Begins new (Line text) = ⊥
Begins new Anew = steps_of new ≡ []
Begins new End = steps_of new ≡ []

-- The order that is played stays as it is, and so do its script and the lines that come before it.
abbrev pub KeepsOrder : Orders → Orders → Type 0
KeepsOrder old new =
    (steps_of new ≡ steps_of old) × (new.order.taken ≡ old.order.taken)
    × (new.script_lines.now ≡ old.script_lines.now) × (new.opened ≡ old.opened)
