use Rattle.std.proofs.Common.{◌≡◌, ℕ, ◌<◌, ◌≤◌, List, Option, None, Some, Bor, length, slice_index, subst, IfSome, MatchOption}
use Rattle.std.specs.List.{HoldsAt}
use Rattle.script_orders.specs.declared.steps.Step.{Step}
use Rattle.script_orders.specs.declared.script_lines.Actor.{Actor}
use Rattle.script_orders.specs.declared.script_lines.ScriptLines.{ScriptLines}
use Rattle.script_orders.specs.declared.script_lines.ScriptLine.{ScriptLine}
use Rattle.script_orders.specs.Turns.{IsLineAt}

-- a line that is found among an actor's own is that one of the script
pub found_line : (script_lines : ScriptLines) (step : Step) (actor : Actor) (actors : List Actor) (lines : List ScriptLine)
    (line : Option (Bor ScriptLine)) → actors ≡ script_lines.actors.items → lines ≡ actor.lines.items
    → step.session < length actors → HoldsAt (λ its. actor ≡ its) actors step.session
    → MatchOption line (length lines ≤ step.line)
    (λ found. (step.line < length lines) × HoldsAt (λ its. found.now ≡ its) lines step.line)
    → IfSome line (λ found. IsLineAt script_lines step found.now)
found_line script_lines step actor actors lines None a l there its none = tt
found_line script_lines step actor actors lines (Some line) a l there its found = (
  actor,
  subst (λ xs. step.session < length xs) a there,
  subst (λ xs. step.line < length xs) l found.0,
  subst (λ xs. HoldsAt (λ one. actor ≡ one) xs step.session) a its,
  subst (λ xs. HoldsAt (λ one. line.now ≡ one) xs step.line) l found.1,
)

-- a line that has this number among its session's is the same under any other name of the number
pub same_line : (script_lines : ScriptLines) (session number count : ℕ) (line : Option (Bor ScriptLine)) → number ≡ count
    → IfSome line (λ found. IsLineAt script_lines (record { session = session; line = number }) found.now)
    → IfSome line (λ found. IsLineAt script_lines (record { session = session; line = count }) found.now)
same_line script_lines session number count line same found =
    subst (λ n. IfSome line (λ one. IsLineAt script_lines (record { session = session; line = n }) one.now)) same found
