use Rattle.std.proofs.Common.{◌≡◌, ◌++◌, map, string_bytes, take}
use Rattle.sql_script.specs.Steps.{line_text}
use Rattle.sql_script.proofs.steps.push_lines.Given as goal

abbrev pub invariant-loop-step : goal.invariant-loop-step
invariant-loop-step l = map string_bytes l.lines.items ≡
    map string_bytes l.initial.lines.items ++ map (line_text l.session) (take l.step-index l.step-items)
