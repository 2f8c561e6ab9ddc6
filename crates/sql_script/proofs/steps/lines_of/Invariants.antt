use Rattle.std.proofs.Common.{◌≡◌, map, string_bytes, take}
use Rattle.sql_script.specs.Steps.{line_text, steps_in}
use Rattle.sql_script.proofs.steps.lines_of.Given as goal

abbrev pub invariant-loop-turn : goal.invariant-loop-turn
invariant-loop-turn l = map string_bytes l.lines.items ≡ map (line_text l.session) (steps_in (take l.turn-index l.turns))
