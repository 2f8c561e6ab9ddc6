use Rattle.std.proofs.Common.{◌≡◌, All, map}
use Rattle.sql_report.specs.Report.{line_of_statement}
use Rattle.sql_script.specs.Turns.{line_of_turn, IsTurn}
use Rattle.sql_script.proofs.script.SqlScript.all_turns.Given as goal

abbrev pub invariant-loop-statement : goal.invariant-loop-statement
invariant-loop-statement l =
    (map line_of_turn l.turns.items ≡ map line_of_statement l.yielded) × All (IsTurn l.database l.works) l.turns.items
