use Rattle.std.proofs.Common.{◌≡◌, All, map}
use Rattle.sql_report.specs.Report.{line_of, line_of_statement, IsAnswer}
use Rattle.sql_report.proofs.report.Writer.answer_all.Given as goal

abbrev pub invariant-loop-statement : goal.invariant-loop-statement
invariant-loop-statement l =
    (map line_of l.answers.items ≡ map line_of_statement l.yielded) × All IsAnswer l.answers.items
