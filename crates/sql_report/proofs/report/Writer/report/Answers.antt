use Rattle.std.proofs.Common.{◌≡◌, sym, ◌∙◌, ap, All, map}
use Rattle.sql_report.specs.Report.{line_of, line_of_statement, IsAnswer}
use Rattle.sql_report.proofs.report.Writer.report.Goals as goal

pub returns-clause-answers : goal.returns-clause-answers
returns-clause-answers c = (
  c.in_ok-statements.statements.items,
  c.in_ok-statements.ensures.nothing_lost,
  c.in_ok-statements.ensures.lines,
  ap (map line_of) c.in_ok-report_of.ensures.answers ∙ c.in_ok-answers.ensures.lines,
  rw c.in_ok-report_of.ensures.answers c.in_ok-answers.ensures.each,
)
