use Rattle.std.proofs.Common.{◌≡◌, take, string_bytes}
use Rattle.std.specs.List.{flat_map}
use Rattle.sql_report.specs.Report.{text_of}
use Rattle.sql_report.proofs.report.texts_of.Given as goal

abbrev pub invariant-loop-answer : goal.invariant-loop-answer
invariant-loop-answer l = string_bytes l.text ≡ flat_map text_of (take l.answer-index l.answers)
