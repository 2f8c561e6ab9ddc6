use Rattle.std.proofs.Common.{rules, ◌≡◌, [], ◌∷◌, ◌++◌, map, ap, sym, ◌∙◌}
use Rattle.std.proofs.lemmas.List.{map-append}
use Rattle.std.proofs.lemmas.List.Elements.{All-push}
use Rattle.sql_report.specs.Report.{line_of, line_of_statement, IsAnswer}
use Rattle.sql_report.proofs.report.Writer.answer_all.Goals as goal

pub loop-statement-preserved : goal.loop-statement-preserved
loop-statement-preserved c =
    let appended : c.push.new.self.items ≡ c.loop-statement.answers.items ++ c.in_ok-answer.answer ∷ [] = search rules in
    let lines : map line_of c.push.new.self.items ≡ map line_of_statement (c.loop-statement.yielded ++ c.in-Some.statement ∷ []) =
    ap (map line_of) appended ∙ map-append line_of c.loop-statement.answers.items (c.in_ok-answer.answer ∷ [])
    ∙ ap (λ front. front ++ line_of c.in_ok-answer.answer ∷ []) c.loop-statement.invariant.0
    ∙ ap (λ line. map line_of_statement c.loop-statement.yielded ++ line ∷ []) c.in_ok-answer.ensures.line
    ∙ sym (map-append line_of_statement c.loop-statement.yielded (c.in-Some.statement ∷ [])) in
    (lines, rw appended (All-push IsAnswer c.loop-statement.answers.items c.in_ok-answer.answer c.loop-statement.invariant.1 c.in_ok-answer.ensures.answer))
