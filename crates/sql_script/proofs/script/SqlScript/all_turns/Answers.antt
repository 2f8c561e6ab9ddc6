use Rattle.std.proofs.Common.{rules, ◌≡◌, [], ◌∷◌, ◌++◌, map, ap, sym, ◌∙◌}
use Rattle.std.proofs.lemmas.List.{map-append}
use Rattle.std.proofs.lemmas.List.Elements.{All-push}
use Rattle.sql_report.specs.Report.{line_of_statement}
use Rattle.sql_script.specs.Turns.{line_of_turn, IsTurn}
use Rattle.sql_script.proofs.script.SqlScript.all_turns.Goals as goal

pub loop-statement-preserved : goal.loop-statement-preserved
loop-statement-preserved c =
    let appended : c.push.new.self.items ≡ c.loop-statement.turns.items ++ c.in_ok-turn.turn ∷ [] = search rules in
    let lines : map line_of_turn c.push.new.self.items ≡ map line_of_statement (c.loop-statement.yielded ++ c.in-Some.statement ∷ []) =
    ap (map line_of_turn) appended ∙ map-append line_of_turn c.loop-statement.turns.items (c.in_ok-turn.turn ∷ [])
    ∙ ap (λ front. front ++ line_of_turn c.in_ok-turn.turn ∷ []) c.loop-statement.invariant.0
    ∙ ap (λ line. map line_of_statement c.loop-statement.yielded ++ line ∷ []) c.in_ok-turn.ensures.line
    ∙ sym (map-append line_of_statement c.loop-statement.yielded (c.in-Some.statement ∷ [])) in
    (lines, rw appended (All-push (IsTurn c.args.database c.args.works) c.loop-statement.turns.items c.in_ok-turn.turn c.loop-statement.invariant.1 c.in_ok-turn.ensures.turn))
