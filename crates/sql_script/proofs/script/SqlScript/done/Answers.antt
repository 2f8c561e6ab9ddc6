use Rattle.std.proofs.Common.{◌∙◌, ◌++◌, [], ◌∷◌, ap, subst}
use Rattle.sql_script.specs.Lines.{IsPlayedAtEnd}
use Rattle.sql_script.specs.Turns.{resumed_for}
use Rattle.sql_script.proofs.script.SqlScript.done.Goals as goal

pub returns : goal.returns
returns c =
    subst (λ work. IsPlayedAtEnd c.args.database c.args.self.now.sessions work c.push.new.self.items) c.in-Some.ensures (
      c.turn_of_end.result,
      c.in_ok-push.ensures.items ∙ ap (λ turns. turns ++ c.turn_of_end.result ∷ []) c.new-turns.ensures.items,
      ap (λ steps. steps.items) c.turn_of_end.ensures ∙ c.in_ok-steps.ensures
          ∙ ap (λ awaited. resumed_for c.in-Some.work.now.left.items awaited) c.in_ok-awaited.ensures,
    )
