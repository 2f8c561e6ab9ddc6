use Rattle.std.proofs.Common.{◌∙◌, sym}
use Rattle.scenario.proofs.Lemmas.InTurn.{match-true, on-ok}
use Rattle.scenario.proofs.run.Scene.name_table.Goals as goal

pub returns-then-may_be_named : goal.returns-then-may_be_named
returns-then-may_be_named g c = record {
  named =
      on-ok c.run_naming.result (λ ran. match-true _ _ _ (sym c.may_be_named.ensures ∙ c.if-may_be_named.true) ran) c.run_naming.ensures.ran;
}
