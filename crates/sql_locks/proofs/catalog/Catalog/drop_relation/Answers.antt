use Rattle.std.proofs.Common.{rules, arith}
use Rattle.std.proofs.lemmas.Fn.{filter_same}
use Rattle.std.proofs.lemmas.Map.Text.{text_keys}
use Rattle.sql_locks.proofs.catalog.Catalog.drop_relation.Goals as goal

pub returns-clause-links : goal.returns-clause-links
returns-clause-links c = filter_same _ _ _ (λ x b f' k. search rules) _ _ c.retain.ensures.filtered

pub returns-clause-others : goal.returns-clause-others
returns-clause-others c = grind (arith, text_keys)
