use Rattle.shared_rule.proofs.Lemmas.AtTable.{at-table}
use Rattle.shared_rule.proofs.table_laws.no_two_conflict_at_the_table.Goals as goal

pub returns : goal.returns
returns g c = λ sizes state rule. at-table _ _ sizes state rule
