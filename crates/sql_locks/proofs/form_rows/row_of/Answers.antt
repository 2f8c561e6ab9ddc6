use denote.Enum.Bare.{same_true}
use Rattle.std.proofs.Common.{rules, sym}
use Rattle.sql_locks.specs.contracts.forms.Form.{the_type}
use Rattle.sql_locks.proofs.form_rows.row_of.Goals as goal

pub returns-then-eq : goal.returns-then-eq
returns-then-eq c = same_true the_type (search rules) _ _ (sym c.if-eq.ensures)
