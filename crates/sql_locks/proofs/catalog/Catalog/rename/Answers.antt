use Rattle.std.proofs.Common.{arith}
use Rattle.std.proofs.lemmas.Map.Text.{text_keys}
use Rattle.sql_locks.proofs.catalog.Catalog.rename.Goals as goal

pub returns-clause-named : goal.returns-clause-named
returns-clause-named c = grind (arith, text_keys)
