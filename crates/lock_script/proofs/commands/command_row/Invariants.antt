use Rattle.std.proofs.Common.{◌≢◌, ℕ, ◌<◌, get_or}
use Rattle.lock_script.specs.declared.commands.CommandRow.{CommandRow}
use Rattle.lock_script.proofs.commands.command_row.Given as goal

abbrev pub invariant-rows : goal.invariant-rows
invariant-rows l = (i : ℕ) (d : CommandRow) → i < l.row-index → (get_or l.row-items i d).verb.now ≢ l.verb
