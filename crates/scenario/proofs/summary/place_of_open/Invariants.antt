use Rattle.std.proofs.Common.{ℕ, ◌<◌, get_or}
use Rattle.scenario.specs.declared.summary.WaitRow.{WaitRow}
use Rattle.scenario.specs.Summaries.{IsOpen}
use Rattle.scenario.proofs.summary.place_of_open.Given as goal

abbrev pub invariant-rows : goal.invariant-rows
invariant-rows l = (k : ℕ) (d : WaitRow) → k < l.place → IsOpen l.name.bytes (get_or l.waits k d) → ⊥
