use Rattle.std.proofs.Common.{take}
use Rattle.std.specs.Prelude.{map}
use Rattle.scenario.specs.Heard.{HearsAll, Listed}
use Rattle.scenario.specs.declared.answers.Row.TheVariants as row
use Rattle.scenario.proofs.listener.tell_slots.Given as goal

abbrev pub invariant-rows : goal.invariant-rows
invariant-rows g l = HearsAll g.L.Listener.hears l.fn.listener (map (λ slot. Listed l.names (row.Slot slot)) (take l.row-index l.rows)) l.listener
