use Rattle.std.specs.Prelude.{ℕ, ◌+◌}
use Rattle.script_orders.specs.declared.ends.Endings.{Endings}

-- how many orders were run to their end, or until they were stuck
abbrev pub run_of : Endings → ℕ
run_of endings = endings.ended.orders + endings.stuck.orders

-- how many orders were begun: those that were run, and those that were given up
abbrev pub begun_of : Endings → ℕ
begun_of endings = run_of endings + endings.given_up
