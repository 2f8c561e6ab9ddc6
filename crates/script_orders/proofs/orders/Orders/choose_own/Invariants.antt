use Rattle.std.proofs.Common.{◌≡◌}
use Rattle.script_orders.specs.Turns.{KeepsOrder}
use Rattle.script_orders.proofs.orders.Orders.choose_own.Given as goal

abbrev pub invariant-loop : goal.invariant-loop
invariant-loop l = KeepsOrder l.fn.self l.self
