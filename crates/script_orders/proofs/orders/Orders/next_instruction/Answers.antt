use Rattle.script_orders.proofs.Lemmas.Steps.{in_own_order}
use Rattle.script_orders.proofs.orders.Orders.next_instruction.Goals as goal

pub returns-clause-in_order : goal.returns-clause-in_order
returns-clause-in_order c = in_own_order _ c.go_on.new.self.order.taken.items c.go_on.new.self.order.in_order
