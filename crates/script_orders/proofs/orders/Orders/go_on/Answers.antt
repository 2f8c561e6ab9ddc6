use Rattle.script_orders.proofs.Lemmas.Turns.{may_keep}
use Rattle.script_orders.proofs.orders.Orders.go_on.Goals as goal

pub returns-in-Of-clause-goes : goal.returns-in-Of-clause-goes
returns-in-Of-clause-goes c =
    may_keep c.args.self.now c.choose.new.self c.give_line.new.self c.give_line.result c.choose.ensures c.give_line.ensures.goes
