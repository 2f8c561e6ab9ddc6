use Rattle.std.proofs.Common.{inr}
use Rattle.script_orders.proofs.Lemmas.Turns.{line_of_step}
use Rattle.script_orders.proofs.orders.Orders.give_line.Goals as goal

pub returns-clause-goes : goal.returns-clause-goes
returns-clause-goes c =
    inr (
      c.in_ok-step.step,
      c.in-Some.line.now,
      line_of_step c.args.self.now.script_lines.now c.args.session _ c.in_ok-step.step c.in-Some.line.now
          c.in_ok-step.ensures.whose c.in_ok-step.ensures.next c.in-Some.ensures.line,
      c.as_str.ensures.value,
      c.in_ok-step.ensures.added,
    )
