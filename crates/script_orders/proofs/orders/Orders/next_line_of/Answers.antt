use Rattle.std.proofs.Common.{◌∙◌, ap, slice_index}
use Rattle.script_orders.proofs.Lemmas.ScriptLines.{same_line}
use Rattle.script_orders.proofs.orders.Orders.next_line_of.Goals as goal

pub returns-clause-line : goal.returns-clause-line
returns-clause-line c =
    same_line c.args.self.now.script_lines.now c.args.session c.in_ok-line.field-0.now _ c.line.result
    (c.in_ok-line.ensures.lookup.3.1 0 ∙ ap (λ xs. slice_index xs c.args.session) c.deref.ensures.value) c.line.ensures.found
