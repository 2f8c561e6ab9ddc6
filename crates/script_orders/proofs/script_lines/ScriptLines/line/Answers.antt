use Rattle.script_orders.proofs.Lemmas.ScriptLines.{found_line}
use Rattle.script_orders.proofs.script_lines.ScriptLines.line.Goals as goal

pub returns-then-step-len-clause-found : goal.returns-then-step-len-clause-found
returns-then-step-len-clause-found c =
    found_line c.args.self.now c.args.step c.in_ok-lines.field-0.now _ _ c.get-then-step-len.result
    c.deref.ensures.value c.deref-then-step-len.ensures.value
    c.in_ok-lines.ensures.lookup.3.0 c.in_ok-lines.ensures.lookup.3.1 c.get-then-step-len.ensures.lookup.3
