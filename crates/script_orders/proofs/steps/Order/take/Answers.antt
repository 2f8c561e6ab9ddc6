use Rattle.std.proofs.Common.{◌+◌, ◌∙◌, subst, sym, slice_set}
use Rattle.std.proofs.lemmas.List.{get_or_default}
use Rattle.script_orders.specs.Steps.{KeepsOwnOrder}
use Rattle.script_orders.proofs.Lemmas.Steps.{keeps_order}
use Rattle.script_orders.proofs.steps.Order.take.Goals as goal

pub invariant_of-self-2 : goal.invariant_of-self-2
invariant_of-self-2 c = record {
  in_order = subst (λ steps. KeepsOwnOrder steps (slice_set c.args.self.now.taken.items c.args.session (c.index-line.result.now + 1)))
      (sym c.in_ok-push.ensures.items)
      (keeps_order c.args.self.now.steps.items c.args.self.now.taken.items (record { session = c.args.session; line = c.index-line.result.now })
      c.args.self.now.in_order (c.index-line.ensures ∙ get_or_default _ _ _ 0 c.requires.there) c.requires.there);
}
