use Rattle.std.proofs.Common.{inl, refl}
use Rattle.script_orders.proofs.Lemmas.Turns.{holds_at}
use Rattle.script_orders.proofs.orders.Orders.give_opening.Goals as goal

pub returns-clause-goes : goal.returns-clause-goes
returns-clause-goes c =
    inl (
      c.index-line.result.now,
      c.requires,
      holds_at c.args.self.now.script_lines.now.opening.items c.args.self.now.opened c.index-line.result.now c.index-line.ensures c.requires,
      c.as_str.ensures.value,
      refl,
      refl,
    )
