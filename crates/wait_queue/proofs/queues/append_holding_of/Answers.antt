use Rattle.std.proofs.Common.{◌≡◌, ◌++◌, sym, ◌∙◌, subst, OnOk}
use Rattle.wait_queue.proofs.Lemmas.Blockers.{holding-another}
use Rattle.wait_queue.proofs.queues.append_holding_of.Goals as goal

pub returns : goal.returns
returns g c =
    subst (λ rows. OnOk c.append_modes.result (c.append_modes.new.found.items ≡ c.args.found.now.items ++ rows))
    (holding-another (g.P.PartTable.content c.args.part.now) c.args.tag.now c.args.session c.args.mode c.args.other _ _
    (λ same. c.if-number.false (c.number.ensures.value ∙ same ∙ sym c.number-2.ensures.value)) c.held.ensures c.conflicts.ensures)
    c.append_modes.ensures
