use Rattle.scenario.specs.Heard.{Listed}
use Rattle.scenario.specs.declared.answers.Row.TheVariants as row
use Rattle.scenario.proofs.Lemmas.Hearing.{hears-next}
use Rattle.scenario.proofs.listener.tell_slots.Goals as goal

pub rows-preserved : goal.rows-preserved
rows-preserved g c =
    hears-next g.L.Listener.hears (λ slot. Listed c.args.names.now (row.Slot slot)) c.args.listener.now c.rows.listener c.row.new.self c.args.rows.now c.rows.row-index c.row-item.result
    c.rows-test.true c.row-item.is c.rows.invariant c.in_ok-row.ensures.heard
