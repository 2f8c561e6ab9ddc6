use Rattle.scenario.specs.Heard.{Listed}
use Rattle.scenario.specs.declared.answers.Row.TheVariants as row
use Rattle.scenario.proofs.Lemmas.Hearing.{hears-next}
use Rattle.scenario.proofs.listener.tell_blockers.Goals as goal

pub rows-preserved : goal.rows-preserved
rows-preserved g c =
    hears-next g.L.Listener.hears (λ blocker. Listed c.args.names.now (row.InTheWay c.args.name blocker)) c.args.listener.now c.rows.listener c.row.new.self c.args.found.now c.rows.blocker-index c.blocker-item.result
    c.rows-test.true c.blocker-item.is c.rows.invariant c.in_ok-row.ensures.heard
