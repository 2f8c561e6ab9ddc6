use Rattle.scenario.proofs.Lemmas.Failing.{keeps-bad}
use Rattle.scenario.proofs.run.Scene.keep.Goals as goal

pub returns-clause-bad : goal.returns-clause-bad
returns-clause-bad g c =
    keeps-bad g.L.Listener.hears c.args.self.now.listener c.keep_line.new.self (record { number = c.args.line.number; text = c.args.line.text.now })
    c.kept_or_fault.result c.in_ok-keep_line.ensures.heard c.kept_or_fault.ensures.bad
