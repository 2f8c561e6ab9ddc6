use Rattle.std.proofs.Common.{refl}
use Rattle.scenario.proofs.Lemmas.InTurn.{on-ok}
use Rattle.scenario.proofs.run.Scene.show_line.Goals as goal

pub returns-clause-shown : goal.returns-clause-shown
returns-clause-shown g c =
    on-ok c.end_line.result (λ done. (c.begin_line.new.self, c.in_ok-begin_line.ensures.heard, (c.end_line.new.self, done, refl))) c.end_line.ensures.heard
