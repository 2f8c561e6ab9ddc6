use Rattle.scenario.proofs.Lemmas.InTurn.{on-ok}
use Rattle.scenario.proofs.run.Scene.hear_line.Goals as goal

pub returns-in-Ok-clause-done : goal.returns-in-Ok-clause-done
returns-in-Ok-clause-done g c = on-ok c.run_heard.result (λ does. (c.in-Ok.heard, c.in-Ok.ensures.heard, does)) c.run_heard.ensures.done

pub returns-in-Ok-clause-bad : goal.returns-in-Ok-clause-bad
returns-in-Ok-clause-bad g c = λ silent. c.run_heard.ensures.bad (search (c.hear.ensures.plain silent, c.in-Ok.is))

pub returns-in-Err-clause-bad : goal.returns-in-Err-clause-bad
returns-in-Err-clause-bad g c = λ silent.
    let plain = c.hear.ensures.plain silent in
    let is = c.in-Err.is in
    let never : ⊥ = cc in absurd never
