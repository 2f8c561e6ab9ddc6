use Rattle.std.proofs.Common.{[], ◌∷◌, inl, inr, refl}
use Rattle.scenario.specs.Heard.{Helped}
use Rattle.scenario.proofs.Lemmas.Hearing.{hears-one}
use Rattle.scenario.proofs.Lemmas.InTurn.{on-ok}
use Rattle.scenario_program.proofs.shell.answer_line.Goals as goal

pub returns-in-Ok-clause-answered : goal.returns-in-Ok-clause-answered
returns-in-Ok-clause-answered g c =
    on-ok c.tell.result
    (λ told. (
      Helped c.as_str.result.now ∷ [],
      inl (inr c.in-Err.ensures.refused, (c.as_str.result.now, refl, refl)),
      hears-one g.L.Listener.hears c.args.scene.now.listener c.tell.new.self (Helped c.as_str.result.now) told,
    )) c.tell.ensures.heard
