use Rattle.std.proofs.Common.{[], ◌∷◌, inl, refl}
use Rattle.scenario.specs.Heard.{Helped}
use Rattle.scenario.proofs.Lemmas.Hearing.{hears-one}
use Rattle.scenario_program.proofs.shell.answer.Goals as goal

pub returns-in_ok-tell-in-Ok-Help-clause-answered : goal.returns-in_ok-tell-in-Ok-Help-clause-answered
returns-in_ok-tell-in-Ok-Help-clause-answered g c = λ _.
    let asks = rw c.in-Ok-Help.field-0-is at c.in-Ok-Help.ensures in (
      asks.1,
      (
        Helped c.as_str.result.now ∷ [],
        inl (inl asks.0, (c.as_str.result.now, refl, refl)),
        hears-one g.L.Listener.hears c.args.scene.now.listener c.tell.new.self (Helped c.as_str.result.now) c.in_ok-tell-in-Ok-Help.ensures.heard,
      ),
    )
