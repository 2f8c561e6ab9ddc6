use Rattle.std.proofs.Common.{[], ◌∷◌, inl, inr, refl}
use Rattle.std.proofs.lemmas.Result.{on_ok_weaker}
use Rattle.scenario.specs.Heard.{Drawn, Told}
use Rattle.scenario.specs.declared.answers.Said.TheVariants as said
use Rattle.scenario.proofs.run.Scene.draw.Goals as goal

pub returns-in-Ok-clause-drawn : goal.returns-in-Ok-clause-drawn
returns-in-Ok-clause-drawn g c = on_ok_weaker c.picture-in-Ok.result
    (λ heard. (
      Drawn ∷ [],
      inr (c.args.caller.place, c.picture.ensures.looked, c.picture.ensures.names, inl refl),
      (c.picture-in-Ok.new.self, heard, refl),
    ))
    c.picture-in-Ok.ensures.heard

pub returns-in-Err-clause-drawn : goal.returns-in-Err-clause-drawn
returns-in-Err-clause-drawn g c = on_ok_weaker c.said.result
    (λ heard. (
      Told c.picture.new.self.names c.args.caller.name (said.Refused c.in-Err.refusal) ∷ [],
      inr (
        c.args.caller.place,
        c.picture.ensures.looked,
        c.picture.ensures.names,
        inr (c.args.caller.name, c.in-Err.refusal, refl),
      ),
      (c.said.new.self, heard, refl),
    ))
    c.said.ensures.heard
