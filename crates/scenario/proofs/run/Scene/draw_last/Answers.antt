use Rattle.std.proofs.Common.{[], ◌∷◌, inr, refl}
use Rattle.std.proofs.lemmas.Result.{on_ok_weaker}
use Rattle.scenario.specs.Heard.{Drawn}
use Rattle.scenario.proofs.run.Scene.draw_last.Goals as goal

pub returns-in-Ok-clause-drawn : goal.returns-in-Ok-clause-drawn
returns-in-Ok-clause-drawn g c =
    on_ok_weaker c.picture.result (λ heard. (Drawn ∷ [], inr refl, (c.picture.new.self, heard, refl))) c.picture.ensures.heard
